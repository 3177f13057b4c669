use Rattle.std.proofs.Common.{◌-◌, ◌++◌, ℕ, List, drop, length, rules, take, subst, ap, ◌∙◌, arith}
use Rattle.pcap_frames.specs.Reading.{taken}
use Rattle.pcap_frames.proofs.Steps.{all_steps, rest_long, two_steps}
use Rattle.listener.specs.state.Feeding.{HasGiven}
use Rattle.listener.proofs.Fed.{given_on}
use Rattle.listener.proofs.capture.feed_piece.Goals as goal

pub loop-used-preserved : goal.loop-used-preserved
loop-used-preserved c =
    let piece = c.args.piece.now in
    let used = c.loop-used.used in
    let rest = take (length piece - used) (drop used piece) in
    let keeps = c.in_ok-give_all-in-Ok.ensures.keeps in
    record {
      within = omega (arith, c.in-Ok.ensures.within, rest_long used piece);
      bounded = omega (arith, c.loop-used.invariant.bounded, c.in-Ok.ensures.taken, ap taken keeps.reader);
      ready = record {
        opened = keeps.ended ∙ c.in-Ok.ensures.open;
        ready = record { quiet = c.in_ok-give_all-in-Ok.ensures.quiet; memory = keeps.memory ∙ c.in-Ok.ensures.memory };
      };
      plan = keeps.plan ∙ (c.in-Ok.ensures.plan ∙ c.loop-used.invariant.plan);
      given = λ bytes has.
          let here = c.loop-used.invariant.given bytes has in
          let on = given_on (bytes ++ take used piece) (take c.in-Ok.taken rest) c.loop-used.list.items c.loop-used.listener c.feed.new.self here c.loop-used.invariant.ready.ready.memory c.loop-used.invariant.ready.opened c.in-Ok.ensures.open c.in-Ok.ensures.plan
          (c.in-Ok.ensures.stands (bytes ++ take used piece) (length c.loop-used.list.items) here.stands) in
          subst (λ (l : List ℕ). HasGiven l c.give_all.new.list.items c.give_all.new.listener) (two_steps bytes used c.in-Ok.taken piece)
          (c.in_ok-give_all-in-Ok.ensures.given ((bytes ++ take used piece) ++ take c.in-Ok.taken rest) on);
    }

pub returns-in-Err-Refused : goal.returns-in-Err-Refused
returns-in-Err-Refused c =
    let piece = c.args.piece.now in
    let used = c.loop-used.used in
    let rest = take (length piece - used) (drop used piece) in
    let i = c.loop-used.invariant in
    record {
      given = λ bytes has.
          let here = i.given bytes has in
          subst (λ (l : List ℕ). HasGiven l c.loop-used.list.items c.feed.new.self) (all_steps bytes used piece)
          (given_on (bytes ++ take used piece) rest c.loop-used.list.items c.loop-used.listener c.feed.new.self here i.ready.ready.memory i.ready.opened c.in-Err-Refused.ensures.open c.in-Err-Refused.ensures.plan
          (rw c.in-Err-Refused.field-0-is at (c.in-Err-Refused.ensures.stands (bytes ++ take used piece) (length c.loop-used.list.items) here.stands)));
      plan = search rules;
      ready = search rules;
    }
