use Rattle.std.proofs.Common.{◌≡◌, ℕ, Bool, cond, false, ap, arith, length, sym, ◌∙◌}
use Rattle.clock_track.specs.Rows.{clock_spot}
use Rattle.listener.proofs.Judging.{item_open, judges_item}
use Rattle.listener.proofs.record_listener.judge_next.Goals as goal

pub returns-in-Some : goal.returns-in-Some
returns-in-Some c =
    let long = ap length c.in-Some.ensures.left in
    let opened : c.args.judge.now.closed ≡ false = item_open c.args.judge.now.closed c.args.ended c.args.units.now c.next.new.self c.in-Some.item c.requires.ready.over c.in-Some.ensures.left in
    record {
      judges = λ entries given j. judges_item entries given c.args.judge.now c.step.new.self c.args.units.now c.next.new.self c.in-Some.item c.in-Some.ensures.left (λ es n s. c.step.ensures.stands clock_spot es n s) j;
      units = c.next.ensures.stands;
      plan = c.step.ensures.plan;
      ready = record {
        closed = c.requires.ready.closed ∙ (opened ∙ sym c.step.ensures.open);
        over = λ e. let closed = c.step.ensures.open in absurd cc;
        few = omega (arith, c.requires.ready.few, c.step.ensures.taken, long);
      };
      less = λ e. omega (arith, long, ap {B = ℕ} (λ (b : Bool). cond b 0 1) c.step.ensures.open, ap {B = ℕ} (λ (b : Bool). cond b 0 1) opened);
      none = λ e. absurd cc;
    }
