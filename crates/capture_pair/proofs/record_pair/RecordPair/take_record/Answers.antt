use Rattle.std.proofs.Common.{◌≡◌, ◌∙◌, ◌^◌, ◌<◌, Some, ap, sym, subst, rules}
use Rattle.pcap_frames.specs.Reading.{shown}
use Rattle.listener.specs.Listening.{IsIdle as IsIdleListener}
use Rattle.listener_pair.specs.Matching.{wanted}
use Rattle.capture_pair.specs.Pairing.{PairState, StandsFor, listener_of}
use Rattle.capture_pair.proofs.Taking.{open-side, took-a, took-b}
use Rattle.capture_pair.proofs.record_pair.RecordPair.take_record.Goals as goal

pub returns : goal.returns
returns c = record {
  stands_a = λ is records others given s.
      let pair : PairState = record { a = c.self.inside.a.listener; b = c.self.inside.b.listener; matching = c.self.inside.matching } in
      let w : wanted pair.matching ≡ Some c.args.which = ap (λ (p : PairState). wanted p.matching) c.self.view_is ∙ c.requires.wanted in
      let few = subst (λ (p : PairState). (listener_of c.args.which p).counts.frames < 2 ^ 61) (sym c.self.view_is) c.requires.few in
      took-a c.args.which (shown c.args.held.now) records others given pair c.take.new.a.listener c.take.new.b.listener c.fill_both.new.a.listener c.fill_both.new.b.listener c.fill_both.new.matching is w
      (open-side c.args.which (IsIdleListener pair.a) (IsIdleListener pair.b) pair c.self.invariant.0 w) c.in_ok-take.ensures few c.self.invariant.2 c.fill_both.ensures.pairs (subst (StandsFor records others given) (sym c.self.view_is) s);
  stands_b = λ is records others given s.
      let pair : PairState = record { a = c.self.inside.a.listener; b = c.self.inside.b.listener; matching = c.self.inside.matching } in
      let w : wanted pair.matching ≡ Some c.args.which = ap (λ (p : PairState). wanted p.matching) c.self.view_is ∙ c.requires.wanted in
      let few = subst (λ (p : PairState). (listener_of c.args.which p).counts.frames < 2 ^ 61) (sym c.self.view_is) c.requires.few in
      took-b c.args.which (shown c.args.held.now) records others given pair c.take.new.a.listener c.take.new.b.listener c.fill_both.new.a.listener c.fill_both.new.b.listener c.fill_both.new.matching is w
      (open-side c.args.which (IsIdleListener pair.a) (IsIdleListener pair.b) pair c.self.invariant.0 w) c.in_ok-take.ensures few c.self.invariant.1 c.fill_both.ensures.pairs (subst (StandsFor records others given) (sym c.self.view_is) s);
  taken = search rules;
  same = search rules;
}
