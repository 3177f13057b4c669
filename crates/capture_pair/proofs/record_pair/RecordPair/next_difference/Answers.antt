use Rattle.std.proofs.Common.{◌+◌, ◌≤◌, ◌∙◌, length, ap, sym, subst, rules}
use Rattle.std.specs.Prelude.{slice_get}
use Rattle.std.specs.Option.{option_to_list}
use Rattle.listener.specs.Listening.{out}
use Rattle.listener_pair.specs.Differences.{differences}
use Rattle.capture_pair.specs.Pairing.{PairState, StandsFor, known_by, most_left}
use Rattle.capture_pair.specs.state.Sides.{OfRecords}
use Rattle.capture_pair.proofs.Taking.{heard-a, heard-b, sides-as, stands-as}
use Rattle.capture_pair.proofs.record_pair.RecordPair.next_difference.Goals as goal

pub returns : goal.returns
returns c = record {
  given = λ records others given s.
      let pair : PairState = record { a = c.self.inside.a.listener; b = c.self.inside.b.listener; matching = c.self.inside.matching } in
      let st = subst (StandsFor records others given) (sym c.self.view_is) s in
      c.next_difference.ensures.given (OfRecords records) (OfRecords others) (out pair.a records) (out pair.b others) given (heard-a records others given pair st c.self.invariant.1) (heard-b records others given pair st c.self.invariant.2) (sides-as records others given pair st)
      ∙ ap (λ (p : PairState). slice_get (differences (known_by p records others)) given) c.self.view_is;
  stands = λ records others given s.
      let pair : PairState = record { a = c.self.inside.a.listener; b = c.self.inside.b.listener; matching = c.self.inside.matching } in
      let st = subst (StandsFor records others given) (sym c.self.view_is) s in
      stands-as records others (out pair.a records) (out pair.b others) (given + length (option_to_list c.next_difference.result)) c.next_difference.new.a.listener c.next_difference.new.b.listener c.next_difference.new.matching
      (c.next_difference.ensures.pairs (OfRecords records) (OfRecords others) (out pair.a records) (out pair.b others) given (heard-a records others given pair st c.self.invariant.1) (heard-b records others given pair st c.self.invariant.2) (sides-as records others given pair st));
  through = search rules;
  keeps = search rules;
  ends = record { a = c.next_difference.ensures.stays.settled.over_a; b = c.next_difference.ensures.stays.settled.over_b };
  less =
      let left = c.next_difference.new in
      let new : PairState = record { a = left.a.listener; b = left.b.listener; matching = left.matching } in
      subst (λ (p : PairState). most_left new + length (option_to_list c.next_difference.result) ≤ most_left p) c.self.view_is c.next_difference.ensures.less;
}
