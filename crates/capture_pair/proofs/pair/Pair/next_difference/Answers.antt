use Rattle.std.proofs.Common.{◌+◌, ◌≤◌, ◌∙◌, length, ap, sym, subst, rules}
use Rattle.std.specs.Prelude.{slice_get}
use Rattle.std.specs.Option.{option_to_list}
use Rattle.listener.specs.Feeding.{out}
use Rattle.listener_pair.specs.Differences.{differences}
use Rattle.capture_pair.specs.Feeding.{FedPair, StandsFor, known_by, most_left}
use Rattle.capture_pair.specs.state.Sides.{OfBytes}
use Rattle.capture_pair.proofs.Fed.{heard-a, heard-b, sides-as, stands-as}
use Rattle.capture_pair.proofs.pair.Pair.next_difference.Goals as goal

pub returns : goal.returns
returns c = record {
  given = λ bytes others given short s.
      let pair : FedPair = record { a = c.self.inside.a.listener; b = c.self.inside.b.listener; matching = c.self.inside.matching } in
      let st = subst (StandsFor bytes others given) (sym c.self.view_is) s in
      c.next_difference.ensures.given (OfBytes bytes) (OfBytes others) (out pair.a bytes) (out pair.b others) given (heard-a bytes others pair short) (heard-b bytes others pair short) (sides-as bytes others given pair st)
      ∙ ap (λ (p : FedPair). slice_get (differences (known_by p bytes others)) given) c.self.view_is;
  stands = λ bytes others given short s.
      let pair : FedPair = record { a = c.self.inside.a.listener; b = c.self.inside.b.listener; matching = c.self.inside.matching } in
      let st = subst (StandsFor bytes others given) (sym c.self.view_is) s in
      stands-as bytes others (out pair.a bytes) (out pair.b others) (given + length (option_to_list c.next_difference.result)) c.next_difference.new.a.listener c.next_difference.new.b.listener c.next_difference.new.matching
      (c.next_difference.ensures.pairs (OfBytes bytes) (OfBytes others) (out pair.a bytes) (out pair.b others) given (heard-a bytes others pair short) (heard-b bytes others pair short) (sides-as bytes others given pair st));
  through = search rules;
  keeps = search rules;
  less =
      let left = c.next_difference.new in
      let new : FedPair = record { a = left.a.listener; b = left.b.listener; matching = left.matching } in
      subst (λ (p : FedPair). most_left new + length (option_to_list c.next_difference.result) ≤ most_left p) c.self.view_is c.next_difference.ensures.less;
}
