-- The last of the remaining stamps is the result if it fits, and is dropped otherwise.
use Rattle.std.proofs.Common.{◌≡◌, true, false, All, List, [], sym, ap, ◌∙◌, subst}
use Rattle.std.proofs.lemmas.List.{nil_from_length}
use Rattle.time_unfold.specs.declared.stamp.Stamp.{Stamp}
use Rattle.time_unfold.specs.Limits.{IsStamp}
use Rattle.time_unfold.specs.Stamps.{find_last, fits}
use Rattle.time_unfold.proofs.Found.{All-front, find_last-passes, find_last-fails}
use Rattle.time_unfold.proofs.head.last_fit.Goals as goal

pub returns-then-fits-clause-value : goal.returns-then-fits-clause-value
returns-then-fits-clause-value c =
    let split = c.in-Some.ensures.cases in
    let passes : fits c.args.want.now c.in-Some.last.now ≡ true = sym c.fits.ensures ∙ c.if-fits.true in
    sym (find_last-passes (fits c.args.want.now) c.in-Some.front.now c.in-Some.last.now passes)
    ∙ ap (λ (l : List Stamp). find_last (fits c.args.want.now) l) (sym split.0) ∙ c.loop-last.invariant.same

pub loop-last-preserved : goal.loop-last-preserved
loop-last-preserved c =
    let split = c.in-Some.ensures.cases in
    let fails : fits c.args.want.now c.in-Some.last.now ≡ false = sym c.fits.ensures ∙ c.if-fits.false in
    record {
      stamps = All-front IsStamp c.in-Some.front.now c.in-Some.last.now (subst (λ (l : List Stamp). All IsStamp l) split.0 c.loop-last.invariant.stamps);
      same = sym (find_last-fails (fits c.args.want.now) c.in-Some.front.now c.in-Some.last.now fails)
          ∙ ap (λ (l : List Stamp). find_last (fits c.args.want.now) l) (sym split.0) ∙ c.loop-last.invariant.same;
    }

pub returns-clause-value : goal.returns-clause-value
returns-clause-value c =
    let none : c.loop-last.rest.now ≡ [] = nil_from_length c.loop-last.rest.now c.in_default.ensures.cases in
    ap (λ (l : List Stamp). find_last (fits c.args.want.now) l) (sym none) ∙ c.loop-last.invariant.same
