use Rattle.std.proofs.Common.{◌≡◌, ℕ, List, ◌++◌, ap, subst, ◌∙◌}
use Rattle.std.proofs.lemmas.List.{append-nil}
use Rattle.cvf_format.specs.AnnexB.{AreUnits, nal_units}
use Rattle.cvf_format.proofs.UnitLemmas.{are_units}
use Rattle.cvf_format.proofs.annex_b.split_annex_b.Goals as goal

pub returns-clause-units : goal.returns-clause-units
returns-clause-units c =
    let bytes = c.args.bytes.now in
    let units = c.loop-unit.units.items in
    let rest = c.in_default.ensures {u = tt} in
    let all : nal_units bytes ≡ units = c.loop-unit.invariant.same ∙ ap (λ (xs : List (ℕ × ℕ)). units ++ xs) rest.next ∙ append-nil units in
    subst (λ (xs : List (ℕ × ℕ)). AreUnits bytes xs) all (are_units bytes)
