use Rattle.std.proofs.Common.{◌≡◌, ℕ, ◌+◌, List, ◌∷◌, Option, None, Some, ap, ◌∙◌, arith}
use Rattle.std.specs.List.{cons_option}
use Rattle.cvf_format.specs.AnnexB.{unit_behind, units_from}
use Rattle.cvf_format.proofs.AnnexBLemmas.{code_found, codes_none, unit_is, unit_passed}
use Rattle.cvf_format.proofs.annex_b.next_unit.Goals as goal

pub returns-in-Some-without_zeros-clause-next : goal.returns-in-Some-without_zeros-clause-next
returns-in-Some-without_zeros-clause-next c =
    let bytes = c.args.bytes.now in
    let code = c.in-Some.code in
    let found = c.in-Some.ensures {u = tt} in
    let unit = c.in-Some-without_zeros.unit in
    let is : unit_behind bytes code ≡ Some unit =
    unit_is bytes code c.end_of_unit-end.result c.without_zeros.result (Some unit) c.end_of_unit-end.ensures.value c.without_zeros.ensures.value c.in-Some-without_zeros.is in
    let range = c.in-Some-without_zeros.ensures {u = tt} in
    let rest = unit_passed bytes code unit.1 found.1 (omega (arith, range.range.some)) (omega (arith, range.range.within, c.end_of_unit-end.ensures.value)) in
    c.loop-code.invariant.same ∙ code_found bytes c.loop-code.at code found.0 found.1
    ∙ ap (λ (o : Option (ℕ × ℕ)). cons_option o (units_from bytes (code + 1))) is ∙ ap (λ (xs : List (ℕ × ℕ)). unit ∷ xs) rest

pub loop-code-preserved : goal.loop-code-preserved
loop-code-preserved c =
    let bytes = c.args.bytes.now in
    let code = c.in-Some.code in
    let found = c.in-Some.ensures {u = tt} in
    let is : unit_behind bytes code ≡ None =
    unit_is bytes code c.end_of_unit-end.result c.without_zeros.result None c.end_of_unit-end.ensures.value c.without_zeros.ensures.value c.in_default-without_zeros.is in
    let rest = unit_passed bytes code c.end_of_unit-end.result found.1 (omega (arith, c.end_of_unit-end.ensures.range.order)) (omega (arith, c.end_of_unit-end.ensures.value)) in
    record {
      behind = omega (arith, found.0.low, c.end_of_unit-end.ensures.range.order);
      within = c.end_of_unit-end.ensures.range.inside;
      same =
          c.loop-code.invariant.same ∙ code_found bytes c.loop-code.at code found.0 found.1
          ∙ ap (λ (o : Option (ℕ × ℕ)). cons_option o (units_from bytes (code + 1))) is ∙ rest;
    }

pub returns-clause-next : goal.returns-clause-next
returns-clause-next c =
    c.loop-code.invariant.same ∙ codes_none c.args.bytes.now c.loop-code.at c.loop-code.invariant.within (c.in_default.ensures {u = tt})
