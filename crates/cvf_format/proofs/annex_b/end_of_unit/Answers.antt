use Rattle.std.proofs.Common.{◌+◌, length, sym, ◌∙◌, arith}
use Rattle.cvf_format.proofs.AnnexBLemmas.{end_none, end_skipped, end_there, none_ends}
use Rattle.cvf_format.specs.AnnexB.{is_end}
use Rattle.cvf_format.proofs.PlaceLemmas.{none_more}
use Rattle.cvf_format.proofs.annex_b.end_of_unit.Goals as goal

pub returns-then-ends_at : goal.returns-then-ends_at
returns-then-ends_at c =
    let bytes = c.args.bytes.now in
    let found = c.in-Some.ensures {u = tt} in
    let two = found.1 in
    let skipped = end_skipped bytes c.loop-zeros.at c.in-Some.zeros found.0.low (omega arith) (none_ends bytes c.loop-zeros.at c.in-Some.zeros found.0.before) in
    let here = end_there bytes c.in-Some.zeros (omega (arith, two.fits)) (sym c.ends_at.ensures ∙ c.if-ends_at.true) in
    record {
      value = sym (c.loop-zeros.invariant.same ∙ skipped ∙ here);
      range = record { order = omega (arith, found.0.low, c.loop-zeros.invariant.behind); inside = omega (arith, two.fits) };
    }

pub loop-zeros-preserved : goal.loop-zeros-preserved
loop-zeros-preserved c =
    let bytes = c.args.bytes.now in
    let found = c.in-Some.ensures {u = tt} in
    let two = found.1 in
    let none = none_more (is_end bytes) c.loop-zeros.at c.in-Some.zeros (none_ends bytes c.loop-zeros.at c.in-Some.zeros found.0.before) (sym c.ends_at.ensures ∙ c.if-ends_at.false) in
    record {
      behind = omega (arith, found.0.low);
      within = omega (arith, two.fits);
      same = c.loop-zeros.invariant.same ∙ end_skipped bytes c.loop-zeros.at (c.in-Some.zeros + 1) (omega (arith, found.0.low)) (omega (arith, two.fits)) none;
    }

pub returns : goal.returns
returns c =
    let bytes = c.args.bytes.now in
    let none = c.in_default.ensures {u = tt} in
    record {
      value = sym (c.loop-zeros.invariant.same ∙ end_none bytes c.loop-zeros.at c.loop-zeros.invariant.within
          (none_ends bytes c.loop-zeros.at (length bytes) (λ k low high. none k low (omega arith))));
      range = record { order = c.requires; inside = omega arith };
    }
