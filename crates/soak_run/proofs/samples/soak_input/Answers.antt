use Rattle.std.proofs.Common.{◌≡◌, ◌+◌, ◌++◌, ℕ, suc, List, sym, ap, ◌∙◌, arith}
use Rattle.soak_run.specs.Captured.{sample_frame, sample_frames}
use Rattle.soak_run.proofs.StreamSizes.{frames_more}
use Rattle.soak_run.proofs.samples.soak_input.Goals as goal

pub loop-number-preserved : goal.loop-number-preserved
loop-number-preserved c =
    let next : suc c.loop-number.number ≡ c.loop-number.number + 1 = omega arith in
    c.in_ok-put_sample_frame.ensures
    ∙ ap (λ (l : List ℕ). l ++ sample_frame c.loop-number.number) c.loop-number.invariant
    ∙ sym (frames_more c.loop-number.number)
    ∙ ap sample_frames next
