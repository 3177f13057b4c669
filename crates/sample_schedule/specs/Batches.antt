-- Batches of samples that are presented.
use Rattle.std.specs.Prelude.{◌≡◌, ℕ, ◌%◌, ◌^◌, ◌≤◌, ◌==◌, Bool, ◌&&◌, ℤ, pos, ◌+ℤ◌, ◌<ℤ◌, List, length}
use Rattle.time_unfold.specs.declared.line.Line.{Line}
use Rattle.time_unfold.specs.Lines.{instant_at}
use Rattle.time_unfold.specs.Time.{IsInstant}

-- A batch of samples that is presented. The batch has `count` samples; sample j of the batch is sample `from` + j of
-- the line.
pub record Presented : Type 0 where
  pub frame : ℕ
  pub seq : ℕ
  pub line : Line
  pub from : ℤ
  pub count : ℕ
  pub bytes : List ℕ

-- the instant of sample j of a batch
abbrev pub sample_instant : Presented → ℕ → ℤ
sample_instant batch j = instant_at batch.line (batch.from +ℤ pos j)

-- the batch is a unit of H.264 and not audio samples: its line has one nanosecond per sample
abbrev pub is_unit : Presented → Bool
is_unit batch = batch.line.num == 1 && batch.line.den == 1

-- The limits of every batch: it has 1 to 65,535 samples, all with the same number of bytes, and all its instants are in
-- range.
pub record IsPresentable (batch : Presented) : Type 0 where
  pub some : 1 ≤ batch.count
  pub count : batch.count ≤ 65535
  pub some_num : 1 ≤ batch.line.num
  pub num : batch.line.num ≤ 2 ^ 60
  pub some_den : 1 ≤ batch.line.den
  pub den : batch.line.den ≤ 2 ^ 60
  pub frames : length batch.bytes % batch.count ≡ 0
  pub numbers : (batch.from +ℤ pos batch.count) <ℤ pos (2 ^ 63)
  pub instants : (j : ℕ) → j ≤ batch.count → IsInstant (sample_instant batch j)
