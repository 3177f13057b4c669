-- Only private functions and proofs use these definitions. How the outcomes are counted, one shown
-- item after another.
use Rattle.std.specs.Prelude.{ℕ, ◌+◌, ◌-◌, ◌^◌, min, List, [], ◌∷◌}
use Rattle.sample_schedule.specs.declared.shown.Reason.{Reason}
use Rattle.sample_schedule.specs.declared.shown.Reason.TheVariants.{Full, Late, Repeat, Untimed}
use Rattle.sample_schedule.specs.declared.shown.Shown.{Shown}
use Rattle.sample_schedule.specs.declared.shown.Shown.TheVariants.{Present, Flag}
use Rattle.soak_run.specs.declared.counts.SoakCounts.{SoakCounts}

-- one more, but at most the largest number of 64 bits
abbrev pub one_more : ℕ → ℕ
one_more number = min (number + 1) (2 ^ 64 - 1)

-- the counts after one more item was flagged for this reason
abbrev pub with_flag : SoakCounts → Reason → SoakCounts
with_flag counts Late = record counts { late = one_more counts.late }
with_flag counts Repeat = record counts { repeat = one_more counts.repeat }
with_flag counts Untimed = record counts { untimed = one_more counts.untimed }
with_flag counts Full = record counts { full = one_more counts.full }
with_flag counts reason = counts

-- the counts after one more item was shown
abbrev pub with_shown : SoakCounts → Shown → SoakCounts
with_shown counts (Present batch) = record counts { presented = one_more counts.presented }
with_shown counts (Flag frame seq reason) = with_flag counts reason

-- the counts after these items were shown, one after another
abbrev pub with_all : SoakCounts → List Shown → SoakCounts
with_all counts [] = counts
with_all counts (shown ∷ items) = with_all (with_shown counts shown) items
