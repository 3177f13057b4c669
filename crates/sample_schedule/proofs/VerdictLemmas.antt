-- The verdict is the same whether copies are looked for among the waiting items or among all accepted items.
use Rattle.std.proofs.Common.{◌≡◌, ℕ, true, false, ℤ, ◌≤ℤ◌, List, length, Ok, refl, arith}
use Rattle.std.specs.Prelude.{int_lt, int_le}
use Rattle.std.specs.List.{list_any}
use Rattle.std.proofs.lemmas.Int.{ints, by_lt_z}
use Rattle.sample_schedule.specs.declared.accepted.Accepted.{Accepted}
use Rattle.sample_schedule.specs.declared.plan.SchedulePlan.{SchedulePlan}
use Rattle.sample_schedule.specs.Batches.{Presented}
use Rattle.sample_schedule.specs.Order.{by_instant, standing}
use Rattle.sample_schedule.specs.Verdicts.{decided, first_instant, is_copy, is_full, verdict}
use Rattle.sample_schedule.proofs.OrderLemmas.{lt_true, le_true, le_false, any-by_instant, any-standing, length-by_instant, bytes-by_instant}

copy_stands : (now instant : ℤ) (seq : ℕ) → now ≤ℤ instant → (a : Accepted) → is_copy instant seq a ≡ true → int_le now a.instant ≡ true
copy_stands now instant seq le a copy = by_lt_z a.instant now
    (λ h. let e = le_false instant a.instant (omega (arith, ints)) in absurd (by_lt_z instant a.instant
    (λ g. omega (arith, ints))
    (λ g. let f = le_true a.instant instant g in let n : is_copy instant seq a ≡ false = rw (f, e) refl in cc)))
    (λ h. le_true now a.instant h)

pub copies-stand : (now instant : ℤ) (seq : ℕ) (earlier : List Accepted) → now ≤ℤ instant → list_any (is_copy instant seq) (standing now earlier) ≡ list_any (is_copy instant seq) earlier
copies-stand now instant seq earlier le = any-standing (is_copy instant seq) now (copy_stands now instant seq le) earlier

full_same : (plan : SchedulePlan) (now : ℤ) (earlier : List Accepted) (size : ℕ) → is_full plan (by_instant (standing now earlier)) size ≡ is_full plan (standing now earlier) size
full_same plan now earlier size = rw (length-by_instant (standing now earlier), bytes-by_instant (standing now earlier)) refl

pub verdict-waiting : (plan : SchedulePlan) (now : ℤ) (earlier : List Accepted) (place : ℕ) (batch : Presented) (waiting : List Accepted) → waiting ≡ by_instant (standing now earlier)
    → decided (int_lt (first_instant batch) now) (list_any (is_copy (first_instant batch) batch.seq) waiting) (is_full plan waiting (length batch.bytes)) place batch ≡ verdict plan now earlier place (Ok batch)
unfolding verdict
verdict-waiting plan now earlier place batch waiting e = by_lt_z (first_instant batch) now
    (λ h. rw (lt_true (first_instant batch) now h) refl)
    (λ h. rw (e, any-by_instant (is_copy (first_instant batch) batch.seq) (standing now earlier), any-standing (is_copy (first_instant batch) batch.seq) now (copy_stands now (first_instant batch) batch.seq h) earlier, full_same plan now earlier (length batch.bytes)) refl)
