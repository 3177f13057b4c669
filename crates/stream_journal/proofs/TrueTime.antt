-- The timestamp of a copy is unfolded to the instant that was sent.
use Rattle.std.proofs.Common.{◌≡◌, ℕ, ◌^◌, ◌%◌, pos, Some, refl, arith}
use Rattle.std.proofs.lemmas.Int.{ints}
use Rattle.time_unfold.specs.Time.{unfolded}
use Rattle.time_unfold.proofs.Instants.{unfolded-unfolds, one_unfolded}
use Rattle.stream_journal.specs.Journal.{Journal}
use Rattle.stream_journal.specs.Delivered.{Copy, IsDelivered, IsInHalfCircle}

unfolds_truly : (instant arrival : ℕ) → IsInHalfCircle instant arrival → unfolded (instant % 2 ^ 32) (pos arrival) ≡ pos instant
unfolds_truly instant arrival near =
    let from = near.from in
    let to = near.to in
    one_unfolded (instant % 2 ^ 32) (pos arrival) (unfolded (instant % 2 ^ 32) (pos arrival)) (pos instant)
    (unfolded-unfolds (instant % 2 ^ 32) (pos arrival) (omega arith))
    (record { low_bits = refl; from = omega (arith, ints); to = omega (arith, ints) })

pub true_time : (j : Journal) (lead : ℕ) (c : Copy) (instant : ℕ) → IsDelivered j lead c → j.stamp c.number ≡ Some instant → unfolded (instant % 2 ^ 32) (pos c.arrival) ≡ pos instant
true_time j lead c instant is e = unfolds_truly instant c.arrival (is.stamped instant e)
