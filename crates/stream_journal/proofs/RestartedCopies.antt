-- Copies of a sparse talker's packets, one by one.
use Rattle.std.proofs.Common.{rules, ◌≡◌, ℕ, ◌+◌, ◌^◌, ◌<◌, ◌≤◌, List, [], ◌∷◌, All, Option, Some, None, refl, arith}
use Rattle.std.proofs.lemmas.List.Elements.{All-nil, All-cons}
use Rattle.stream_journal.specs.Delivered.{AreDelivered, Copy, IsDelivered, IsInHalfCircle, IsWithin}
use Rattle.stream_journal.specs.Examples.{came, restarted, restarted_copies}
use Rattle.stream_journal.specs.Journal.{Journal}

pub same_stamp : (r : Option ℕ) (i k arrival : ℕ) → r ≡ Some i → r ≡ Some k → IsInHalfCircle i arrival → IsInHalfCircle k arrival
same_stamp r i k arrival e f near = let same : i ≡ k = cc in rw (← same) near

pub no_stamp : (r : Option ℕ) (k arrival : ℕ) → r ≡ None → r ≡ Some k → IsInHalfCircle k arrival
no_stamp r k arrival e f = absurd cc

pub stamped : (j : Journal) (n a i : ℕ) → n < j.packets → a ≤ 2 ^ 62 → j.stamp n ≡ Some i → IsInHalfCircle i a → IsDelivered j 2000000 (came n a)
stamped j n a i known arrival e near = record {
  known = known;
  arrival = arrival;
  stamped = λ k f. same_stamp (j.stamp n) i k a e f near;
  unstamped = λ audio f. absurd cc;
}

pub unstamped : (j : Journal) (n a : ℕ) → n < j.packets → a ≤ 2 ^ 62 → j.stamp n ≡ None → IsWithin j 128 (a + 2000000) (j.due n) → IsDelivered j 2000000 (came n a)
unstamped j n a known arrival e within = record {
  known = known;
  arrival = arrival;
  stamped = λ k f. no_stamp (j.stamp n) k a e f;
  unstamped = λ audio f. within;
}

abbrev pub EachComes : Journal → List Copy → Type 0
EachComes j [] = Unit {0}
EachComes j (c ∷ copies) = IsDelivered j 2000000 c × EachComes j copies

pub all_of : (j : Journal) (copies : List Copy) → EachComes j copies → All (IsDelivered j 2000000) copies
all_of j [] each = All-nil (IsDelivered j 2000000)
all_of j (c ∷ copies) each = All-cons (IsDelivered j 2000000) c copies each.0 (all_of j copies each.1)

each : EachComes restarted restarted_copies
each = (
  stamped restarted 0 1000000000 1002000000 (omega arith) (omega arith) refl (record { from = omega arith; to = omega arith }),
  (
    unstamped restarted 1 1000125000 (omega arith) (omega arith) refl (record { from = omega arith; to = omega arith }),
    (
      unstamped restarted 2 1000250000 (omega arith) (omega arith) refl (record { from = omega arith; to = omega arith }),
      (
        unstamped restarted 3 1000375000 (omega arith) (omega arith) refl (record { from = omega arith; to = omega arith }),
        (
          unstamped restarted 4 1000500000 (omega arith) (omega arith) refl (record { from = omega arith; to = omega arith }),
          (
            unstamped restarted 5 1000625000 (omega arith) (omega arith) refl (record { from = omega arith; to = omega arith }),
            (
              unstamped restarted 5 1000675000 (omega arith) (omega arith) refl (record { from = omega arith; to = omega arith }),
              (
                unstamped restarted 6 1000750000 (omega arith) (omega arith) refl (record { from = omega arith; to = omega arith }),
                (
                  unstamped restarted 7 1000875000 (omega arith) (omega arith) refl (record { from = omega arith; to = omega arith }),
                  (
                    unstamped restarted 9 1001125000 (omega arith) (omega arith) refl (record { from = omega arith; to = omega arith }),
                    (
                      unstamped restarted 10 1002250000 (omega arith) (omega arith) refl (record { from = omega arith; to = omega arith }),
                      (
                        unstamped restarted 11 1002375000 (omega arith) (omega arith) refl (record { from = omega arith; to = omega arith }),
                        (
                          unstamped restarted 12 1002500000 (omega arith) (omega arith) refl (record { from = omega arith; to = omega arith }),
                          (
                            unstamped restarted 13 1002625000 (omega arith) (omega arith) refl (record { from = omega arith; to = omega arith }),
                            (
                              unstamped restarted 14 1002750000 (omega arith) (omega arith) refl (record { from = omega arith; to = omega arith }),
                              (
                                unstamped restarted 15 1002875000 (omega arith) (omega arith) refl (record { from = omega arith; to = omega arith }),
                                (
                                  stamped restarted 16 1003000000 1005000000 (omega arith) (omega arith) refl (record { from = omega arith; to = omega arith }),
                                  (
                                    unstamped restarted 18 1003250000 (omega arith) (omega arith) refl (record { from = omega arith; to = omega arith }),
                                    (
                                      unstamped restarted 17 1003260000 (omega arith) (omega arith) refl (record { from = omega arith; to = omega arith }),
                                      (
                                        unstamped restarted 19 1003375000 (omega arith) (omega arith) refl (record { from = omega arith; to = omega arith }),
                                        tt,
                                      ),
                                    ),
                                  ),
                                ),
                              ),
                            ),
                          ),
                        ),
                      ),
                    ),
                  ),
                ),
              ),
            ),
          ),
        ),
      ),
    ),
  ),
)

pub delivered : AreDelivered restarted 2000000 restarted_copies
delivered = record { each = all_of restarted restarted_copies each; near = search rules }
