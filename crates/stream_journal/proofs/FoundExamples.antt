-- In small journals, the stamps and clock packets that are needed are at hand.
use Rattle.std.proofs.Common.{true, subst, inl, ◌≡◌, inr, ℕ, zero, suc, ◌<◌, false, pos, ◌+ℤ◌, [], ◌∷◌, All, Some, refl, arith}
use Rattle.std.specs.Prelude.{get_or, replicate}
use Rattle.avtp_base.specs.Octets.{bits}
use Rattle.std.proofs.lemmas.Bool.Decides.{nat_tests}
use Rattle.std.proofs.lemmas.Int.{ints}
use Rattle.std.proofs.lemmas.List.Elements.{All-cons, All-nil, All-replicate}
use Rattle.clock_track.specs.Rows.{timestamp}
use Rattle.stream_journal.specs.ClockRows.{IsRowOf, IsTrueRow}
use Rattle.stream_journal.specs.Delivered.{IsDelivered}
use Rattle.stream_journal.specs.Examples.{came, clocked, restarted}
use Rattle.stream_journal.specs.Found.{HasNoRestart, IsAtHand, IsExpected}
use Rattle.stream_journal.specs.FoundExamples.{followed_stamps, one_back, row_of_two, two_rows}
use Rattle.stream_journal.specs.FoundLines.{ArePointsAtHand}
use Rattle.time_unfold.specs.declared.head_rule.Head.{Head}
use Rattle.stream_journal.specs.Journal.{head_of}
use Rattle.stream_journal.specs.Known.{IsCoveredBy, IsKnown}
use Rattle.stream_journal.specs.Heads.{IsTrue, IsUnstamped, stamp_at}
use Rattle.stream_journal.proofs.Clocked.{second_two}
use Rattle.stream_journal.proofs.RestartedCopies.{no_stamp}

-- ---- stamps

nine_came : IsDelivered restarted 2000000 (came 9 1001125000)
nine_came = record {
  known = omega arith;
  arrival = omega arith;
  stamped = λ k f. no_stamp (restarted.stamp 9) k 1001125000 refl f;
  unstamped = λ audio f. record { from = omega arith; to = omega arith };
}

pub nine_unstamped : IsUnstamped restarted 2000000 (came 9 1001125000) one_back
nine_unstamped = record { came = nine_came; none = refl; back = refl }

pub nine_expected : IsExpected restarted 2000000 (came 9 1001125000)
nine_expected = record { from = omega arith; to = omega arith }

eight : IsTrue restarted (stamp_at restarted 8 1003000000)
eight = record { number = 8; is = record { known = omega arith; instant = 1003000000; stamped = refl; same = refl } }

sixteen : IsTrue restarted (stamp_at restarted 16 1005000000)
sixteen = record { number = 16; is = record { known = omega arith; instant = 1005000000; stamped = refl; same = refl } }

pub all_true : (others : ℕ) → All (IsTrue restarted) (followed_stamps others)
all_true others = All-cons (IsTrue restarted) (stamp_at restarted 8 1003000000) (replicate others (stamp_at restarted 16 1005000000)) eight (All-replicate (IsTrue restarted) others (stamp_at restarted 16 1005000000) sixteen)

no_restart : HasNoRestart restarted 8 9
no_restart i from to = grind (arith, nat_tests)

pub nine_at_hand : IsAtHand restarted 16 9 one_back (followed_stamps 15) (stamp_at restarted 8 1003000000)
nine_at_hand = record {
  back = omega arith;
  is = record { known = omega arith; instant = 1003000000; stamped = refl; same = refl };
  no_restart = no_restart;
  kept = (0, omega arith, refl);
}

-- ---- clock packets

points_of_first : (i : ℕ) → i < 2 → pos (get_or ((clocked 48000).clock.points 0) i 0) ≡ pos (timestamp (row_of_two 0) i) +ℤ pos 0
unfolding bits
points_of_first zero h = refl
points_of_first (suc zero) h = refl
points_of_first (suc (suc i)) h = absurd (omega arith)

points_of_second : (i : ℕ) → i < 2 → pos (get_or ((clocked 48000).clock.points 1) i 0) ≡ pos (timestamp (row_of_two 1) i) +ℤ pos 0
unfolding bits
points_of_second zero h = refl
points_of_second (suc zero) h = refl
points_of_second (suc (suc i)) h = absurd (omega arith)

first_row : IsRowOf (clocked 48000).clock (pos 0) 0 (row_of_two 0)
first_row = record { known = omega arith; seq = refl; mr = refl; base = refl; pull = refl; interval = refl; size = refl; points = λ i h. points_of_first i h }

second_row : IsRowOf (clocked 48000).clock (pos 0) 1 (row_of_two 1)
second_row = record { known = omega arith; seq = refl; mr = refl; base = refl; pull = refl; interval = refl; size = refl; points = λ i h. points_of_second i h }

pub rows_true : All (IsTrueRow (clocked 48000).clock (pos 0)) two_rows
rows_true =
    All-cons (IsTrueRow (clocked 48000).clock (pos 0)) (row_of_two 0) (row_of_two 1 ∷ []) (λ u. (0, first_row))
    (All-cons (IsTrueRow (clocked 48000).clock (pos 0)) (row_of_two 1) [] (λ u. (1, second_row)) (All-nil (IsTrueRow (clocked 48000).clock (pos 0))))

pub two_at_hand : ArePointsAtHand (clocked 48000).clock (pos 0) two_rows (record { packet = 0; at = 1 }) (record { packet = 1; at = 0 })
two_at_hand = record {
  follows = second_two 48000;
  one_run = refl;
  earlier = omega (arith, ints);
  later = omega (arith, ints);
  earlier_packet = record { row = row_of_two 0; kept = (0, omega arith, refl); is = first_row };
  later_packet = record { row = row_of_two 1; kept = (1, omega arith, refl); is = second_row };
}

-- ---- what is known from the packets that arrived

pub nine_known : IsKnown false restarted (pos 0) 2000000 0 (came 9 1001125000) (8 ∷ replicate 15 16) []
nine_known = record {
  timed = inr (record { none = refl; far = one_back; back = refl; stamp = stamp_at restarted 8 1003000000; at_hand = nine_at_hand; expected = nine_expected });
  covered = λ off head e. absurd cc;
}

covered_by_two : IsCoveredBy (clocked 48000).clock (pos 0) 48000 (0 ∷ replicate 63 1) (pos 1006125000)
covered_by_two = record {
  earlier = record { packet = 0; at = 1 };
  later = record { packet = 1; at = 0 };
  follows = two_at_hand.follows;
  one_run = refl;
  earlier_taken = omega (arith, ints);
  later_taken = omega (arith, ints);
  earlier_came = (0, omega arith, refl);
  later_came = (1, omega arith, refl);
  covers = record { from = omega (arith, ints); to = omega (arith, ints) };
}

covered_at : (head : Head) → head_of (clocked 48000) 33 ≡ Some head → IsCoveredBy (clocked 48000).clock (pos 0) 48000 (0 ∷ replicate 63 1) head.instant
covered_at head e =
    let same : record { instant = pos 1006125000; first = pos 0 } ≡ head = cc in
    subst (λ (h : Head). IsCoveredBy (clocked 48000).clock (pos 0) 48000 (0 ∷ replicate 63 1) h.instant) same covered_by_two

pub thirty_three_known : IsKnown true (clocked 48000) (pos 0) 2000000 0 (came 33 1004125000) [] (0 ∷ replicate 63 1)
thirty_three_known = record { timed = inl refl; covered = λ on head e. covered_at head e }
