-- Talkers of AM824, packet by packet.
use Rattle.std.proofs.Common.{rules, ◌≡◌, inl, inr, ◌⊎◌, ℕ, suc, ◌*◌, ◌%◌, ◌<◌, ◌≤◌, List, [], ◌∷◌, pos, Option, Some, None, is_some, refl, arith}
use Rattle.std.specs.Prelude.{IfSome}
use Rattle.time_unfold.specs.declared.head_rule.Head.{Head}
use Rattle.stream_journal.specs.Conforming.{BlocksGoOn, Conforms, IsApart, IsAudio, is_stamped}
use Rattle.stream_journal.specs.Delivered.{AreDelivered}
use Rattle.stream_journal.specs.Examples.{blocks_of_six, each_eighth, each_sixteenth, sixteenth_copies}
use Rattle.stream_journal.specs.Journal.{Journal, head_of, nominal_instant, rule_of}
use Rattle.stream_journal.proofs.Restarted.{Each, each_below}
use Rattle.stream_journal.proofs.Worked.{no_clock-is, no_clock-agrees}
use Rattle.stream_journal.proofs.RestartedCopies.{EachComes, all_of, stamped, unstamped}

-- ---- what each packet has to satisfy

abbrev IsKept : Journal → ℕ → Type 0
IsKept j n = (is_some (j.stamp n) ≡ is_stamped (rule_of j.kind n) n 6) × IfSome (head_of j n) (λ head. pos (j.due n) ≡ nominal_instant j head 0)

due_by : (j : Journal) (n : ℕ) (r : Option Head) (head : Head) → r ≡ Some head → IfSome r (λ head. pos (j.due n) ≡ nominal_instant j head 0) → pos (j.due n) ≡ nominal_instant j head 0
due_by j n None head e is = absurd cc
due_by j n (Some h) head e is = let same : h ≡ head = cc in rw (← same) is

-- if each packet satisfies `IsKept`, and adjacent packets are far enough apart, the talker keeps the rules
conforms_by : (rate interval : ℕ) (dues : List ℕ) (stamps : List (Option ℕ)) → 8000 ≤ rate → rate ≤ 192000 → (interval ≡ 8) ⊎ ((interval ≡ 16) ⊎ (interval ≡ 32))
    → Each (IsKept (blocks_of_six rate interval dues stamps)) 8
    → Each (λ n. IsApart (blocks_of_six rate interval dues stamps) 3 ((blocks_of_six rate interval dues stamps).due n) ((blocks_of_six rate interval dues stamps).due (suc n))) 7
    → Conforms (blocks_of_six rate interval dues stamps)
conforms_by rate interval dues stamps from to standard kept apart =
    let j : Journal = blocks_of_six rate interval dues stamps in
    let is : (n : ℕ) → n < 8 → IsKept j n = each_below (IsKept j) 8 kept in
    let blocks : BlocksGoOn interval (λ n. n * 6 % 256) 6 8 = record { standard = standard; first = omega arith; next = λ n h. omega arith } in
    let audio : IsAudio j = record {
      rate_from = from;
      rate_to = to;
      some = omega arith;
      stamps = λ n h. (is n h).0;
      blocks = blocks;
      spacing = λ n h. each_below (λ n. IsApart j 3 (j.due n) (j.due (suc n))) 7 apart n (omega arith);
      first_instants = λ n head h e. due_by j n (head_of j n) head e (is n h).1;
    } in
    record {
      kind = (audio, no_clock-agrees j refl);
      holds = λ n k other few known. refl;
      clock = no_clock-is;
    }

kept_eighth : Each (IsKept each_eighth) 8
kept_eighth = ((((((((tt, (refl, refl)), (refl, refl)), (refl, refl)), (refl, refl)), (refl, refl)), (refl, refl)), (refl, refl)), (refl, refl))

kept_sixteenth : Each (IsKept each_sixteenth) 8
kept_sixteenth = ((((((((tt, (refl, refl)), (refl, refl)), (refl, refl)), (refl, refl)), (refl, refl)), (refl, refl)), (refl, refl)), (refl, refl))

pub eighth_conform : Conforms each_eighth
eighth_conform =
    conforms_by 48000 8 (1002000000 ∷ 1002124999 ∷ 1002249999 ∷ 1002374999 ∷ 1002500000 ∷ 1002624999 ∷ 1002749999 ∷ 1002874999 ∷ [])
    (Some 1002000000 ∷ Some 1002166666 ∷ Some 1002333333 ∷ None ∷ Some 1002500000 ∷ Some 1002666666 ∷ Some 1002833333 ∷ None ∷ [])
    (omega arith) (omega arith) (inl refl) kept_eighth
    (((((((tt, omega arith), omega arith), omega arith), omega arith), omega arith), omega arith), omega arith)

pub sixteenth_conform : Conforms each_sixteenth
sixteenth_conform =
    conforms_by 96000 16 (1002000000 ∷ 1002062500 ∷ 1002124999 ∷ 1002187499 ∷ 1002249999 ∷ 1002312499 ∷ 1002374999 ∷ 1002437499 ∷ [])
    (Some 1002000000 ∷ None ∷ Some 1002166666 ∷ None ∷ None ∷ Some 1002333333 ∷ None ∷ None ∷ [])
    (omega arith) (omega arith) (inr (inl refl)) kept_sixteenth
    (((((((tt, omega arith), omega arith), omega arith), omega arith), omega arith), omega arith), omega arith)

-- ---- copies

each : EachComes each_sixteenth sixteenth_copies
each = (
  stamped each_sixteenth 0 1000000000 1002000000 (omega arith) (omega arith) refl (record { from = omega arith; to = omega arith }),
  (
    unstamped each_sixteenth 1 1000062500 (omega arith) (omega arith) refl (record { from = omega arith; to = omega arith }),
    (
      unstamped each_sixteenth 3 1000187500 (omega arith) (omega arith) refl (record { from = omega arith; to = omega arith }),
      (
        unstamped each_sixteenth 4 1000250000 (omega arith) (omega arith) refl (record { from = omega arith; to = omega arith }),
        (
          stamped each_sixteenth 5 1000312500 1002333333 (omega arith) (omega arith) refl (record { from = omega arith; to = omega arith }),
          (
            unstamped each_sixteenth 6 1000375000 (omega arith) (omega arith) refl (record { from = omega arith; to = omega arith }),
            (
              unstamped each_sixteenth 7 1000437500 (omega arith) (omega arith) refl (record { from = omega arith; to = omega arith }),
              tt,
            ),
          ),
        ),
      ),
    ),
  ),
)

pub delivered : AreDelivered each_sixteenth 2000000 sixteenth_copies
delivered = record { each = all_of each_sixteenth sixteenth_copies each; near = search rules }
