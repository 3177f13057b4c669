-- A sparse talker that restarts keeps the rules, packet by packet.
use Rattle.std.proofs.Common.{◌≡◌, inl, inr, ℕ, zero, suc, ◌+◌, ◌-◌, ◌%◌, ◌<◌, ◌≤◌, Bool, true, false, pos, Option, Some, None, is_some, refl, subst, arith}
use Rattle.std.specs.Prelude.{IfSome, ◌==◌, if◌then◌else◌}
use Rattle.std.proofs.lemmas.Bool.{cases_lt}
use Rattle.std.proofs.lemmas.Bool.Decides.{nat_tests}
use Rattle.time_unfold.specs.declared.head_rule.Head.{Head}
use Rattle.stream_journal.specs.Journal.{head_of, nominal_instant}
use Rattle.stream_journal.specs.Conforming.{Conforms, HoldsEight, IsApart, IsAudio}
use Rattle.stream_journal.specs.Examples.{restarted, restarted_due}
use Rattle.stream_journal.proofs.Worked.{no_clock-is, no_clock-agrees}

-- ---- a fact about each number below a limit

abbrev pub Each : (ℕ → Type 0) → ℕ → Type 0
Each P zero = Unit {0}
Each P (suc n) = Each P n × P n

pub each_below : (P : ℕ → Type 0) (m : ℕ) → Each P m → (n : ℕ) → n < m → P n
each_below P zero each n h = absurd (omega arith)
each_below P (suc m) each n h = elim (cases_lt n m) [
  | inl below ↦ each_below P m each.0 n below
  | inr not ↦ let same : m ≡ n = omega arith in subst P same each.1
]

-- ---- the rules

-- if packet n has a head, the packet is due at the instant of its first sample
abbrev IsDue : ℕ → Type 0
IsDue n = IfSome (head_of restarted n) (λ head. pos (restarted_due n) ≡ nominal_instant restarted head 0)

each_due : Each IsDue 20
each_due = ((((((((((((((((((((tt, refl), refl), refl), refl), refl), refl), refl), refl), refl), refl), tt), tt), tt), tt), tt), tt), refl), refl), refl), refl)

due_by : (n : ℕ) (r : Option Head) (head : Head) → r ≡ Some head → IfSome r (λ head. pos (restarted_due n) ≡ nominal_instant restarted head 0) → pos (restarted_due n) ≡ nominal_instant restarted head 0
due_by n None head e is = absurd cc
due_by n (Some h) head e is = let same : h ≡ head = cc in rw (← same) is

stamps_by : (n : ℕ) (b : Bool) → is_some (if b then Some (restarted_due n) else None) ≡ b
stamps_by n true = refl
stamps_by n false = refl

apart : (n : ℕ) → suc n < 20 → IsApart restarted 3 (restarted_due n) (restarted_due (suc n))
apart n h = grind (arith, nat_tests)

holds : HoldsEight 20 restarted.mr
holds n k e h g = grind (arith, nat_tests)

audio : IsAudio restarted
audio = record {
  rate_from = omega arith;
  rate_to = omega arith;
  some = omega arith;
  stamps = λ n h. stamps_by n (n % 8 == 0);
  blocks = tt;
  spacing = apart;
  first_instants = λ n head h e. due_by n (head_of restarted n) head e (each_below IsDue 20 each_due n h);
}

pub conforms : Conforms restarted
conforms = record {
  kind = (audio, no_clock-agrees restarted refl);
  holds = holds;
  clock = no_clock-is;
}

abbrev HasNone : ℕ → Type 0
HasNone i = head_of restarted (10 + i) ≡ None

each_none : Each HasNone 6
each_none = ((((((tt, refl), refl), refl), refl), refl), refl)

pub no_head : (n : ℕ) → 10 ≤ n → n ≤ 15 → head_of restarted n ≡ None
no_head n from to =
    let place : 10 + (n - 10) ≡ n = omega arith in
    subst (λ (m : ℕ). head_of restarted m ≡ None) place (each_below HasNone 6 each_none (n - 10) (omega arith))
