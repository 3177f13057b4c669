-- Runs of packets.
use Rattle.std.proofs.Common.{◌≡◌, ◌≢◌, ◌⊎◌, inl, inr, ℕ, suc, ◌+◌, ◌-◌, ◌*◌, ◌/◌, ◌%◌, ◌<◌, ◌≤◌, Some, None, refl, subst, sym, arith}
use Rattle.std.specs.Prelude.{Option, ◌==◌}
use Rattle.std.proofs.Math.Nat.{div-eq_of_lt-le, div-mul-le_self, lt-div-mul-add, mul-le-mul_left, mul-le-mul_right}
use Rattle.std.proofs.lemmas.Bool.{cases_lt}
use Rattle.std.proofs.lemmas.Bool.Decides.{nat_tests}
use Rattle.talk_plan.specs.Plan.{Restarts}
use Rattle.talk_plan.specs.Timing.{first_by, run_by}

-- ---- a packet and its run

pub whole : (a b n count : ℕ) → a + b ≡ n → a * count + b * count ≡ n * count
whole a b n count e = subst (λ (m : ℕ). a * count + b * count ≡ m * count) e (omega arith)

pub some_packets : (packets : ℕ) (r : Option ℕ) (jump : ℕ) → r ≡ Some packets → Restarts r jump → 8 ≤ packets
some_packets packets r jump e ok = (rw e at ok).some

pub record IsInRun (r : Option ℕ) (jump count n : ℕ) : Type 0 where
  pub begun : first_by r (run_by r n) ≤ n
  pub parts : first_by r (run_by r n) * count + (n - first_by r (run_by r n)) * count ≡ n * count
  pub jumps : 8 * (run_by r n * jump) ≤ n * 1000000000

pub in_run : (r : Option ℕ) (jump count n : ℕ) → Restarts r jump → IsInRun r jump count n
in_run None jump count n ok = record { begun = omega arith; parts = whole 0 (n - 0) n count (omega arith); jumps = omega arith }
in_run (Some packets) jump count n ok =
    let g : ℕ = n / packets in
    let under : g * packets ≤ n = div-mul-le_self n packets in
    let eight : g * 8 ≤ g * packets = mul-le-mul_left g ok.some in
    let times : g * jump ≤ g * 1000000000 = mul-le-mul_left g ok.most_jump in
    record {
      begun = under;
      parts = whole (g * packets) (n - g * packets) n count (omega arith);
      jumps = omega arith;
    }

pub begun : (n packets : ℕ) → n / packets * packets ≤ n
begun n packets = div-mul-le_self n packets

-- ---- the next packet

-- packet n + 1 is the first packet of the next run, which has at least 8 packets
pub record IsRenewed (r : Option ℕ) (n : ℕ) : Type 0 where
  pub run : run_by r (suc n) ≡ suc (run_by r n)
  pub kept : (k : ℕ) → k < 8 → run_by r (suc n + k) ≡ suc (run_by r n)

pub next_run : (r : Option ℕ) (jump n : ℕ) → Restarts r jump → (run_by r (suc n) ≡ run_by r n) ⊎ IsRenewed r n
next_run None jump n ok = inl refl
next_run (Some packets) jump n ok =
    let g : ℕ = n / packets in
    let some = ok.some in
    let under : g * packets ≤ n = div-mul-le_self n packets in
    let over : n < g * packets + packets = lt-div-mul-add (omega arith) in
    elim (cases_lt (suc n) (g * packets + packets)) [
      | inl h ↦ inl (div-eq_of_lt-le packets (omega arith) (omega arith))
      | inr h ↦ inr (record {
        run = div-eq_of_lt-le packets (omega arith) (omega arith);
        kept = λ k few. div-eq_of_lt-le packets (omega arith) (omega arith);
      })
    ]

pub later_run : (r : Option ℕ) (jump n : ℕ) → Restarts r jump → run_by r n ≤ run_by r (suc n)
later_run r jump n ok = elim (next_run r jump n ok) [ inl e ↦ omega arith | inr e ↦ let run = e.run in omega arith ]

-- ---- restart bits

one_bit : (a b : ℕ) → a ≤ b → b ≤ suc a → (a % 2 == 1) ≡ (b % 2 == 1) → a ≡ b
one_bit a b least most e = grind (arith, nat_tests)

-- packets at most 7 apart are of the same run if their restart bits are equal
pub one_run : (r : Option ℕ) (jump m d n : ℕ) → Restarts r jump → d ≤ 7 → m + d ≡ n → (run_by r m % 2 == 1) ≡ (run_by r n % 2 == 1) → run_by r m ≡ run_by r n
one_run None jump m d n ok few place e = refl
one_run (Some packets) jump m d n ok few place e =
    let a : ℕ = m / packets in
    let some = ok.some in
    let under : a * packets ≤ m = div-mul-le_self m packets in
    let over : m < a * packets + packets = lt-div-mul-add (omega arith) in
    elim (cases_lt n (a * packets + packets)) [
      | inl h ↦ sym (div-eq_of_lt-le packets (omega arith) (omega arith))
      | inr h ↦
          let next : n / packets ≡ suc a = div-eq_of_lt-le packets (omega arith) (omega arith) in
          one_bit a (n / packets) (omega arith) (omega arith) e
    ]

-- packet n + 1 is the first of the next run if its restart bit differs from that of packet n
pub new_bit : (r : Option ℕ) (jump n : ℕ) → Restarts r jump → (run_by r (suc n) % 2 == 1) ≢ (run_by r n % 2 == 1) → IsRenewed r n
new_bit r jump n ok other = elim (next_run r jump n ok) [
  | inl e ↦ absurd (other (rw e refl))
  | inr e ↦ e
]

-- a later packet is of the same run or of a later run
pub no_later_run : (r : Option ℕ) (jump m n : ℕ) → Restarts r jump → m ≤ n → run_by r m ≤ run_by r n
no_later_run None jump m n ok h = omega arith
no_later_run (Some packets) jump m n ok h =
    let some = ok.some in
    let under : m / packets * packets ≤ m = div-mul-le_self m packets in
    let over : n < n / packets * packets + packets = lt-div-mul-add (omega arith) in
    elim (cases_lt (n / packets) (m / packets)) [
      | inl less ↦ let times : (n / packets + 1) * packets ≤ m / packets * packets = mul-le-mul_right packets (omega arith) in absurd (omega arith)
      | inr not ↦ not
    ]
