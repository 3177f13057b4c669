-- Each delivery is a copy of a packet that is sent, and has a delay.
use Rattle.std.proofs.Common.{◌≡◌, ℕ, ℤ, pos, zero, suc, ◌+◌, ◌*◌, ◌<◌, ◌≤◌, Bool, true, false, List, [], ◌∷◌, ◌++◌, length, map, refl, sym, ap, subst, ◌∙◌, arith, length-append}
use Rattle.std.specs.Prelude.{◌%◌, ◌==◌, int_lt, if◌then◌else◌}
use Rattle.std.specs.List.{AllByRecursion, range_with_len}
use Rattle.std.proofs.lemmas.Int.{ints}
use Rattle.std.proofs.lemmas.List.FromFn.{length-map-range_with_len}
use Rattle.time_unfold.specs.Time.{IsArrival}
use Rattle.soak_run.specs.Generator.{draw_after}
use Rattle.soak_run.specs.Network.{all_copies, by_arrival, copies, copies_by, copies_of, copy_of, delay_by, deliveries_of, draws_before, put_in, soak_plan}
use Rattle.talk_plan.specs.Timing.{arrival_of}
use Rattle.soak_run.proofs.SoakLemmas.{copies-more, sent_soon}

-- The delivery is a copy of a packet whose number is less than `packets`. The copy arrives at most 2.52 ms after the
-- packet is sent.
pub record IsCopy (packets : ℕ) (delivery : ℤ × ℕ) : Type 0 where
  pub known : delivery.1 < packets
  pub delay : ℕ
  pub short : delay ≤ 2520000
  pub time : delivery.0 ≡ pos (arrival_of soak_plan delivery.1 + delay)

short_delay : (draw : ℕ) → delay_by draw ≤ 2520000
short_delay draw = omega arith

one_copy : (seed packets n k : ℕ) → n < packets → IsCopy packets (copy_of seed n k)
one_copy seed packets n k h = record {
  known = h;
  delay = delay_by (draw_after seed (draws_before seed n + 1 + k));
  short = short_delay (draw_after seed (draws_before seed n + 1 + k));
  time = refl;
}

copies_from : (seed packets n from number : ℕ) → n < packets → AllByRecursion (IsCopy packets) (map (copy_of seed n) (range_with_len from number))
copies_from seed packets n from zero h = tt
copies_from seed packets n from (suc number) h = (one_copy seed packets n from h, copies_from seed packets n (from + 1) number h)

both : (packets : ℕ) (xs ys : List (ℤ × ℕ)) → AllByRecursion (IsCopy packets) xs → AllByRecursion (IsCopy packets) ys → AllByRecursion (IsCopy packets) (xs ++ ys)
both packets [] ys a b = b
both packets (x ∷ xs) ys a b = (a.0, both packets xs ys a.1 b)

first_copies : (seed packets n : ℕ) → n ≤ packets → AllByRecursion (IsCopy packets) (all_copies seed n)
first_copies seed packets zero h = tt
first_copies seed packets (suc n) h =
    subst (AllByRecursion (IsCopy packets)) (sym (copies-more seed n))
    (both packets (all_copies seed n) (copies seed n) (first_copies seed packets n (omega arith)) (copies_from seed packets n 0 (copies_of seed n) (omega arith)))

put_by : (packets : ℕ) (b : Bool) (x y : ℤ × ℕ) (rest ys : List (ℤ × ℕ)) → IsCopy packets x → IsCopy packets y → AllByRecursion (IsCopy packets) rest → AllByRecursion (IsCopy packets) ys
    → AllByRecursion (IsCopy packets) (if b then y ∷ rest else x ∷ y ∷ ys)
put_by packets true x y rest ys here next put all = (next, put)
put_by packets false x y rest ys here next put all = (here, (next, all))

put_all : (packets : ℕ) (x : ℤ × ℕ) (xs : List (ℤ × ℕ)) → IsCopy packets x → AllByRecursion (IsCopy packets) xs → AllByRecursion (IsCopy packets) (put_in x xs)
put_all packets x [] here all = (here, tt)
put_all packets x (y ∷ ys) here all = put_by packets (int_lt y.0 x.0) x y (put_in x ys) ys here all.0 (put_all packets x ys here all.1) all.1

sorted_all : (packets : ℕ) (xs : List (ℤ × ℕ)) → AllByRecursion (IsCopy packets) xs → AllByRecursion (IsCopy packets) (by_arrival xs)
sorted_all packets [] all = tt
sorted_all packets (x ∷ xs) all = put_all packets x (by_arrival xs) all.0 (sorted_all packets xs all.1)

pub are_copies : (packets : ℕ) → AllByRecursion (IsCopy packets) (deliveries_of packets)
are_copies packets = sorted_all packets (all_copies packets packets) (first_copies packets packets packets (omega arith))

-- a capture can record when each copy arrives
pub copy_time : (packets : ℕ) (delivery : ℤ × ℕ) → packets ≤ 1000000 → IsCopy packets delivery → IsArrival delivery.0
copy_time packets delivery few is =
    let soon = sent_soon delivery.1 (omega (arith, is.known)) in
    let short = is.short in
    subst IsArrival (sym is.time) (record { from = omega (arith, ints); to = omega (arith, ints) })

-- ---- how many deliveries there are

long_by : (b : Bool) (x y : ℤ × ℕ) (rest ys : List (ℤ × ℕ)) → length rest ≡ suc (length ys) → length (if b then y ∷ rest else x ∷ y ∷ ys) ≡ suc (suc (length ys))
long_by true x y rest ys e = ap suc e
long_by false x y rest ys e = refl

put_long : (x : ℤ × ℕ) (xs : List (ℤ × ℕ)) → length (put_in x xs) ≡ suc (length xs)
put_long x [] = refl
put_long x (y ∷ ys) = long_by (int_lt y.0 x.0) x y (put_in x ys) ys (put_long x ys)

sorted_long : (xs : List (ℤ × ℕ)) → length (by_arrival xs) ≡ length xs
sorted_long [] = refl
sorted_long (x ∷ xs) = put_long x (by_arrival xs) ∙ ap suc (sorted_long xs)

two_by : (lost twice : Bool) → (if lost then 0 else if twice then 2 else 1) ≤ 2
two_by true twice = omega arith
two_by false true = omega arith
two_by false false = omega arith

two_copies : (draw : ℕ) → copies_by draw ≤ 2
two_copies draw = two_by (draw % 16 == 0) (draw % 16 == 1)

few_copies : (seed n : ℕ) → length (all_copies seed n) ≤ 2 * n
few_copies seed zero = omega arith
few_copies seed (suc n) =
    omega (
      arith,
      ap length (copies-more seed n),
      length-append (all_copies seed n) (copies seed n),
      length-map-range_with_len (copy_of seed n) 0 (copies_of seed n),
      two_copies (draw_after seed (draws_before seed n)),
      few_copies seed n,
    )
