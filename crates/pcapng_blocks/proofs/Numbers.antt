-- Facts about numbers.
use Rattle.std.proofs.Common.{◌≡◌, ℕ, ◌+◌, ◌-◌, ◌*◌, ◌/◌, ◌^◌, ◌≤◌, ◌<◌, ◌∙◌, sym, ap, ℤ, pos, to_z, of_z, w64, List, Some, None, arith}
use Rattle.std.specs.Prelude.{int_lt, if◌then◌else◌}
use Rattle.std.proofs.lemmas.Bool.Decides.{nat_tests}
use Rattle.pcap_frames.specs.declared.style.Order.{Order}
use Rattle.pcap_frames.specs.Layout.{IsRecordTime}
use Rattle.std.proofs.Math.Nat.{one-le-pow, div-eq_of_eq-mul_left, mul_assoc, mul-div-mul_right, div-le_self}
use Rattle.std.proofs.lemmas.Int.{ints}
use Rattle.std.proofs.lemmas.Nat.{pow-add}
use Rattle.pcapng_blocks.specs.declared.interface.Interface.{Interface}
use Rattle.pcapng_blocks.specs.Interface.{arrival_limit, arrival_of, instant, units}
use Rattle.pcapng_blocks.specs.Fields.{packet_arrival}

-- a power of a positive number is positive
pub power_some : (a k : ℕ) → 1 ≤ a → 1 ≤ a ^ k
power_some a k h = one-le-pow k a h

-- if the unit is 10^-k seconds and at least a nanosecond, the instant in nanoseconds is the timestamp times a power of
-- 10
pub long_units : (x k : ℕ) → k ≤ 9 → x * 10 ^ (9 - k) ≡ x * 1000000000 / 10 ^ k
long_units x k h =
    let nine : (9 - k) + k ≡ 9 = omega arith in
    let whole : 10 ^ (9 - k) * 10 ^ k ≡ 1000000000 = sym (pow-add 10 (9 - k) k) ∙ ap (λ (n : ℕ). 10 ^ n) nine in
    let all : x * 1000000000 ≡ x * 10 ^ (9 - k) * 10 ^ k = ap (λ (n : ℕ). x * n) (sym whole) ∙ sym (mul_assoc x (10 ^ (9 - k)) (10 ^ k)) in
    sym (div-eq_of_eq-mul_left (power_some 10 k (omega arith)) all)

-- if the unit is 10^-k seconds and at most a nanosecond, the instant in nanoseconds is the timestamp divided by a power
-- of 10, rounded down
pub short_units : (x k : ℕ) → 9 ≤ k → x / 10 ^ (k - 9) ≡ x * 1000000000 / 10 ^ k
short_units x k h =
    let more : k ≡ (k - 9) + 9 = omega arith in
    let whole : 10 ^ k ≡ 10 ^ (k - 9) * 1000000000 = ap (λ (n : ℕ). 10 ^ n) more ∙ pow-add 10 (k - 9) 9 in
    sym (ap (λ (n : ℕ). x * 1000000000 / n) whole ∙ mul-div-mul_right x (10 ^ (k - 9)) (omega arith))

instant_is : (interface : Interface) (x n : ℕ) → interface.offset ≡ pos 0 → x * 1000000000 / units interface.resolution ≡ n → instant interface x ≡ pos n
unfolding instant
instant_is interface x n epoch e = rw (epoch, e) (ap pos (omega arith))

in_time : (t : ℤ) (n : ℕ) → t ≡ pos n → n < 4294967296000000000 → (if int_lt t (pos 0) then None else if int_lt t arrival_limit then Some t else None) ≡ Some (pos n)
in_time t n is early = rw is (grind (arith, nat_tests))

out_of_time : (t : ℤ) (n : ℕ) → t ≡ pos n → 4294967296000000000 ≤ n → (if int_lt t (pos 0) then None else if int_lt t arrival_limit then Some t else None) ≡ None
out_of_time t n is late = rw is (grind (arith, nat_tests))

nanosecond_instant : (interface : Interface) (x : ℕ) → interface.offset ≡ pos 0 → interface.resolution ≡ 9 → instant interface x ≡ pos x
nanosecond_instant interface x epoch unit =
    let long : x * 1 ≡ x * 1000000000 / 1000000000 = long_units x 9 (omega arith) in
    instant_is interface x x epoch (ap (λ (k : ℕ). x * 1000000000 / units k) unit ∙ (sym long ∙ omega arith))

microsecond_instant : (interface : Interface) (x : ℕ) → interface.offset ≡ pos 0 → interface.resolution ≡ 6 → instant interface x ≡ pos (x * 1000)
microsecond_instant interface x epoch unit =
    let long : x * 1000 ≡ x * 1000000000 / 1000000 = long_units x 6 (omega arith) in
    instant_is interface x (x * 1000) epoch (ap (λ (k : ℕ). x * 1000000000 / units k) unit ∙ sym long)

-- if a clock counts nanoseconds from the epoch and the timestamp is in range, the arrival is the timestamp
pub nanosecond_arrival : (interface : Interface) (x : ℕ) → interface.offset ≡ pos 0 → interface.resolution ≡ 9 → x < 4294967296000000000 → arrival_of interface x ≡ Some (pos x)
nanosecond_arrival interface x epoch unit early = in_time (instant interface x) x (nanosecond_instant interface x epoch unit) early

pub nanosecond_late : (interface : Interface) (x : ℕ) → interface.offset ≡ pos 0 → interface.resolution ≡ 9 → 4294967296000000000 ≤ x → arrival_of interface x ≡ None
nanosecond_late interface x epoch unit late = out_of_time (instant interface x) x (nanosecond_instant interface x epoch unit) late

-- if a clock counts microseconds from the epoch and the timestamp is in range, the arrival is 1000 times the timestamp
pub microsecond_arrival : (interface : Interface) (x : ℕ) → interface.offset ≡ pos 0 → interface.resolution ≡ 6 → x < 4294967296000000 → arrival_of interface x ≡ Some (pos (x * 1000))
microsecond_arrival interface x epoch unit early = in_time (instant interface x) (x * 1000) (microsecond_instant interface x epoch unit) (omega arith)

pub microsecond_late : (interface : Interface) (x : ℕ) → interface.offset ≡ pos 0 → interface.resolution ≡ 6 → 4294967296000000 ≤ x → arrival_of interface x ≡ None
microsecond_late interface x epoch unit late = out_of_time (instant interface x) (x * 1000) (microsecond_instant interface x epoch unit) (omega arith)

-- a second has at least one unit
pub units_some : (resolution : ℕ) → 1 ≤ units resolution
units_some resolution = grind (arith, nat_tests, power_some 10 resolution, power_some 2 (resolution - 128))

-- the instant of a 64-bit timestamp, in nanoseconds, is below 2^94
pub time_limit : (x units : ℕ) → x < 2 ^ 64 → x * 1000000000 / units < 2 ^ 94
time_limit x units h = omega (arith, div-le_self (x * 1000000000) units)

if_time : (t u : ℤ) → Some u ≡ (if int_lt t (pos 0) then None else if int_lt t arrival_limit then Some t else None) → IsRecordTime u
if_time t u e = grind (arith, ints, nat_tests)

-- the arrival of a packet is a time that a record can have
pub arrival_time : (order : Order) (interfaces : List Interface) (bytes : List ℕ) (t : ℤ) → Some t ≡ packet_arrival order interfaces bytes → IsRecordTime t
unfolding packet_arrival
arrival_time order interfaces bytes t e = if_time (instant _ _) t e

-- a time that a record can have is not changed when it is stored in 64 bits
pub stored_time : (t : ℤ) → IsRecordTime t → to_z w64 (of_z w64 t) ≡ t
stored_time t h = omega (arith, ints, h.0, h.1)
