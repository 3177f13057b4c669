-- The stamp for a packet without a timestamp. The packet's time is counted from that stamp.
use Rattle.std.specs.Prelude.{◌≡◌, ℕ, ◌*◌, ◌-◌, ◌==◌, Bool, true, false, nat_le, if◌then◌else◌, ℤ, pos, ◌+ℤ◌, ◌-ℤ◌, unsigned_abs, List, [], ◌∷◌, ◌++◌, length, drop, All, Option, Some, None}
use Rattle.time_unfold.specs.declared.stamp.Stamp.{Stamp}
use Rattle.time_unfold.specs.declared.stamp.Want.{Want}
use Rattle.time_unfold.specs.Lines.{instant_at, nominal_line}

-- two block counts are equal, or both are absent
abbrev pub same_block : Option ℕ → Option ℕ → Bool
same_block None None = true
same_block None (Some block) = false
same_block (Some block) None = false
same_block (Some block) (Some other) = block == other

-- two bits are equal
abbrev pub same_flag : Bool → Bool → Bool
same_flag true other = other
same_flag false true = false
same_flag false false = true

-- the instant of the packet's first sample, counted from the stamp at the nominal rate
abbrev pub candidate : Want → Stamp → ℤ
candidate want stamp = instant_at (nominal_line stamp.instant want.rate) (pos want.back)

-- If the instant of the packet's first sample is counted from the stamp, this instant differs from the expected instant
-- by at most 60 packet durations. The expected instant is the packet's arrival plus the lead. This test is needed
-- because sequence numbers repeat after 256 packets.
abbrev pub is_near : Want → Stamp → Bool
is_near want stamp =
    nat_le (unsigned_abs ((want.arrival +ℤ pos want.lead) -ℤ candidate want stamp) * want.rate) (60 * want.count * 1000000000)

-- the stamp fits: it has the wanted sequence number, restart bit, rate and block count, and it is near
abbrev pub fits : Want → Stamp → Bool
fits want stamp =
    if stamp.seq == want.seq then
    if same_flag stamp.mr want.mr then
    if stamp.rate == want.rate then
    if same_block stamp.block want.block then is_near want stamp else false else false else false else false

-- of the items of a list that pass a test, the last
abbrev pub find_last : {T : Type 0} → (T → Bool) → List T → Option T
find_last {T} test [] = None
find_last {T} test (x ∷ xs) = last_or (find_last test xs) (if test x then Some x else None)
  where
    last_or : Option T → Option T → Option T
    last_or None first = first
    last_or (Some y) first = Some y

-- the last n items of a list, or all if it has fewer
abbrev pub last_of : {T : Type 0} → ℕ → List T → List T
last_of n xs = drop (length xs - n) xs

-- the last stamp that fits, among the last `room` stamps of the list; the packet is counted from this stamp
abbrev pub found : ℕ → Want → List Stamp → Option Stamp
found room want stamps = find_last (fits want) (last_of room stamps)

-- the stamp is in the list and fits, and no later stamp in the list fits
pub record IsLastFit (want : Want) (stamps : List Stamp) (stamp : Stamp) : Type 0 where
  pub before : List Stamp
  pub behind : List Stamp
  pub place : stamps ≡ before ++ stamp ∷ behind
  pub this_fits : fits want stamp ≡ true
  pub none_behind : All (λ other. fits want other ≡ false) behind

-- The stamp is the last one in the list that fits. If the stamp is `None`, no stamp in the list fits.
abbrev pub IsFound : Want → List Stamp → Option Stamp → Type 0
IsFound want stamps None = All (λ stamp. fits want stamp ≡ false) stamps
IsFound want stamps (Some stamp) = IsLastFit want stamps stamp
