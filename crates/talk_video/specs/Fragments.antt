-- How the packets of a stream carry NAL units: each unit whole, or in fragments (RFC 6184, 5.6 and 5.8). Packets are
-- counted from 0, across all units.
use Rattle.std.specs.Prelude.{ℕ, zero, suc, ◌+◌, ◌-◌, ◌*◌, ◌==◌, Bool, not, ◌||◌, nat_lt, if◌then◌else◌, List, take, drop, length}
use Rattle.cvf_format.specs.declared.cvf.NalPart.{NalPart}
use Rattle.cvf_format.specs.declared.cvf.NalPart.TheVariants.{Single, First, Middle, Last}
use Rattle.cvf_format.specs.Packets.{full_body, packets_of}
use Rattle.talk_video.specs.AccessUnits.{access_unit, unit_at}

-- how many packets carry a unit with this range of bytes
abbrev pub packets_for : ℕ × ℕ → ℕ
packets_for unit = packets_of (unit.1 - unit.0)

-- how many packets carry unit i
abbrev pub packets_at : List (ℕ × ℕ) → ℕ → ℕ
packets_at units i = packets_for (unit_at units i)

-- how many packets carry the units before unit i
abbrev pub packets_before : List (ℕ × ℕ) → ℕ → ℕ
packets_before units zero = 0
packets_before units (suc i) = packets_before units i + packets_at units i

-- how many packets carry all units
abbrev pub all_packets : List (ℕ × ℕ) → ℕ
all_packets units = packets_before units (length units)

-- A fragment of a unit: the number of the unit, and the number of the fragment in the unit, both from 0. A unit that is
-- sent whole is one fragment.
pub record Place : Type 0 where
  pub unit : ℕ
  pub fragment : ℕ

-- the fragment after `p`: the next fragment of the same unit, or else the first fragment of the next unit
abbrev pub next_place : List (ℕ × ℕ) → Place → Place
next_place units p =
    if nat_lt (suc p.fragment) (packets_at units p.unit) then record { unit = p.unit; fragment = suc p.fragment }
    else record { unit = suc p.unit; fragment = 0 }

-- what packet n carries: which unit, and which fragment of that unit
abbrev pub place_of : List (ℕ × ℕ) → ℕ → Place
place_of units zero = record { unit = 0; fragment = 0 }
place_of units (suc n) = next_place units (place_of units n)

-- the access unit that packet n belongs to
abbrev pub access_unit_of : List ℕ → List (ℕ × ℕ) → ℕ → ℕ
access_unit_of bytes units n = access_unit bytes units (place_of units n).unit

-- packet n is the last one of its access unit
abbrev pub ends_access_unit : List ℕ → List (ℕ × ℕ) → ℕ → Bool
ends_access_unit bytes units n = (suc n == all_packets units) || not (access_unit_of bytes units (suc n) == access_unit_of bytes units n)

-- which part of its unit fragment k is, if the unit has `packets` fragments: the whole unit, the first fragment, a
-- middle one or the last one
unfoldable pub part_by : ℕ → ℕ → NalPart
part_by packets k = if packets == 1 then Single else if k == 0 then First else if k + 1 == packets then Last else Middle

-- whether the fragment `p` is the whole unit, or the first, a middle or the last fragment of its unit
abbrev pub part_at : List (ℕ × ℕ) → Place → NalPart
part_at units p = part_by (packets_at units p.unit) p.fragment

-- What fragment k carries of `rest`, the bytes of its unit after the first byte. If the unit is sent whole, the
-- fragment carries all of `rest`. If the unit is sent in fragments, the fragment carries `full_body` bytes, or all
-- remaining bytes if fewer remain.
abbrev pub body_by : NalPart → ℕ → List ℕ → List ℕ
body_by Single k rest = rest
body_by First k rest = take full_body (drop (k * full_body) rest)
body_by Middle k rest = take full_body (drop (k * full_body) rest)
body_by Last k rest = take full_body (drop (k * full_body) rest)

-- the bytes of a unit after its first byte
abbrev pub rest_in : List ℕ → ℕ × ℕ → List ℕ
rest_in bytes unit = take (unit.1 - (unit.0 + 1)) (drop (unit.0 + 1) bytes)

-- what fragment k of a unit carries of the bytes after the unit's first byte
abbrev pub body_of : List ℕ → ℕ × ℕ → ℕ → List ℕ
body_of bytes unit k = body_by (part_by (packets_for unit) k) k (rest_in bytes unit)

-- what the fragment `p` carries of the bytes after its unit's first byte
unfoldable pub body_at : List ℕ → List (ℕ × ℕ) → Place → List ℕ
body_at bytes units p = body_of bytes (unit_at units p.unit) p.fragment
