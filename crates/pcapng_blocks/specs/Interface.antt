-- The clock of an interface (draft-ietf-opsawg-pcapng, section 4.2, "if_tsresol" and "if_tsoffset").
use Rattle.std.specs.Prelude.{ℕ, ◌-◌, ◌*◌, ◌/◌, ◌^◌, Bool, nat_lt, nat_le, ℤ, pos, ◌+ℤ◌, ◌*ℤ◌, int_lt, if◌then◌else◌, Option, Some, None}
use Rattle.pcapng_blocks.specs.declared.interface.Interface.{Interface}

-- the clock of an interface without options: microseconds since the epoch
abbrev pub microseconds : Interface
microseconds = record { resolution = 6; offset = pos 0 }

-- An accepted resolution (if_tsresol): 10^-k seconds for k up to 18; or, with the top bit set, 2^-k seconds for k up to
-- 63.
abbrev pub is_resolution : ℕ → Bool
is_resolution resolution = if nat_lt resolution 128 then nat_le resolution 18 else nat_le resolution 191

-- the number of timestamp units in a second, at this resolution
abbrev pub units : ℕ → ℕ
units resolution = if nat_lt resolution 128 then 10 ^ resolution else 2 ^ (resolution - 128)

-- the instant of a timestamp in nanoseconds, rounded down
unfoldable pub instant : Interface → ℕ → ℤ
instant interface timestamp = interface.offset *ℤ pos 1000000000 +ℤ pos (timestamp * 1000000000 / units interface.resolution)

-- the first instant that is too late for an arrival: 2^32 seconds
abbrev pub arrival_limit : ℤ
arrival_limit = pos (2 ^ 32 * 1000000000)

-- the arrival of a packet, if its instant is not before the epoch and is below the limit
abbrev pub arrival_of : Interface → ℕ → Option ℤ
arrival_of interface timestamp =
    let t = instant interface timestamp in
    if int_lt t (pos 0) then None
    else if int_lt t arrival_limit then Some t
    else None
