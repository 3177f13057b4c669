-- Captures in either layout: classic pcap, and pcapng.
use Rattle.std.specs.Prelude.{ℕ, ◌&&◌, Bool, nat_le, nat_eq, if◌then◌else◌, List, length, Option}
use Rattle.avtp_base.specs.declared.refusal.Refusal.{Refusal}
pub use Rattle.avtp_base.specs.Octets.{AreBytes}
use Rattle.pcap_frames.specs.declared.style.Order.TheVariants.{Little}
use Rattle.pcap_frames.specs.declared.style.Style.{Style}
use Rattle.pcap_frames.specs.declared.style.Unit.TheVariants.{Nano}
use Rattle.pcap_frames.specs.Layout.{number_at}
use Rattle.pcap_frames.specs.Capture.{Record, capture_spelling}
use Rattle.pcap_frames.specs.Readers.{Meaning}
use Rattle.pcap_frames.specs.Reading as classic
use Rattle.pcapng_frames.specs.Reading as ng
use Rattle.capture_io.specs.declared.capture_reader.Format.{Format}
use Rattle.capture_io.specs.declared.capture_reader.Format.TheVariants.{Classic, Pcapng}

-- The bytes begin with the type of a section header, as each pcapng capture does. The type of a section header is the
-- same in either byte order (draft-ietf-opsawg-pcapng, section 4.1). Fewer than four bytes count as classic pcap.
unfoldable pub is_pcapng : List ℕ → Bool
is_pcapng bytes = nat_le 4 (length bytes) && nat_eq (number_at Little 0 4 bytes) 0x0A0D0D0A

-- the layout of a capture
abbrev pub format_in : List ℕ → Format
format_in bytes = if is_pcapng bytes then Pcapng else Classic

-- what the bytes of a capture in this layout mean
abbrev pub meaning_of : Format → Meaning
meaning_of Classic = classic.meaning
meaning_of Pcapng = ng.meaning

-- the whole records of a capture in either layout, up to its first refusal
unfoldable pub records_in : List ℕ → List Record
records_in bytes = (meaning_of (format_in bytes)).records bytes

-- the first refusal of a capture in either layout
unfoldable pub refusal_in : List ℕ → Option Refusal
refusal_in bytes = (meaning_of (format_in bytes)).refusal bytes

-- The first refusal of a capture in either layout, if no later bytes can change it. Suppose that a pcapng capture ends
-- inside a section's 257th interface description, after the block type but before the block's total length is complete.
-- Bytes of the capture are missing, although its refusal is not `short`. Therefore `settled`, and not `short`, tells
-- whether later bytes can change the refusal.
unfoldable pub certain_in : List ℕ → Option Refusal
certain_in bytes = (meaning_of (format_in bytes)).certain bytes

-- what the bytes of a capture in either layout mean
abbrev pub meaning : Meaning
meaning = record { records = records_in; refusal = refusal_in; certain = certain_in }

-- the style with little-endian numbers and nanoseconds
abbrev pub nanoseconds : Style
nanoseconds = record { order = Little; unit = Nano }

-- the classic capture of the records in these bytes
abbrev pub as_classic : List ℕ → List ℕ
as_classic bytes = capture_spelling nanoseconds (records_in bytes)
