-- Which NAL units of a byte stream are sent.
use Rattle.std.specs.Prelude.{ℕ, ◌+◌, ◌-◌, ◌==◌, Bool, not, List, [], ◌∷◌, length, Option, Some, None}
use Rattle.std.specs.List.{list_any, range_with_len}
use Rattle.cvf_format.specs.AnnexB.{is_start_code, nal_units}
use Rattle.cvf_format.specs.Cvf.{is_single_type}
use Rattle.talk_plan.specs.declared.fault.TalkFault.{TalkFault}
use Rattle.talk_plan.specs.declared.fault.TalkFault.TheVariants.{StartCode, NalType, Packets}
use Rattle.talk_video.specs.AccessUnits.{type_in}
use Rattle.talk_video.specs.Fragments.{access_unit_of, all_packets}
use Rattle.talk_plan.specs.Rows.{Row, first_of, row}

-- the stream has a start code (ITU-T H.264, annex B)
abbrev pub has_start_code : List ℕ → Bool
has_start_code bytes = list_any (is_start_code bytes) (range_with_len 0 (length bytes))

-- some unit has a type other than 1 to 23, so no packet can carry the unit (RFC 6184, 5.4)
abbrev pub has_other_type : List ℕ → Bool
has_other_type bytes = list_any (λ unit. not (is_single_type (type_in bytes unit))) (nal_units bytes)

-- The maximum number of packets of an access unit. With this limit, all packets of an access unit have different
-- sequence numbers.
abbrev pub most_packets : ℕ
most_packets = 255

-- an access unit needs more than 255 packets: for some n, packets n and n + 255 are of the same access unit
abbrev pub has_long_access_unit : List ℕ → Bool
has_long_access_unit bytes =
    list_any (λ n. access_unit_of bytes (nal_units bytes) n == access_unit_of bytes (nal_units bytes) (n + most_packets))
    (range_with_len 0 (all_packets (nal_units bytes) - most_packets))

-- the faults that prevent a byte stream from being sent, in the order of their tests
abbrev pub unit_faults : List ℕ → List Row
unit_faults bytes =
    row StartCode (not (has_start_code bytes)) ∷
    row NalType (has_other_type bytes) ∷
    row Packets (has_long_access_unit bytes) ∷ []

-- the first fault of a byte stream, if there is one
unfoldable pub units_fault : List ℕ → Option TalkFault
units_fault bytes = first_of (unit_faults bytes)

-- the NAL units of a byte stream that are sent: all if there is no fault, else none
abbrev pub units_by : Option TalkFault → List ℕ → List (ℕ × ℕ)
units_by None bytes = nal_units bytes
units_by (Some fault) bytes = []

-- the NAL units of a byte stream that are sent: none if it has a fault
unfoldable pub sent_units : List ℕ → List (ℕ × ℕ)
sent_units bytes = units_by (units_fault bytes) bytes
