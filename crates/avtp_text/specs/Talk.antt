-- The lines of `talk`.
use Rattle.std.specs.Prelude.{List, ℕ, ◌++◌, codes, decimal}
use Rattle.talk_plan.specs.declared.fault.TalkFault.{TalkFault}
use Rattle.talk_plan.specs.declared.fault.TalkFault.TheVariants.{Frames, StartCode, NalType, Packets, Arrival, Memory}
use Rattle.avtp_text.specs.Pieces.{newline}

-- the name of a fault of the input
abbrev pub fault_text : TalkFault → List ℕ
fault_text Frames = codes "frames"
fault_text StartCode = codes "start_code"
fault_text NalType = codes "nal_type"
fault_text Packets = codes "packets"
fault_text Arrival = codes "arrival"
fault_text Memory = codes "memory"

-- the line of an input that cannot be made into a stream, with the reason
unfoldable pub talk_input_line : TalkFault → List ℕ
talk_input_line fault = codes "talk input: " ++ fault_text fault ++ newline

-- the line of a capture that was made: how many stream packets and how many media clock packets it has
unfoldable pub talk_line : ℕ → ℕ → List ℕ
talk_line packets clocks = codes "talk packets " ++ decimal packets ++ codes " clock " ++ decimal clocks ++ newline
