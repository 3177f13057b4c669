use Rattle.std.proofs.Common.{◌≤◌, length, arith}
use Rattle.avtp_base.specs.declared.field.Field.{Field}
use Rattle.avtp_base.specs.Field.{name_of}
use Rattle.aaf_format.specs.declared.aaf.AafFormat.{AafFormat}
use Rattle.cvf_format.specs.declared.cvf.NalPart.{NalPart}
use Rattle.talk_plan.specs.declared.fault.TalkFault.{TalkFault}
use Rattle.avtp_text.specs.Show.{format_text, part_text}
use Rattle.avtp_text.specs.Talk.{fault_text}

-- the name of a field has at most 18 bytes
pub name_fits : (f : Field) → length (name_of f) ≤ 18
name_fits f = grind arith

-- the name of a sample format has at most 7 bytes
pub format_fits : (f : AafFormat) → length (format_text f) ≤ 7
format_fits f = grind arith

-- the name of a part of a NAL unit has at most 6 bytes
pub part_fits : (p : NalPart) → length (part_text p) ≤ 6
part_fits p = grind arith

-- the name of a fault of an input has at most 10 bytes
pub fault_fits : (f : TalkFault) → length (fault_text f) ≤ 10
fault_fits f = grind arith
