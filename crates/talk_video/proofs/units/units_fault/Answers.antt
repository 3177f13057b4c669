use Rattle.std.proofs.Common.{not, sym, ap, ◌∙◌, arith}
use Rattle.cvf_format.specs.AnnexB.{nal_units}
use Rattle.talk_video.specs.state.Listing.{is_long_in}
use Rattle.talk_video.proofs.FaultLemmas.{no_other, other_type}
use Rattle.talk_video.proofs.units.units_fault.Goals as goal

pub returns-then-not-has_single_type : goal.returns-then-not-has_single_type
returns-then-not-has_single_type c =
    let bytes = c.args.bytes.now in
    let next = c.in-Some.ensures.next in
    let other = rw next.is_unit at (sym c.has_single_type.ensures ∙ c.if-not-has_single_type.true) in
    sym (other_type bytes c.find.result c.loop-unit.units.number c.find.ensures (c.is_none.ensures ∙ ap not c.if-is_none.false) next.known other)

pub returns-then-long-2 : goal.returns-then-long-2
returns-then-long-2 c =
    let bytes = c.args.bytes.now in
    let all = c.in_default.ensures.next.all in
    let types = c.loop-unit.invariant.types in
    let is = no_other bytes c.find.result c.loop-unit.long c.find.ensures (c.is_none.ensures ∙ ap not c.if-is_none.false)
    (λ i h. types i (omega arith)) (c.loop-unit.invariant.long ∙ ap (is_long_in bytes (nal_units bytes)) all) in
    sym (rw c.if-long-2.true at is)

pub returns-else-long-2 : goal.returns-else-long-2
returns-else-long-2 c =
    let bytes = c.args.bytes.now in
    let all = c.in_default.ensures.next.all in
    let types = c.loop-unit.invariant.types in
    let is = no_other bytes c.find.result c.loop-unit.long c.find.ensures (c.is_none.ensures ∙ ap not c.if-is_none.false)
    (λ i h. types i (omega arith)) (c.loop-unit.invariant.long ∙ ap (is_long_in bytes (nal_units bytes)) all) in
    sym (rw c.if-long-2.false at is)
