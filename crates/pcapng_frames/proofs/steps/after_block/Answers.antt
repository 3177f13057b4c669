use Rattle.std.proofs.Common.{sym, ◌∙◌}
use Rattle.pcapng_frames.proofs.steps.after_block.Goals as goal

pub after_section-requires : goal.after_section-requires
after_section-requires c =
    let head = rw (sym c.kind_at.ensures ∙ c.in-Section.is) at c.requires in
    record { long = head.long; whole = head.whole; accepted = head.accepted; opened = tt }

pub returns-in-Section : goal.returns-in-Section
returns-in-Section c = rw (sym c.kind_at.ensures ∙ c.in-Section.is) c.after_section.ensures

pub after_interface-requires : goal.after_interface-requires
after_interface-requires c = rw (sym c.kind_at.ensures ∙ c.in-Interface.is) at c.requires

pub returns-in-Interface : goal.returns-in-Interface
returns-in-Interface c = rw (sym c.kind_at.ensures ∙ c.in-Interface.is) c.after_interface.ensures

pub after_packet-requires : goal.after_packet-requires
after_packet-requires c = rw (sym c.kind_at.ensures ∙ c.in-Packet.is) at c.requires

pub returns-in-Packet : goal.returns-in-Packet
returns-in-Packet c = rw (sym c.kind_at.ensures ∙ c.in-Packet.is) c.after_packet.ensures

pub after_other-requires : goal.after_other-requires
after_other-requires c =
    let head = rw (sym c.kind_at.ensures ∙ c.in-Other.is) at c.requires in
    record { long = head.long; whole = head.whole; accepted = head.accepted; opened = tt }

pub returns-in-Other : goal.returns-in-Other
returns-in-Other c = rw (sym c.kind_at.ensures ∙ c.in-Other.is) (c.after_other.ensures c.args.interfaces.now)
