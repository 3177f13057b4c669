use Rattle.std.proofs.Common.{◌∙◌, ap, subst, sym}
use Rattle.pcap_frames.specs.declared.style.Order.{Order}
use Rattle.pcapng_blocks.specs.Blocks.{record_by}
use Rattle.pcapng_blocks.specs.Fields.{packet_arrival}
use Rattle.pcapng_blocks.specs.Packets.{IsPacketBlock}
use Rattle.pcapng_frames.proofs.Lent.{holds_block}
use Rattle.pcapng_frames.proofs.reader.Ng.lend.Goals as goal

pub packet_view-requires : goal.packet_view-requires
packet_view-requires c =
    let next = rw (← c.self.view_is) at c.requires in
    subst (λ (o : Order). IsPacketBlock o c.self.inside.interfaces c.args.block.now) (sym c.order_or_little.ensures ∙ c.in-Little.is) next.packet

pub packet_view-requires-in-Big : goal.packet_view-requires-in-Big
packet_view-requires-in-Big c =
    let next = rw (← c.self.view_is) at c.requires in
    subst (λ (o : Order). IsPacketBlock o c.self.inside.interfaces c.args.block.now) (sym c.order_or_little.ensures ∙ c.in-Big.is) next.packet

pub returns-in-Little : goal.returns-in-Little
returns-in-Little c =
    let next = rw (← c.self.view_is) at c.requires in
    let order = sym c.order_or_little.ensures ∙ c.in-Little.is in
    rw (← c.self.view_is) (record {
      exact = holds_block _ _ next ∙ (ap (λ (o : Order). record_by (packet_arrival o c.self.inside.interfaces c.args.block.now) o c.args.block.now) order ∙ sym c.packet_view.ensures.exact);
      time = c.packet_view.ensures.time;
    })

pub returns-in-Big : goal.returns-in-Big
returns-in-Big c =
    let next = rw (← c.self.view_is) at c.requires in
    let order = sym c.order_or_little.ensures ∙ c.in-Big.is in
    rw (← c.self.view_is) (record {
      exact = holds_block _ _ next ∙ (ap (λ (o : Order). record_by (packet_arrival o c.self.inside.interfaces c.args.block.now) o c.args.block.now) order ∙ sym c.packet_view-in-Big.ensures.exact);
      time = c.packet_view-in-Big.ensures.time;
    })
