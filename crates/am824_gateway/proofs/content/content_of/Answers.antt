use Rattle.std.proofs.Common.{Bool, refl, ap, ◌∙◌}
use Rattle.packet_journal.specs.Deliveries.{belongs, stream_kinds}
use Rattle.listener.proofs.Further.{chosen, not_chosen}
use Rattle.am824_gateway.specs.Content.{packet_content}
use Rattle.listener.specs.Streams.{stream_packet, stream_packet_shape}
use Rattle.am824_gateway.proofs.content.content_of.Goals as goal

pub returns-in-Some : goal.returns-in-Some
returns-in-Some c =
    let b : Bool = belongs stream_kinds c.args.stream c.args.frame.now in
    let here = chosen b (stream_packet_shape c.in-Some.packet) (stream_packet c.args.frame.now) c.in-Some.ensures in
    rw (here.0) (c.packet_content.ensures ∙ ap packet_content here.1)

pub returns-in-None : goal.returns-in-None
returns-in-None c =
    let b : Bool = belongs stream_kinds c.args.stream c.args.frame.now in
    rw (not_chosen b (stream_packet c.args.frame.now) c.in-None.ensures) refl
