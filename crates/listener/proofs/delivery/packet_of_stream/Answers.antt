use Rattle.std.proofs.Common.{ap, sym, ◌∙◌}
use Rattle.avtp_header.specs.Header.{peeked_of}
use Rattle.packet_journal.specs.Deliveries.{belongs, is_avtp, packet_in, stream_kinds}
use Rattle.listener.specs.Streams.{stream_packet}
use Rattle.listener.specs.state.Views.{Found, avtp_shape}
use Rattle.listener.proofs.Belonging.{none_if, of_stream}
use Rattle.listener.proofs.Further.{chosen}
use Rattle.listener.proofs.delivery.packet_of_stream.Goals as goal

pub returns-then-not-is_of_stream : goal.returns-then-not-is_of_stream
returns-then-not-is_of_stream c =
    let frame = c.args.frame.now in
    let found : Found = record { peeked = peeked_of (packet_in frame); bytes = packet_in frame } in
    let here = chosen (is_avtp frame) (avtp_shape c.in_ok-packet.packet) found c.in_ok-packet.ensures in
    let peeked = ap (λ (f : Found). f.peeked) here.1 in
    none_if (belongs stream_kinds c.args.stream frame) (stream_packet frame) (of_stream c.args.stream frame c.in_ok-packet.packet.peeked here.0 peeked ∙ (sym c.is_of_stream.ensures ∙ c.if-not-is_of_stream.true))
