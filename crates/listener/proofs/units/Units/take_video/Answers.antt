use Rattle.cvf_format.specs.Cvf.{cvf_shape}
use Rattle.listener.specs.state.Views.{delivery_shape}
use Rattle.listener.proofs.Gathered.{packet_taken, refused_taken}
use Rattle.listener.proofs.units.Units.take_video.Goals as goal

pub returns-in_ok-take_packet-in-Ok : goal.returns-in_ok-take_packet-in-Ok
returns-in_ok-take_packet-in-Ok c ds has =
    packet_taken ds (delivery_shape c.args.delivery.now) (cvf_shape c.in-Ok.view) _ _ c.requires.video c.in-Ok.ensures.exact.0 c.in-Ok.ensures.exact.1 has c.in_ok-take_packet-in-Ok.ensures

pub returns-in-Err : goal.returns-in-Err
returns-in-Err c ds has =
    refused_taken ds (delivery_shape c.args.delivery.now) c.in-Err.refusal _ _ c.requires.video c.in-Err.ensures.exact has (rw c.malformed.ensures at c.cut.ensures)
