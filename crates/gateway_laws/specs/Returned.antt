-- What a gateway makes from a capture. The input capture can itself be the output of a gateway.
use Rattle.std.specs.Prelude.{ℕ, List, map, Option}
use Rattle.sample_schedule.specs.Batches.{Presented}
use Rattle.talker.specs.Frames.{SentFrame, record_of}
use Rattle.pcap_frames.specs.Capture.{Record}
use Rattle.listener.specs.declared.plan.ListenPlan.{ListenPlan}
use Rattle.listener.specs.Heard.{shown_of}
use Rattle.listener.specs.Laws.{presented_of}
use Rattle.am824_gateway.specs.declared.scan.Shape.{Shape}
use Rattle.am824_gateway.specs.declared.scan.To.{To}
use Rattle.am824_gateway.specs.declared.scan.To.TheVariants.{Aaf, Am824}
use Rattle.am824_gateway.specs.Packets.{gateway_frames}
use Rattle.am824_gateway.specs.Scan.{shape_in}

-- AAF for AM824, and AM824 for AAF
abbrev pub other : To → To
other Am824 = Aaf
other Aaf = Am824

-- the records of a gateway's frames
abbrev pub gateway_records : To → Option Shape → ℕ → List Presented → List Record
gateway_records to shape id batches = map record_of (gateway_frames to shape id batches)

-- The frames that a gateway sends under this stream ID, if it converts what a listener presents from `records`. The
-- gateway's shape is the one that a scan finds in `records`.
abbrev pub frames_made : To → ListenPlan → ℕ → List Record → List SentFrame
frames_made to plan id records = gateway_frames to (shape_in plan.stream records) id (presented_of (shown_of plan records))
