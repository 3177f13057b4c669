use Rattle.std.proofs.Common.{List, ap, sym, take}
use Rattle.pcap_frames.specs.Capture.{Record}
use Rattle.capture_io.specs.Ends.{end_of}
use Rattle.capture_io.proofs.Respelled.{classic_same}
use Rattle.avtp_tool.proofs.law.pcapng_reports.Goals as goal

pub returns : goal.returns
returns c report limit bytes all is =
    let same = (classic_same (take limit bytes) all is).0 in
    (ap (λ (rs : List Record). report.status rs (end_of limit bytes)) (sym same), ap (λ (rs : List Record). report.yields rs (end_of limit bytes)) (sym same))
