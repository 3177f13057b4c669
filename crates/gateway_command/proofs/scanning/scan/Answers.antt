use Rattle.std.proofs.Common.{ℕ, None}
use Rattle.avtp_base.specs.Faults.{FailsAt}
use Rattle.capture_io.specs.Ends.{CountsFault}
use Rattle.run_report.proofs.DoesFile.{around}
use Rattle.run_report.proofs.Leaving.{read_through}
use Rattle.gateway_command.specs.Gateway.{format_of}
use Rattle.gateway_command.specs.state.Scanning.{ScansTo, ended_scan}
use Rattle.gateway_command.proofs.scanning.scan.Goals as goal

pub returns : goal.returns
returns g c =
    let asked = c.args.asked.now in
    let found = c.scan_records-scanned.result in
    let opened = c.in_ok-source.ensures in
    let scanned = rw c.format.ensures at c.scan_records-scanned.ensures in
    let closed = c.close.ensures in
    let before = opened.tries.counted.ok in
    record {
      told = λ all is.
          let bytes = opened.begun all is in
          (bytes.0, bytes.1, around (λ earlier later. ScansTo (format_of asked.to) asked.listener.stream asked.listener.limit bytes.0 (FailsAt earlier later) found) before closed.reading (scanned.told asked.listener.limit bytes.0 bytes.2));
      keeps = read_through opened.tries.opened scanned.reads.reads closed;
      missing = λ e. absurd cc;
      refused = tt;
      counted = around (CountsFault None (ended_scan found)) before closed.reading scanned.reads.counted;
      cut = λ how is. scanned.cut how cc;
      sound = λ shape is. scanned.sound shape cc;
    }
