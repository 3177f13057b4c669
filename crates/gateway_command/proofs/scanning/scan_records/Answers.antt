use Rattle.std.proofs.Common.{subst, ap}
use Rattle.pcap_frames.specs.Capture.{Record}
use Rattle.run_report.proofs.Leaving.{amid_begun, live_now, amid_ends, amid_over, amid_cut, amid_next, none_left, some_same}
use Rattle.run_report.specs.Reading.{ReadsCapture}
use Rattle.gateway_command.proofs.Scanned.{none_scanned, cut_as, ended_as, scanned_ended, sound_as, scanned_fault, one_scanned}
use Rattle.gateway_command.proofs.scanning.scan_records.Goals as goal

pub loop-end-init : goal.loop-end-init
loop-end-init g c = record {
  amid = amid_begun _ _ c.requires;
  scanned = λ limit bytes given. none_scanned c.new-scan.ensures given;
}

pub next-requires : goal.next-requires
next-requires g c = live_now c.loop-end.invariant.amid.reads

pub returns-in-Some : goal.returns-in-Some
returns-in-Some g c =
    let before = c.loop-end.invariant in
    let how = c.in-Some.end in
    let gives = rw c.in-Some.is at c.next.ensures in
    rw c.scanned_by.ensures
    (record {
      told = λ limit bytes given.
          let to = before.scanned limit bytes given in
          scanned_ended how c.shape.result to.records (amid_ends how limit bytes to.records before.amid gives to.given) to.clean (c.shape.ensures.exact _ _ to.records to.clean);
      reads = subst (ReadsCapture _ _ _ _) (ended_as how c.shape.result) (amid_over how before.amid gives);
      cut = cut_as how c.shape.result;
      sound = sound_as how c.shape.result c.shape.ensures.sound;
    })

pub returns-in-Err : goal.returns-in-Err
returns-in-Err g c =
    let before = c.loop-end.invariant in
    let next = c.next.ensures in
    let none = none_left _ c.in_default.not-Some in
    record {
      told = λ limit bytes given.
          let to = before.scanned limit bytes given in
          let more = next.given none limit bytes to.records to.given in
          let same = ap (λ (r : Record). r.bytes) (some_same _ _ _ more.1 c.record.ensures.exact) in
          scanned_fault c.args.to c.args.stream c.in-Err.fault to.records more.0 more.2 to.counted (λ others. c.in-Err.ensures.fault c.args.to c.args.stream to.records others more.0 same to.clean);
      reads = amid_cut (amid_next before.amid none next);
      cut = λ how is. absurd cc;
      sound = λ shape is. absurd cc;
    }

pub loop-end-preserved : goal.loop-end-preserved
loop-end-preserved g c =
    let before = c.loop-end.invariant in
    let next = c.next.ensures in
    let none = none_left _ c.in_default.not-Some in
    record {
      amid = amid_next before.amid none next;
      scanned = λ limit bytes given.
          let to = before.scanned limit bytes given in
          let more = next.given none limit bytes to.records to.given in
          let same = ap (λ (r : Record). r.bytes) (some_same _ _ _ more.1 c.record.ensures.exact) in
          one_scanned to.records more.0 more.2 to.counted (c.in_default-note.ensures.scanned c.args.to c.args.stream to.records more.0 same to.clean);
    }
