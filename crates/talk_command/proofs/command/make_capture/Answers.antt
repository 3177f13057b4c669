use Rattle.std.proofs.Common.{rules, List, [], ℕ, map, arith, sym, subst, ◌∙◌}
use Rattle.std.proofs.lemmas.List.{take-map}
use Rattle.capture_io.specs.CaptureWriting.{HoldsCapture}
use Rattle.talker.specs.Frames.{SentFrame, capture, frames, record_of}
use Rattle.run_report.proofs.Making.{capture_first, prefix_further, slots_closed}
use Rattle.run_report.proofs.Sending.{frames_all}
use Rattle.talk_command.proofs.Talked.{asks_one, unmade_part, made_all}
use Rattle.talk_command.proofs.command.make_capture.Goals as goal

pub returns-in_err-writer : goal.returns-in_err-writer
returns-in_err-writer g c = record {
  made = search rules;
  part = search rules;
  not_missing = search rules;
  slots = search rules;
  reading = search rules;
  writing = search rules;
  asked = asks_one c.args.name.now c.create.ensures.asked;
}

pub returns-in-Err : goal.returns-in-Err
returns-in-Err g c =
    let created = c.in_ok-writer.ensures in
    let written = c.in-Err.ensures in
    let closed = c.abandon.ensures in
    let name : List ℕ = c.args.name.now in
    let all : List SentFrame = frames c.args.talker.now.plan c.args.talker.now.input in
    let some = written.part _ name [] created.begun in
    let holds = subst (HoldsCapture _ _ _ name) (sym (take-map record_of some.0 all)) some.1 in
    let first = capture_first (map record_of all) some.0 in
    unmade_part name (capture c.args.talker.now.plan c.args.talker.now.input) (prefix_further first.0 first.1 (closed.prefix _ _ _ holds)) (slots_closed _ created written.writes.slots written.writes.slot holds closed)
    (closed.reading ∙ (written.writes.reading ∙ created.reading))
    (omega (arith, created.counted.ok, written.writes.counted.never_falls, closed.counted.ok)) (omega (arith, created.counted.ok, written.writes.counted.failed, closed.counted.ok))
    (λ names stands. closed.asked _ (written.writes.asked _ (created.asked names stands)))

pub returns-in-Ok-finish : goal.returns-in-Ok-finish
returns-in-Ok-finish g c =
    let created = c.in_ok-writer.ensures in
    let written = c.in-Ok-write_frames.ensures in
    let closed = c.in-Ok-finish.ensures in
    let name : List ℕ = c.args.name.now in
    let all : List SentFrame = frames c.args.talker.now.plan c.args.talker.now.input in
    let holds = frames_all all (written.added _ name [] created.begun) in
    made_all name (capture c.args.talker.now.plan c.args.talker.now.input) _ (closed.put _ _ _ holds) (slots_closed _ created written.writes.slots written.writes.slot holds closed.closes)
    (closed.closes.reading ∙ (written.writes.reading ∙ created.reading)) (closed.closes.counted.ok ∙ (written.writes.counted.ok ∙ created.counted.ok))
    (λ names stands. closed.closes.asked _ (written.writes.asked _ (created.asked names stands)))

pub returns-in-Err-finish : goal.returns-in-Err-finish
returns-in-Err-finish g c =
    let created = c.in_ok-writer.ensures in
    let written = c.in-Ok-write_frames.ensures in
    let closed = c.in-Err-finish.ensures in
    let name : List ℕ = c.args.name.now in
    let all : List SentFrame = frames c.args.talker.now.plan c.args.talker.now.input in
    let holds = frames_all all (written.added _ name [] created.begun) in
    unmade_part name (capture c.args.talker.now.plan c.args.talker.now.input) (closed.closes.prefix _ _ _ holds) (slots_closed _ created written.writes.slots written.writes.slot holds closed.closes)
    (closed.closes.reading ∙ (written.writes.reading ∙ created.reading))
    (omega (arith, created.counted.ok, written.writes.counted.ok, closed.closes.counted.never_falls)) (omega (arith, created.counted.ok, written.writes.counted.ok, closed.closes.counted.failed))
    (λ names stands. closed.closes.asked _ (written.writes.asked _ (created.asked names stands)))
