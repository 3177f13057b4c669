use Rattle.avtp_words.specs.Grammar.{talking_of}
use Rattle.talk_command.proofs.TalkRun.{opened_runs, unopened_runs}
use Rattle.talk_command.proofs.command.talk.Goals.{in-Ok, in-Err}
use Rattle.talk_command.proofs.command.talk.Goals as goal

pub returns : goal.returns
returns g c =
    elim c.match-read_contents.branch [
      | in-Ok w ↦ (
          let read = w.in-Ok.ensures in
          let made = rw w.plan.ensures at w.talk_contents.ensures in
          rw (w.shelf-is, w.text-is, w.out-is, w.result-is) (opened_runs (talking_of c.args.asked.now) w.in-Ok.contents read.read read.counted.stopped read.keeps made.tells made.makes made.writes made.counts made.sink))
      | in-Err w ↦ (
          let read = w.in-Err.ensures in
          rw (w.shelf-is, w.text-is, w.out-is, w.result-is) (unopened_runs (talking_of c.args.asked.now) w.in-Err.fault read.missing read.counted read.keeps w.print_unopened.ensures))
    ]
