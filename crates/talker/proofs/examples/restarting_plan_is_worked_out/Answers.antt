use Rattle.std.proofs.Common.{List, ℕ, refl}
use Rattle.stream_journal.specs.Examples.{restarted}
use Rattle.stream_journal.proofs.Restarted.{Each, each_below}
use Rattle.talker.specs.Examples.{HasSameTimes, restarting}
use Rattle.talker.specs.Journal.{journal}
use Rattle.talk_plan.specs.Timing.{nominal_instant}
use Rattle.talker.proofs.examples.restarting_plan_is_worked_out.Goals as goal

abbrev IsSame : List ℕ → ℕ → Type 0
IsSame input n = HasSameTimes (journal restarting input).times restarted n

each : (input : List ℕ) → Each (IsSame input) 20
unfolding nominal_instant
each input = ((((((((((((((((((((tt, record { due = refl; stamp = refl; mr = refl; rule = refl }), record { due = refl; stamp = refl; mr = refl; rule = refl }), record { due = refl; stamp = refl; mr = refl; rule = refl }), record { due = refl; stamp = refl; mr = refl; rule = refl }), record { due = refl; stamp = refl; mr = refl; rule = refl }), record { due = refl; stamp = refl; mr = refl; rule = refl }), record { due = refl; stamp = refl; mr = refl; rule = refl }), record { due = refl; stamp = refl; mr = refl; rule = refl }), record { due = refl; stamp = refl; mr = refl; rule = refl }), record { due = refl; stamp = refl; mr = refl; rule = refl }), record { due = refl; stamp = refl; mr = refl; rule = refl }), record { due = refl; stamp = refl; mr = refl; rule = refl }), record { due = refl; stamp = refl; mr = refl; rule = refl }), record { due = refl; stamp = refl; mr = refl; rule = refl }), record { due = refl; stamp = refl; mr = refl; rule = refl }), record { due = refl; stamp = refl; mr = refl; rule = refl }), record { due = refl; stamp = refl; mr = refl; rule = refl }), record { due = refl; stamp = refl; mr = refl; rule = refl }), record { due = refl; stamp = refl; mr = refl; rule = refl }), record { due = refl; stamp = refl; mr = refl; rule = refl })

pub returns : goal.returns
returns c = λ input n h. each_below (IsSame input) 20 (each input) n h
