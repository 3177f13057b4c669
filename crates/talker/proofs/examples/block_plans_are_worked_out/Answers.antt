use Rattle.std.proofs.Common.{List, ℕ, refl}
use Rattle.stream_journal.specs.Examples.{each_eighth, each_sixteenth}
use Rattle.stream_journal.proofs.Restarted.{Each, each_below}
use Rattle.talker.specs.Examples.{HasSameTimes, six_blocks}
use Rattle.talker.specs.Journal.{journal}
use Rattle.talk_plan.specs.Timing.{nominal_instant}
use Rattle.talker.proofs.examples.block_plans_are_worked_out.Goals as goal

abbrev IsEighth : List ℕ → ℕ → Type 0
IsEighth input n = HasSameTimes (journal (six_blocks 48000) input).times each_eighth n

abbrev IsSixteenth : List ℕ → ℕ → Type 0
IsSixteenth input n = HasSameTimes (journal (six_blocks 96000) input).times each_sixteenth n

eighth : (input : List ℕ) → Each (IsEighth input) 8
unfolding nominal_instant
eighth input = ((((((((tt, record { due = refl; stamp = refl; mr = refl; rule = refl }), record { due = refl; stamp = refl; mr = refl; rule = refl }), record { due = refl; stamp = refl; mr = refl; rule = refl }), record { due = refl; stamp = refl; mr = refl; rule = refl }), record { due = refl; stamp = refl; mr = refl; rule = refl }), record { due = refl; stamp = refl; mr = refl; rule = refl }), record { due = refl; stamp = refl; mr = refl; rule = refl }), record { due = refl; stamp = refl; mr = refl; rule = refl })

sixteenth : (input : List ℕ) → Each (IsSixteenth input) 8
unfolding nominal_instant
sixteenth input = ((((((((tt, record { due = refl; stamp = refl; mr = refl; rule = refl }), record { due = refl; stamp = refl; mr = refl; rule = refl }), record { due = refl; stamp = refl; mr = refl; rule = refl }), record { due = refl; stamp = refl; mr = refl; rule = refl }), record { due = refl; stamp = refl; mr = refl; rule = refl }), record { due = refl; stamp = refl; mr = refl; rule = refl }), record { due = refl; stamp = refl; mr = refl; rule = refl }), record { due = refl; stamp = refl; mr = refl; rule = refl })

pub returns-clause-eighth : goal.returns-clause-eighth
returns-clause-eighth c = λ input n h. each_below (IsEighth input) 8 (eighth input) n h

pub returns-clause-sixteenth : goal.returns-clause-sixteenth
returns-clause-sixteenth c = λ input n h. each_below (IsSixteenth input) 8 (sixteenth input) n h
