use Rattle.std.proofs.Common.{◌-◌, ◌≤◌, length}
use Rattle.option_words.specs.Tables.{rows_of}
use Rattle.option_words.specs.state.Steps.{AreOptionsTo}
use Rattle.option_words.specs.Word.{texts}
use Rattle.option_words.proofs.option.options_len.Given as goal

abbrev pub invariant-loop-name : goal.invariant-loop-name
invariant-loop-name l = (l.place ≤ length l.words) × AreOptionsTo (rows_of l.rows) (texts l.words) l.place

abbrev pub decreases-loop-name : goal.decreases-loop-name
decreases-loop-name l = length l.words - l.place
