use Rattle.std.proofs.Common.{◌≡◌, take}
use Rattle.option_words.specs.Word.{texts}
use Rattle.avtp_system.proofs.program.file_names.Given as goal

abbrev pub invariant-loop-capture : goal.invariant-loop-capture
invariant-loop-capture l = texts l.names.items ≡ take l.capture-index (texts l.captures)
