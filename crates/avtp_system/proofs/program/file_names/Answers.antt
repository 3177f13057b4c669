use Rattle.std.proofs.Common.{◌≡◌, ap, get_or, ◌∙◌}
use Rattle.std.specs.Prelude.{string_bytes}
use Rattle.option_words.specs.Word.{texts}
use Rattle.avtp_system.proofs.Names.{copied_one}
use Rattle.avtp_system.proofs.program.file_names.Goals as goal

pub loop-capture-preserved : goal.loop-capture-preserved
loop-capture-preserved c =
    let captures = c.args.captures.now in
    let i = c.loop-capture.capture-index in
    let copy = c.in_ok-clone.field-0 in
    let same : string_bytes copy ≡ string_bytes (get_or captures i c.capture-item.result) = c.in_ok-clone.ensures.cases ∙ ap string_bytes c.capture-item.is in
    ap texts c.in_ok-push.ensures.items ∙ copied_one c.loop-capture.names.items captures copy c.capture-item.result i c.loop-capture-test.true same c.loop-capture.invariant
