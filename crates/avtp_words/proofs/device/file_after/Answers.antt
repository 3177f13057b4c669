use Rattle.std.proofs.Common.{sym, refl, ◌∙◌}
use Rattle.avtp_words.proofs.Devices.{named_at, not_named}
use Rattle.avtp_words.proofs.device.file_after.Goals as goal

pub returns-in_err-place : goal.returns-in_err-place
returns-in_err-place c = rw c.from_residual.ensures (not_named c.args.options.now c.args.name.now (sym c.in_err-place.ensures))

pub returns-in_err-word : goal.returns-in_err-word
returns-in_err-word c =
    rw c.from_residual-in_err-word.ensures ((named_at c.args.options.now c.args.name.now c.in_ok-place.place (sym c.in_ok-place.ensures)).1 ∙ sym c.in_err-word.ensures)

pub returns : goal.returns
returns c =
    let found = named_at c.args.options.now c.args.name.now c.in_ok-place.place (sym c.in_ok-place.ensures) in
    record {
      value = found.1 ∙ sym c.in_ok-word.ensures;
      before = c.in_ok-place.place;
      place = refl;
      option_at = found.0;
      name_at = sym c.in_ok-word.ensures;
    }
