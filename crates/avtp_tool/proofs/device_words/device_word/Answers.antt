use Rattle.std.proofs.Common.{◌≡◌, ap, ◌∙◌}
use Rattle.std.specs.Prelude.{slice_get}
use Rattle.avtp_words.specs.Grammar.{listen, Listening, listening_of}
use Rattle.avtp_tool.specs.DeviceWords.{devices_of}
use Rattle.avtp_tool.proofs.device_words.device_word.Goals as goal

pub returns-in_default-clause-found : goal.returns-in_default-clause-found
returns-in_default-clause-found c asked line = absurd (c.in_default.ensures.only (listen asked) line)

pub returns-in-Listen-clause-found : goal.returns-in-Listen-clause-found
returns-in-Listen-clause-found c asked line =
    let request = rw c.in-Listen.is at (c.in-Ok.ensures.only (listen asked) line) in
    let same : listening_of c.in-Listen.asked ≡ asked = asked_same request in
    c.device_of.ensures ∙ ap (λ (a : Listening). slice_get (devices_of a) c.args.n) same
  where
    asked_same : {a b : Listening} → listen a ≡ listen b → a ≡ b
    asked_same same = cc
