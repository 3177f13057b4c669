use Rattle.agree_command.proofs.TwoFiles.{closes_both}
use Rattle.agree_command.proofs.comparing.Comparing.close.Goals as goal

pub returns : goal.returns
returns g c = closes_both _ _ (record { apart = c.requires.apart; a = c.requires.a; b = c.requires.b }) c.close.ensures c.close-2.ensures
