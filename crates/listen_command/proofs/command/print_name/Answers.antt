use Rattle.listen_command.proofs.Passing.{flushed}
use Rattle.listen_command.proofs.command.print_name.Goals as goal

pub returns : goal.returns
returns g c =
    let out = c.flush.ensures in
    flushed c.flush.result _ c.in_ok-capture.ensures out.written out.grows out.counted
