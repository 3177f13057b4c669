use Rattle.std.proofs.Common.{◌∙◌}
use Rattle.cvf_format.specs.Assembly.{fragment_of}
use Rattle.cvf_format.proofs.NextUnit.{unit_size}
use Rattle.cvf_format.proofs.assembler.Assembler.unit_with.Goals as goal

pub returns : goal.returns
returns c = λ events s. c.size_with.ensures ∙ unit_size _ events (fragment_of c.args.mark c.args.instant c.args.view.now) c.requires s
