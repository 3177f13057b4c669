use Rattle.std.proofs.Common.{◌∙◌, sym, subst, ap, length, ◌++◌, ◌∷◌, []}
use Rattle.cvf_format.specs.WholeOrBroken.{cut}
use Rattle.cvf_format.specs.Assembly.{Assembly, StandsFor}
use Rattle.cvf_format.proofs.AssemblyLemmas.{cut_stands, cut_count}
use Rattle.cvf_format.proofs.assembler.Assembler.cut.Goals as goal

pub returns : goal.returns
returns c = record {
  stands = λ events s. subst (λ (a : Assembly). StandsFor a (events ++ cut ∷ [])) (sym c.give_up.ensures.left) (cut_stands c.args.self.now events s);
  lost = λ events s. c.give_up.ensures.returned ∙ cut_count c.args.self.now events s;
  marks = c.give_up.ensures.returned ∙ sym (ap (λ (a : Assembly). length a.lost) c.give_up.ensures.left);
}
