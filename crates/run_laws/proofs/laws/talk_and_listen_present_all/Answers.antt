use Rattle.std.proofs.Common.{false, ◌∙◌}
use Rattle.talker.proofs.TalkLemmas.{audio_plan}
use Rattle.talked_presented.specs.Examples.{plain}
use Rattle.run_laws.proofs.Talked.{ends, makes}
use Rattle.run_laws.proofs.Words.{default_id}
use Rattle.run_laws.proofs.laws.talk_and_listen_present_all.Goals as goal

pub returns-clause-made : goal.returns-clause-made
returns-clause-made g c = λ bytes input output files after old new failed input_is output_is apart holds ran.
    let made = makes bytes input output files after _ _ failed input_is output_is apart holds ran in
    (c.examples_are_so.ensures.dense bytes made.0, made.1)

pub returns-clause-ends : goal.returns-clause-ends
returns-clause-ends g c = λ bytes input output files after old new failed ended input_is output_is apart holds limit whole ran memory written.
    ends bytes input output files after _ _ failed ended input_is output_is apart holds (audio_plan (plain false) (c.examples_are_so.ensures.dense bytes limit).talked) limit whole ran memory written

pub returns-clause-given : goal.returns-clause-given
returns-clause-given g c = λ bytes input output files made kept after a b old new failed other input_is output_is apart holds talked same listened.
    let it = makes bytes input output files made _ _ failed input_is output_is apart holds talked in
    c.default_words_present_all.ensures.given (plain false) bytes _ output kept after old new other (c.examples_are_so.ensures.dense bytes it.0) default_id output_is (same ∙ it.1) listened
