use Rattle.std.proofs.Common.{◌++◌, ◌∷◌, length, pos}
use Rattle.listener.specs.Items.{made_of_one}
use Rattle.talker.specs.Journal.{journal}
use Rattle.talker.proofs.TalkLemmas.{audio_plan}
use Rattle.talked_headline.specs.Premises.{captured}
use Rattle.talked_headline.proofs.Talked.{kind_heard}
use Rattle.talked_presented.proofs.Anywhere.{caught, must_be}
use Rattle.talked_presented.proofs.laws.talked_copy_is_welcome.Goals as goal

pub returns : goal.returns
returns c plan input before after n listen h =
    let l = h.comes.talk in
    let p = journal plan input in
    let ks = before ++ n ∷ after in
    let heard = c.talked_is_heard.ensures plan input ks listen l in
    let w = caught plan input ks listen l h.comes.alone h.comes.sent heard (c.losses_are_delivered.ensures.records plan input ks (audio_plan plan l.talked) l.limit) (record {
      stream = λ k r. c.carried_packet_is_delivered.ensures.belongs (pos 0) p listen.lead k r heard.conforming;
      copy = λ k frame r. c.carried_packet_is_delivered.ensures.copy p listen.lead k frame r;
      clock = λ m r. c.carried_clock_packet_is_delivered.ensures.belongs (pos 0) p m r heard.conforming;
      clock_copy = λ m frame r. c.carried_clock_packet_is_delivered.ensures.copy p m frame r;
    }) in
    let must = must_be plan input before after n listen h w in
    (made_of_one must.0, c.copies_anywhere_are_welcome.ensures (pos 0) p listen (captured plan input ks) (length before) n must.0 heard (kind_heard plan input l.talked) must.1)
