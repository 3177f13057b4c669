use Rattle.std.proofs.Common.{◌≡◌, ℕ, List, ◌++◌, ◌∷◌, length, pos, sym, subst, append_assoc, length-append, arith}
use Rattle.listener.specs.Items.{made_of_one}
use Rattle.listener.specs.Laws.{IsWelcome}
use Rattle.talker.specs.Journal.{journal}
use Rattle.talker.proofs.TalkLemmas.{audio_plan}
use Rattle.talked_headline.specs.Premises.{captured}
use Rattle.talked_headline.proofs.Talked.{kind_heard}
use Rattle.talked_presented.proofs.Anywhere.{caught, comes_here}
use Rattle.talked_presented.proofs.laws.talked_copy_is_further.Goals as goal

pub returns : goal.returns
returns c plan input before between after n listen first second =
    let l = second.talk in
    let p = journal plan input in
    let front = before ++ n ∷ between in
    let ks = front ++ n ∷ after in
    let heard = c.talked_is_heard.ensures plan input ks listen l in
    let w = caught plan input ks listen l second.alone second.sent heard (c.losses_are_delivered.ensures.records plan input ks (audio_plan plan l.talked) l.limit) (record {
      stream = λ k r. c.carried_packet_is_delivered.ensures.belongs (pos 0) p listen.lead k r heard.conforming;
      copy = λ k frame r. c.carried_packet_is_delivered.ensures.copy p listen.lead k frame r;
      clock = λ m r. c.carried_clock_packet_is_delivered.ensures.belongs (pos 0) p m r heard.conforming;
      clock_copy = λ m frame r. c.carried_clock_packet_is_delivered.ensures.copy p m frame r;
    }) in
    let made = c.talked_copy_is_welcome.ensures plan input before (between ++ n ∷ after) n listen first in
    let same : before ++ n ∷ (between ++ n ∷ after) ≡ ks = sym (append_assoc before (n ∷ between) (n ∷ after)) in
    let welcome : IsWelcome p listen (captured plan input ks) (length before) n made.0 = subst (λ (l : List ℕ). IsWelcome p listen (captured plan input l) (length before) n made.0) same made.1 in
    let copy = comes_here plan input front after n listen second w in (
      made_of_one copy.d,
      c.copies_anywhere_are_further.ensures (pos 0) p listen (captured plan input ks) (length before) (length front) n made.0 copy.d heard (kind_heard plan input l.talked) welcome (omega (arith, length-append before (n ∷ between))) copy.comes,
    )
