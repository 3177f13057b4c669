-- The judge does with the current entry what the entry's verdict says.
use Rattle.std.proofs.Common.{◌≡◌, false, Some, ap, sym, subst, ◌∙◌, arith, rules, w64, to_z, of_z}
use Rattle.std.proofs.lemmas.Int.{ints}
use Rattle.schedule_judge.specs.declared.pending.Pending.TheVariants.{Item as PendingItem}
use Rattle.schedule_judge.specs.Judge.{JudgeState, StandsFor}
use Rattle.schedule_judge.specs.state.Order.{starts_due}
use Rattle.schedule_judge.proofs.JudgeLemmas.{accepted-as, flagged-as, less-accepted, out-of, passed-as, waits-judged}
use Rattle.schedule_judge.proofs.JudgeSound.{sound-accept}
use Rattle.schedule_judge.proofs.judge.Judge.judge.Goals as goal

pub invariant_of-self-in-Ok : goal.invariant_of-self-in-Ok
invariant_of-self-in-Ok c =
    rw c.take.ensures.after (sound-accept _ c.self.inside.ahead.capacity c.self.inside.waiting c.put_behind.new.self c.put_behind.new.self.list c.in-Some.pending c.in-Ok.accepted c.self.invariant (sym c.in-Some.ensures.value) c.put_behind.ensures.room c.in-Ok.ensures.waits.place.buffer c.in-Ok.ensures.waits.place.fits c.put_behind.ensures.list)

pub returns-in-Clock : goal.returns-in-Clock
returns-in-Clock c = record {
  next = λ clock entries given st. tt;
  stands = λ clock entries given st.
      let here = subst (λ (s : JudgeState). StandsFor clock entries given s) (sym c.self.view_is) st in
      let undue = subst (λ (s : JudgeState). starts_due s.time s.waiting ≡ false) (sym c.self.view_is) c.requires in
      passed-as clock entries given _ c.in-Clock.arrival _ here (sym c.in-Some.ensures.value ∙ ap Some c.in-Clock.is) undue c.take.ensures.after;
  keeps = search rules;
  less = search rules;
  ahead = search rules;
  idle = search rules;
}

pub returns-in-Ok : goal.returns-in-Ok
returns-in-Ok c = record {
  next = λ clock entries given st. tt;
  stands = λ clock entries given st.
      let here = subst (λ (s : JudgeState). StandsFor clock entries given s) (sym c.self.view_is) st in
      let undue = subst (λ (s : JudgeState). starts_due s.time s.waiting ≡ false) (sym c.self.view_is) c.requires in
      let judged : c.self.inside.current ≡ Some (PendingItem c.in-Item.item) = sym c.in-Some.ensures.value ∙ ap Some c.in-Item.is in
      let now : to_z w64 (of_z w64 c.self.inside.time) ≡ c.self.inside.time = omega (arith, ints) in
      let said = rw now at c.in-Ok.ensures.judged in
      let in_time = rw now at c.in-Ok.ensures.waits.stands in
      let v = said clock entries _ here.asks here.noted (waits-judged clock entries given _ (PendingItem c.in-Item.item) here judged undue) in
      accepted-as clock entries given _ c.in-Item.item c.in-Ok.accepted _ _ here judged c.self.invariant.behind undue v in_time c.put_behind.ensures.list c.take.ensures.after;
  keeps = search rules;
  less = less-accepted _ _ c.in-Some.pending c.in-Ok.accepted _ _ c.self.view_is (sym c.in-Some.ensures.value) c.put_behind.ensures.list c.take.ensures.after;
  ahead = search rules;
  idle = search rules;
}

pub returns-in-Err : goal.returns-in-Err
returns-in-Err c = record {
  next = λ clock entries given st.
      let here = subst (λ (s : JudgeState). StandsFor clock entries given s) (sym c.self.view_is) st in
      let undue = subst (λ (s : JudgeState). starts_due s.time s.waiting ≡ false) (sym c.self.view_is) c.requires in
      let judged : c.self.inside.current ≡ Some (PendingItem c.in-Item.item) = sym c.in-Some.ensures.value ∙ ap Some c.in-Item.is in
      let now : to_z w64 (of_z w64 c.self.inside.time) ≡ c.self.inside.time = omega (arith, ints) in
      let said = rw now at c.in-Err.ensures.judged in
      let v = said clock entries _ here.asks here.noted (waits-judged clock entries given _ (PendingItem c.in-Item.item) here judged undue) in
      let gives = flagged-as clock entries given _ c.in-Item.item c.in-Err.reason _ here judged c.self.invariant.behind undue v c.take.ensures.after in
      rw (c.frame-frame.ensures, c.seq-seq.ensures) (out-of clock entries given _ _ _ c.self.view_is gives.next);
  stands = λ clock entries given st.
      let here = subst (λ (s : JudgeState). StandsFor clock entries given s) (sym c.self.view_is) st in
      let undue = subst (λ (s : JudgeState). starts_due s.time s.waiting ≡ false) (sym c.self.view_is) c.requires in
      let judged : c.self.inside.current ≡ Some (PendingItem c.in-Item.item) = sym c.in-Some.ensures.value ∙ ap Some c.in-Item.is in
      let now : to_z w64 (of_z w64 c.self.inside.time) ≡ c.self.inside.time = omega (arith, ints) in
      let said = rw now at c.in-Err.ensures.judged in
      let v = said clock entries _ here.asks here.noted (waits-judged clock entries given _ (PendingItem c.in-Item.item) here judged undue) in
      (flagged-as clock entries given _ c.in-Item.item c.in-Err.reason _ here judged c.self.invariant.behind undue v c.take.ensures.after).stands;
  keeps = search rules;
  less = search rules;
  ahead = search rules;
  idle = search rules;
}
