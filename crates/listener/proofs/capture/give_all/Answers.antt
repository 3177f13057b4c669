use Rattle.std.proofs.Common.{List, rules, sym, subst}
use Rattle.sample_schedule.specs.declared.shown.Shown.{Shown}
use Rattle.listener.specs.state.Feeding.{HasGiven}
use Rattle.listener.proofs.Fed.{given_all, given_more, given_still, keeps_all}
use Rattle.listener.proofs.capture.give_all.Goals as goal

pub loop-shown-preserved : goal.loop-shown-preserved
loop-shown-preserved c = record {
  given = λ bytes has.
      let here = c.loop-shown.invariant.given bytes has in
      subst (λ (l : List Shown). HasGiven bytes l c.next_out.new.self) (sym c.in_ok-push.ensures.items)
      (given_more bytes c.loop-shown.list.items c.in-Some.shown c.loop-shown.listener c.next_out.new.self here (c.in-Some.ensures.given bytes _ here.stands) (c.in-Some.ensures.stands bytes _ here.stands) c.in-Some.ensures.keeps);
  keeps = keeps_all _ _ _ c.loop-shown.invariant.keeps c.in-Some.ensures.keeps;
}

pub returns : goal.returns
returns c =
    let i = c.loop-shown.invariant in
    let e = c.in_default.ensures in
    record {
      given = λ bytes has.
          let here = i.given bytes has in
          given_still bytes c.loop-shown.list.items c.loop-shown.listener c.next_out.new.self here (e.stands bytes _ here.stands) e.keeps;
      all = λ bytes has.
          let here = i.given bytes has in
          given_all bytes c.loop-shown.list.items c.loop-shown.listener c.next_out.new.self here (e.given bytes _ here.stands) e.keeps;
      quiet = search rules;
      keeps = keeps_all _ _ _ i.keeps e.keeps;
    }
