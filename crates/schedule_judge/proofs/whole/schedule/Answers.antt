use Rattle.std.proofs.Common.{◌≡◌, All, length, rules, sym, ap, subst, ◌∙◌}
use Rattle.std.proofs.lemmas.List.{nil_from_length}
use Rattle.std.proofs.lemmas.List.Elements.{All-tail}
use Rattle.schedule_judge.specs.Judge.{JudgeState}
use Rattle.sample_schedule.specs.Limits.{IsEntry}
use Rattle.schedule_judge.proofs.GivenLemmas.{between-first, between-more, ends, shown-whole}
use Rattle.schedule_judge.proofs.whole.schedule.Goals as goal

pub loop-entry-init : goal.loop-entry-init
loop-entry-init c = record {
  proper = subst (All IsEntry) (sym c.from_vec-entries.ensures.items) c.requires.entries;
  idle = c.in_ok-judge.ensures.idle;
  between = between-first c.args.plan.now c.args.entries.items _ _ c.in_ok-judge.judge c.in_ok-judge.ensures.plan c.in_ok-judge.ensures.open c.in_ok-judge.ensures.none c.from_vec-entries.ensures.items c.new-list.ensures.items c.in_ok-judge.ensures.stands;
}

pub loop-entry-preserved : goal.loop-entry-preserved
loop-entry-preserved c = record {
  proper = All-tail IsEntry c.in-Some.entry c.pop_front.new.self.items (subst (All IsEntry) c.in-Some.ensures.items c.loop-entry.invariant.proper);
  idle = c.in_ok-give_all.ensures.idle;
  between = between-more c.args.plan.now c.args.entries.items c.loop-entry.entries.items c.pop_front.new.self.items c.in-Some.entry c.loop-entry.list.items c.give_all.new.list.items c.loop-entry.judge c.take_entry.new.judge c.give_all.new.judge c.loop-entry.invariant.between c.in-Some.ensures.items
      c.take_entry.ensures.plan c.take_entry.ensures.open c.take_entry.ensures.taken c.take_entry.ensures.stands c.in_ok-give_all.ensures.given c.in_ok-give_all.ensures.all c.in_ok-give_all.ensures.keeps;
}

pub returns : goal.returns
returns c clock asks =
    let none : length c.loop-entry.entries.items ≡ 0 = let h = c.in_default.ensures.cases.0 in search rules in
    let last = ends clock c.args.plan.now c.args.entries.items c.loop-entry.entries.items c.loop-entry.list.items c.loop-entry.judge c.close.new.self asks c.loop-entry.invariant.between (nil_from_length c.loop-entry.entries.items none) (ap (λ (s : JudgeState). s.plan) c.close.ensures.same) (ap (λ (s : JudgeState). s.closed) c.close.ensures.same) (c.close.ensures.stands clock) in
    shown-whole clock c.args.plan.now c.args.entries.items c.give_all-2.new.list.items c.close.new.self c.give_all-2.new.judge (c.in_ok-give_all-2.ensures.all clock c.args.entries.items last) (ap (λ (s : JudgeState). s.plan) c.close.ensures.same ∙ c.loop-entry.invariant.between.same) (ap (λ (s : JudgeState). s.closed) c.close.ensures.same) c.in_ok-give_all-2.ensures.keeps
