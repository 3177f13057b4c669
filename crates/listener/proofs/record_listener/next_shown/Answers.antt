use Rattle.std.proofs.Common.{◌≡◌, ◌+◌, ℕ, Bool, true, false, cond, Option, None, refl, sym, ap, ◌∙◌, subst, arith, length, rules}
use Rattle.std.specs.Prelude.{is_some, slice_get}
use Rattle.std.specs.Option.{option_to_list}
use Rattle.clock_track.specs.Rows.{clock_spot}
use Rattle.sample_schedule.specs.declared.plan.SchedulePlan.{SchedulePlan}
use Rattle.sample_schedule.specs.declared.shown.Shown.{Shown}
use Rattle.schedule_judge.specs.Judge.{JudgeState}
use Rattle.listener.specs.Listening.{Judges}
use Rattle.listener.specs.state.Listening.{shown_by}
use Rattle.listener.proofs.Judging.{found_out, judges_on, none_in}
use Rattle.listener.proofs.record_listener.next_shown.Goals as goal
use Rattle.avtp_base.proofs.Results.{not_some}

pub loop-next-init : goal.loop-next-init
loop-next-init c = record { judges = λ entries given j. j; units = λ ds has. has; plan = refl; ready = c.requires }

pub returns-then-is_some : goal.returns-then-is_some
returns-then-is_some c =
    let some : is_some c.next_out-next.result ≡ true = cc in
    let i = c.loop-next.invariant in
    let keeps = c.next_out-next.ensures.keeps in
    record {
      given = λ entries given j0.
          let j = i.judges entries given j0 in
          found_out c.args.ended c.loop-next.judge c.loop-next.units entries given c.next_out-next.result some j i.ready.over (c.next_out-next.ensures.given clock_spot j.judged given j.stands)
          ∙ ap (λ (p : SchedulePlan). slice_get (shown_by c.args.ended p entries) given) i.plan;
      judges = λ entries given j0.
          judges_on entries given (length (option_to_list c.next_out-next.result)) c.loop-next.judge c.next_out-next.new.self c.loop-next.units (λ es n s. c.next_out-next.ensures.stands clock_spot es n s) (i.judges entries given j0);
      units = i.units;
      idle = search rules;
      plan = keeps.plan ∙ i.plan;
      ready = search rules;
    }

pub returns-then-not-judge_next : goal.returns-then-not-judge_next
returns-then-not-judge_next c =
    let i = c.loop-next.invariant in
    let step = c.judge_next.ensures in
    let did : c.judge_next.result ≡ false = cc in
    let nothing : c.next_out-next.result ≡ None = not_some c.next_out-next.result cc in
    let none = step.none did in
    let closed : c.judge_next.new.judge.closed ≡ c.loop-next.judge.closed = ap (λ (x : JudgeState). x.closed) none.1.0 ∙ c.next_out-next.ensures.keeps.closed in
    record {
      given = λ entries given j0.
          let j = i.judges entries given j0 in
          none_in c.args.ended c.loop-next.judge c.loop-next.units entries given j none.0.0 (λ e. (i.ready.over e).0) (λ e. sym closed ∙ none.1.1 e) (sym nothing ∙ c.next_out-next.ensures.given clock_spot j.judged given j.stands)
          ∙ ap (λ (p : SchedulePlan). slice_get (shown_by c.args.ended p entries) given) i.plan;
      judges = λ entries given j0.
          let j = i.judges entries given j0 in
          let more = judges_on entries given (length (option_to_list c.next_out-next.result)) c.loop-next.judge c.next_out-next.new.self c.loop-next.units (λ es n s. c.next_out-next.ensures.stands clock_spot es n s) j in
          step.judges entries _ (subst (λ (o : Option Shown). Judges entries (given + length (option_to_list o)) c.next_out-next.new.self c.loop-next.units) nothing more);
      units = λ ds has. step.units ds (i.units ds has);
      idle = search rules;
      plan = step.plan ∙ (c.next_out-next.ensures.keeps.plan ∙ i.plan);
      ready = step.ready;
    }

pub loop-next-smaller : goal.loop-next-smaller
loop-next-smaller c =
    let did : c.judge_next.result ≡ true = cc in
    omega (arith, c.judge_next.ensures.less did, ap {B = ℕ} (λ (b : Bool). cond b 0 1) c.next_out-next.ensures.keeps.closed)

pub loop-next-preserved : goal.loop-next-preserved
loop-next-preserved c =
    let i = c.loop-next.invariant in
    let step = c.judge_next.ensures in
    let nothing : c.next_out-next.result ≡ None = not_some c.next_out-next.result cc in
    record {
      judges = λ entries given j0.
          let j = i.judges entries given j0 in
          let more = judges_on entries given (length (option_to_list c.next_out-next.result)) c.loop-next.judge c.next_out-next.new.self c.loop-next.units (λ es n s. c.next_out-next.ensures.stands clock_spot es n s) j in
          let same : given + length (option_to_list c.next_out-next.result) ≡ given = ap (λ (o : Option Shown). given + length (option_to_list o)) nothing ∙ omega arith in
          step.judges entries given (subst (λ (n : ℕ). Judges entries n c.next_out-next.new.self c.loop-next.units) same more);
      units = λ ds has. step.units ds (i.units ds has);
      plan = step.plan ∙ (c.next_out-next.ensures.keeps.plan ∙ i.plan);
      ready = step.ready;
    }
