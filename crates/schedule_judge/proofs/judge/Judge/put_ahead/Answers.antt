-- The entry is put into the delay line. If the line was full, its first entry becomes the current one.
use Rattle.std.proofs.Common.{ℕ, ◌^◌, ◌<◌, ap, sym, subst, ◌∙◌}
use Rattle.circular_buffer.specs.Buffer.{Buffer}
use Rattle.schedule_judge.specs.declared.pending.Pending.{Pending}
use Rattle.schedule_judge.specs.Judge.{JudgeState, taken}
use Rattle.schedule_judge.proofs.JudgeSound.{Fits, Passes, passes-fits, pushed, pushes-none, puts-none, puts-of, puts-some, sound-pass, sound-put, taken-pass}
use Rattle.schedule_judge.proofs.judge.Judge.put_ahead.Goals as goal

fits : (c : goal.In-None) → Fits c.self.inside.ahead.items c.args.pending c.self.inside.ahead.capacity c.push_back.new.self.items
fits c = pushes-none c.self.inside.ahead.items c.args.pending c.self.inside.ahead.capacity c.push_back.new.self.items (ap (λ (b : Buffer Pending). b.items) c.in-None.ensures.items) c.in-None.ensures.value

pub invariant_of-self-in-None : goal.invariant_of-self-in-None
invariant_of-self-in-None c =
    sound-put _ c.self.inside.ahead.capacity _ c.self.inside.waiting c.args.pending c.push_back.new.self.items c.self.invariant (ap (λ (s : JudgeState). s.current) c.self.view_is ∙ c.requires.idle)
    (subst (λ (s : JudgeState). taken s < 2 ^ 62) (sym c.self.view_is) c.requires.taken) c.requires.pending (ap (λ (b : Buffer Pending). b.capacity) c.in-None.ensures.items) (fits c)

pub returns-in-None : goal.returns-in-None
returns-in-None c =
    puts-of c.args.pending _ _ _ c.self.view_is
    (puts-none _ c.args.pending c.push_back.new.self.items (ap (λ (s : JudgeState). s.current) c.self.view_is ∙ c.requires.idle) (subst (λ (n : ℕ). Fits c.self.inside.ahead.items c.args.pending n c.push_back.new.self.items) c.self.invariant.line (fits c)))

pub invariant_of-self : goal.invariant_of-self
invariant_of-self c =
    sound-pass _ c.self.inside.ahead.capacity _ c.self.inside.waiting c.args.pending c.in-Some.next c.push_back.new.self.items c.self.invariant c.requires.pending (ap (λ (b : Buffer Pending). b.capacity) c.in-Some.ensures.items) (pushed c.self.inside.ahead.items c.args.pending c.self.inside.ahead.capacity _ c.in-Some.next c.push_back.new.self c.self.invariant.line c.self.invariant.behind c.in-Some.ensures.items c.in-Some.ensures.value)

pub judge_next-requires : goal.judge_next-requires
judge_next-requires c =
    let passed = pushed c.self.inside.ahead.items c.args.pending c.self.inside.ahead.capacity _ c.in-Some.next c.push_back.new.self c.self.invariant.line c.self.invariant.behind c.in-Some.ensures.items c.in-Some.ensures.value in
    record {
      idle = ap (λ (s : JudgeState). s.current) c.self.view_is ∙ c.requires.idle;
      taken = taken-pass _ _ c.args.pending c.in-Some.next c.self.inside.ahead.capacity c.push_back.new.self.items c.self.view_is passed c.requires.taken;
      pending = passes-fits c.self.inside.ahead.items c.args.pending c.self.inside.ahead.capacity c.in-Some.next c.push_back.new.self.items passed c.self.invariant.ahead c.requires.pending;
    }

pub returns-in-Some : goal.returns-in-Some
returns-in-Some c =
    puts-of c.args.pending _ _ _ c.self.view_is
    (puts-some _ c.args.pending c.in-Some.next c.push_back.new.self.items _ (subst (λ (n : ℕ). Passes c.self.inside.ahead.items c.args.pending n c.in-Some.next c.push_back.new.self.items) c.self.invariant.line (pushed c.self.inside.ahead.items c.args.pending c.self.inside.ahead.capacity _ c.in-Some.next c.push_back.new.self c.self.invariant.line c.self.invariant.behind c.in-Some.ensures.items c.in-Some.ensures.value)) c.judge_next.ensures)
