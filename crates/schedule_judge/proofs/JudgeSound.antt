-- The invariant of a judge holds after each of its calls.
use Rattle.std.proofs.Common.{◌≡◌, inl, inr, ℕ, suc, ◌+◌, ◌-◌, ◌^◌, ◌<◌, ◌≤◌, ℤ, List, [], ◌∷◌, ◌++◌, All, length, drop, Some, None, refl, sym, ap, ◌∙◌, subst, arith}
use Rattle.std.specs.Prelude.{if◌then◌else◌, nat_lt, slice_get}
use Rattle.std.specs.Int.{int_max}
use Rattle.std.specs.Option.{option_to_list}
use Rattle.schedule_judge.specs.Waiting.{Held}
use Rattle.std.proofs.lemmas.Bool.{cases_lt, le-ltb, lt-ltb}
use Rattle.std.proofs.lemmas.List.{length-append}
use Rattle.std.proofs.lemmas.List.Elements.{All-head, All-push, All-tail}
use Rattle.circular_buffer.specs.Buffer.{Buffer, buffer, keep_last}
use Rattle.sample_schedule.specs.declared.accepted.Accepted.{Accepted}
use Rattle.schedule_judge.specs.declared.pending.Pending.{Pending}
use Rattle.schedule_judge.specs.Judge.{JudgeState, taken}
use Rattle.schedule_judge.specs.state.Judge.{IsPending, IsSound, Puts, now_with, pending_arrival}
use Rattle.sample_schedule.specs.Order.{put_behind}
use Rattle.sample_schedule.specs.Verdicts.{total_bytes}
use Rattle.sample_schedule.proofs.LawLemmas.{bytes-put_behind}
use Rattle.sample_schedule.proofs.OrderLemmas.{length-put_behind}

-- ---- the delay line

pub record Fits (line : List Pending) (pending : Pending) (capacity : ℕ) (after : List Pending) : Type 0 where
  pub room : length line < capacity
  pub items : after ≡ line ++ pending ∷ []

pub record Passes (line : List Pending) (pending : Pending) (capacity : ℕ) (next : Pending) (after : List Pending) : Type 0 where
  pub full : capacity ≤ length line
  pub items : next ∷ after ≡ line ++ pending ∷ []
  pub size : length after ≡ length line

some_first : (line : List Pending) (pending : Pending) → slice_get (line ++ pending ∷ []) 0 ≡ None → ⊥
some_first [] pending e = cc
some_first (p ∷ line) pending e = cc

pub pushes-none : (line : List Pending) (pending : Pending) (size : ℕ) (items : List Pending) → items ≡ keep_last size (line ++ pending ∷ []) → None ≡ (if nat_lt (length line) size then None else slice_get (line ++ pending ∷ []) 0) → Fits line pending size items
pushes-none line pending size items is none = elim (cases_lt (length line) size) [
  | inl h ↦
      let l = length-append line (pending ∷ []) in
      let zero' : length (line ++ pending ∷ []) - size ≡ 0 = omega arith in
      record { room = h; items = is ∙ ap (λ (n : ℕ). drop n (line ++ pending ∷ [])) zero' }
  | inr h ↦ absurd (some_first line pending (sym (none ∙ rw (le-ltb (length line) size h) refl)))
]

drop_one : (line : List Pending) (pending next : Pending) → Some next ≡ slice_get (line ++ pending ∷ []) 0 → next ∷ drop 1 (line ++ pending ∷ []) ≡ line ++ pending ∷ []
drop_one [] pending next e = cc
drop_one (p ∷ line) pending next e = let f : next ≡ p = cc in ap (λ (q : Pending). q ∷ (line ++ pending ∷ [])) f

pub pushes-some : (line : List Pending) (pending : Pending) (size : ℕ) (next : Pending) (items : List Pending) → length line ≤ size → items ≡ keep_last size (line ++ pending ∷ []) → Some next ≡ (if nat_lt (length line) size then None else slice_get (line ++ pending ∷ []) 0) → Passes line pending size next items
pushes-some line pending size next items within is some = elim (cases_lt (length line) size) [
  | inl h ↦ absurd (let e : Some next ≡ None = some ∙ rw (lt-ltb (length line) size h) refl in cc)
  | inr h ↦
      let l = length-append line (pending ∷ []) in
      let one : length (line ++ pending ∷ []) - size ≡ 1 = omega arith in
      let rest : items ≡ drop 1 (line ++ pending ∷ []) = is ∙ ap (λ (n : ℕ). drop n (line ++ pending ∷ [])) one in
      let first : Some next ≡ slice_get (line ++ pending ∷ []) 0 = some ∙ rw (le-ltb (length line) size h) refl in
      let all : next ∷ items ≡ line ++ pending ∷ [] = ap (λ (q : List Pending). next ∷ q) rest ∙ drop_one line pending next first in
      let m : suc (length items) ≡ length (line ++ pending ∷ []) = ap (λ (q : List Pending). length q) all in
      record { full = h; items = all; size = omega arith }
]

pub pushed : (line : List Pending) (pending : Pending) (capacity look : ℕ) (next : Pending) (new : Buffer Pending) → capacity ≡ look → length line ≤ look → new ≡ buffer (keep_last capacity (line ++ pending ∷ [])) capacity
    → Some next ≡ (if nat_lt (length line) capacity then None else slice_get (line ++ pending ∷ []) 0) → Passes line pending capacity next new.items
pushed line pending capacity look next new same behind is some = pushes-some line pending capacity next new.items (omega arith) (ap (λ (b : Buffer Pending). b.items) is) some

pub puts-none : (s : JudgeState) (pending : Pending) (items : List Pending) → s.current ≡ None → Fits s.ahead pending s.plan.look items → Puts pending s (record s { ahead = items })
puts-none s pending items idle f =
    let l : length items ≡ length s.ahead + 1 = ap (λ (q : List Pending). length q) f.items ∙ length-append s.ahead (pending ∷ []) in
    let t : s.time ≡ now_with s.time s.current = rw idle refl in
    let line : option_to_list s.current ++ items ≡ s.ahead ++ pending ∷ [] = rw idle f.items in
    let room = f.room in
    record {
      same = ap (λ (t : ℤ). record s { time = t; ahead = items }) t;
      line = line;
      fits = λ h. l;
      full = λ h. absurd (omega arith);
    }

pub puts-some : (s : JudgeState) (pending next : Pending) (items : List Pending) (new : JudgeState) → Passes s.ahead pending s.plan.look next items → new ≡ record s { time = now_with s.time (Some next); current = Some next; ahead = items } → Puts pending s new
puts-some s pending next items new p is =
    let full = p.full in
    subst (Puts pending s) (sym is) (record {
      same = refl;
      line = p.items;
      fits = λ h. absurd (omega arith);
      full = λ h. p.size;
    })

pub taken-pass : (s old : JudgeState) (pending next : Pending) (capacity : ℕ) (items : List Pending) → s ≡ old → Passes s.ahead pending capacity next items → taken old < 2 ^ 62 → taken (record s { ahead = items }) < 2 ^ 62
taken-pass s old pending next capacity items e p few =
    let size = p.size in
    let same : taken s ≡ taken old = ap (λ (x : JudgeState). taken x) e in
    omega arith

-- a judge with no current entry has taken one entry more after an entry was put into the delay line
pub taken-put : (pending : Pending) (s new : JudgeState) → s.current ≡ None → Puts pending s new → taken new ≡ taken s + 1
taken-put pending s new idle p =
    let place : new.place ≡ s.place = ap (λ (x : JudgeState). x.place) p.same in
    let none : length (option_to_list s.current) ≡ 0 = rw idle refl in
    let all : length (option_to_list new.current ++ new.ahead) ≡ length (s.ahead ++ pending ∷ []) = ap (λ (q : List Pending). length q) p.line in
    let here = length-append (option_to_list new.current) new.ahead in
    let before = length-append s.ahead (pending ∷ []) in
    omega arith

-- ---- the invariant of every judge

pub sound-put : (s : JudgeState) (capacity size : ℕ) (held : Held) (pending : Pending) (items : List Pending) → IsSound s capacity held → s.current ≡ None → taken s < 2 ^ 62 → IsPending pending → size ≡ capacity → Fits s.ahead pending capacity items → IsSound (record s { ahead = items }) size held
sound-put s capacity size held pending items is idle few fits' same f =
    let l : length items ≡ length s.ahead + 1 = ap (λ (q : List Pending). length q) f.items ∙ length-append s.ahead (pending ∷ []) in
    let room = f.room in
    let line = is.line in
    record {
      plan = is.plan;
      current = is.current;
      ahead = subst (All IsPending) (sym f.items) (All-push IsPending s.ahead pending is.ahead fits');
      line = same ∙ is.line;
      behind = omega arith;
      taken = omega arith;
      room = is.room;
      batches = is.batches;
      bytes = is.bytes;
    }

-- the first entry of the delay line was removed
pub sound-pass : (s : JudgeState) (capacity size : ℕ) (held : Held) (pending next : Pending) (items : List Pending) → IsSound s capacity held → IsPending pending → size ≡ capacity → Passes s.ahead pending capacity next items → IsSound (record s { ahead = items }) size held
sound-pass s capacity size held pending next items is fits' same p =
    let all : All IsPending (next ∷ items) = subst (All IsPending) (sym p.items) (All-push IsPending s.ahead pending is.ahead fits') in
    let l = p.size in
    let behind = is.behind in
    let few = is.taken in
    record {
      plan = is.plan;
      current = is.current;
      ahead = All-tail IsPending next items all;
      line = same ∙ is.line;
      behind = omega arith;
      taken = omega arith;
      room = is.room;
      batches = is.batches;
      bytes = is.bytes;
    }

pub passes-fits : (line : List Pending) (pending : Pending) (capacity : ℕ) (next : Pending) (items : List Pending) → Passes line pending capacity next items → All IsPending line → IsPending pending → IsPending next
passes-fits line pending capacity next items p all fits' = All-head IsPending next items (subst (All IsPending) (sym p.items) (All-push IsPending line pending all fits'))

pub sound-next : (s : JudgeState) (capacity : ℕ) (held : Held) (next : Pending) (now : ℤ) → IsSound s capacity held → s.current ≡ None → taken s < 2 ^ 62 → IsPending next → IsSound (record s { time = now; current = Some next }) capacity held
sound-next s capacity held next now is idle few fits' =
    let none : length (option_to_list s.current) ≡ 0 = rw idle refl in
    record {
      plan = is.plan;
      current = fits';
      ahead = is.ahead;
      line = is.line;
      behind = is.behind;
      taken = omega arith;
      room = is.room;
      batches = is.batches;
      bytes = is.bytes;
    }

-- ---- the same facts, stated for the values that the code computes

abbrev next_state : JudgeState → ℤ → Pending → JudgeState
next_state s time next = record s { time = time; current = Some next }

pub next-is : (inside s : JudgeState) (time : ℤ) (next : Pending) → inside ≡ s → time ≡ int_max inside.time (pending_arrival next) → next_state inside time next ≡ next_state s (int_max s.time (pending_arrival next)) next
next-is inside s time next e is = ap (λ (t : ℤ). next_state inside t next) is ∙ ap (λ (x : JudgeState). next_state x (int_max x.time (pending_arrival next)) next) e

pub puts-of : (pending : Pending) (inside s new : JudgeState) → inside ≡ s → Puts pending inside new → Puts pending s new
puts-of pending inside s new e p = subst (λ (x : JudgeState). Puts pending x new) e p

pub popped : (line : List Pending) (next : Pending) (capacity : ℕ) (new : Buffer Pending) → new ≡ buffer (drop 1 line) capacity → Some next ≡ slice_get line 0 → line ≡ next ∷ new.items
popped [] next capacity new is some = absurd cc
popped (p ∷ line) next capacity new is some = let f : next ≡ p = cc in let r : new.items ≡ line = ap (λ (b : Buffer Pending). b.items) is in rw (f, r) refl

pub sound-accept : (s : JudgeState) (capacity : ℕ) (held after : Held) (waiting : List Accepted) (p : Pending) (a : Accepted) → IsSound s capacity held → s.current ≡ Some p → held.room ≤ after.room → length s.waiting < s.plan.buffer
    → total_bytes s.waiting + length a.batch.bytes ≤ s.plan.room → waiting ≡ put_behind s.waiting a → IsSound (record s { place = s.place + 1; waiting = waiting; current = None }) capacity after
sound-accept s capacity held after waiting p a is judged room batches bytes list =
    let one : length (option_to_list s.current) ≡ 1 = rw judged refl in
    let few = is.taken in
    let l : length waiting ≡ suc (length s.waiting) = ap (λ (xs : List Accepted). length xs) list ∙ length-put_behind s.waiting a in
    let b : total_bytes waiting ≡ total_bytes s.waiting + length a.batch.bytes = ap total_bytes list ∙ bytes-put_behind s.waiting a in
    let before = is.room in
    record {
      plan = is.plan;
      current = tt;
      ahead = is.ahead;
      line = is.line;
      behind = is.behind;
      taken = omega arith;
      room = omega arith;
      batches = omega arith;
      bytes = omega arith;
    }
