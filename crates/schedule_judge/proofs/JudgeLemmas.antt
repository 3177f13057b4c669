-- The state of a judge after each of its calls.
use Rattle.std.proofs.Common.{◌≡◌, inl, inr, ℕ, zero, suc, ◌+◌, ◌-◌, ◌<◌, ◌≤◌, Bool, true, false, ℤ, pos, ◌≤ℤ◌, ◌<ℤ◌, List, [], ◌∷◌, ◌++◌, length, take, drop, map, Option, Some, None, Result, Ok, Err, refl, sym, ap, ◌∙◌, subst, append_assoc, append-nil, arith}
use Rattle.std.specs.Prelude.{if◌then◌else◌, is_some, slice_get, ◌≢◌}
use Rattle.std.specs.Int.{int_max}
use Rattle.std.specs.List.{AllByRecursion}
use Rattle.std.specs.Option.{option_to_list}
use Rattle.std.proofs.lemmas.Int.{ints, by_lt_z}
use Rattle.std.proofs.lemmas.Bool.{cases_lt}
use Rattle.std.proofs.lemmas.List.{drop-append-le, length-append, length-drop, length-map, map-append, take_all}
use Rattle.std.proofs.Math.Seq.{take-length}
use Rattle.sample_schedule.specs.declared.accepted.Accepted.{Accepted}
use Rattle.sample_schedule.specs.declared.entry.Entry.{Entry}
use Rattle.sample_schedule.specs.declared.entry.Entry.TheVariants.{Item as OfItem, Clock as OfClock}
use Rattle.sample_schedule.specs.declared.item.Item.{Item}
use Rattle.sample_schedule.specs.declared.noted.Noted.{Noted}
use Rattle.schedule_judge.specs.declared.pending.Pending.{Pending}
use Rattle.schedule_judge.specs.declared.pending.Pending.TheVariants.{Item as PendingItem, Clock as PendingClock}
use Rattle.sample_schedule.specs.declared.plan.SchedulePlan.{SchedulePlan}
use Rattle.sample_schedule.specs.declared.shown.Reason.{Reason}
use Rattle.sample_schedule.specs.declared.shown.Shown.{Shown}
use Rattle.schedule_judge.specs.Judge.{JudgeState, Keeps, StandsFor, begun, is_over, out, pending_of, taken, work}
use Rattle.schedule_judge.specs.state.Judge.{Puts, now_with, pending_arrival}
use Rattle.sample_schedule.specs.Noted.{HasNoted}
use Rattle.sample_schedule.specs.Order.{between, by_instant, due_of, left_of, put_behind, standing}
use Rattle.schedule_judge.specs.state.Order.{starts_due}
use Rattle.sample_schedule.specs.Schedule.{Given, Presents, Flags, accepted, accepted_by, arrival_of, due, flag_by, given, judged, latest, now_at, prefix_of, present, rest_of, settled, shown, shown_of, steps, waiting}
use Rattle.sample_schedule.specs.Verdicts.{Clock, IsClockOf, timed, verdict}
use Rattle.sample_schedule.proofs.Growing.{accepted-stays, steps-stay, steps-upto, take-first}
use Rattle.sample_schedule.proofs.LawLemmas.{all-after, now-grows}
use Rattle.sample_schedule.proofs.OrderLemmas.{all-weaker, due-waiting, le_false, le_true, left-waiting, length-put_behind, lt_false, lt_true, waiting-more}
use Rattle.sample_schedule.proofs.StageLemmas.{accepted-next, max_above, now-next, step-is}

-- ---- items of a list by their index

get-at : (S : List Given) (ps : List Accepted) (a : Accepted) (X : List Accepted) (F T : List Given) (n : ℕ) → n ≡ length S + length ps → slice_get (map shown_of ((S ++ (map Presents (ps ++ a ∷ X) ++ F)) ++ T)) n ≡ Some (present a)
get-at [] [] a X F T zero e = refl
get-at [] [] a X F T (suc n) e = absurd (omega arith)
get-at [] (p ∷ ps) a X F T zero e = absurd (omega arith)
get-at [] (p ∷ ps) a X F T (suc n) e = get-at [] ps a X F T n (omega arith)
get-at (s ∷ S) ps a X F T zero e = absurd (omega arith)
get-at (s ∷ S) ps a X F T (suc n) e = get-at S ps a X F T n (omega arith)

get-flag : (S : List Given) (ps : List Accepted) (g : Given) (T : List Given) (n : ℕ) → n ≡ length S + length ps → slice_get (map shown_of ((S ++ (map Presents ps ++ g ∷ [])) ++ T)) n ≡ Some (shown_of g)
get-flag [] [] g T zero e = refl
get-flag [] [] g T (suc n) e = absurd (omega arith)
get-flag [] (p ∷ ps) g T zero e = absurd (omega arith)
get-flag [] (p ∷ ps) g T (suc n) e = get-flag [] ps g T n (omega arith)
get-flag (s ∷ S) ps g T zero e = absurd (omega arith)
get-flag (s ∷ S) ps g T (suc n) e = get-flag S ps g T n (omega arith)

get-last : (S : List Given) (ps : List Accepted) (a : Accepted) (X : List Accepted) (n : ℕ) → n ≡ length S + length ps → slice_get (map shown_of (S ++ map Presents (ps ++ a ∷ X))) n ≡ Some (present a)
get-last [] [] a X zero e = refl
get-last [] [] a X (suc n) e = absurd (omega arith)
get-last [] (p ∷ ps) a X zero e = absurd (omega arith)
get-last [] (p ∷ ps) a X (suc n) e = get-last [] ps a X n (omega arith)
get-last (s ∷ S) ps a X zero e = absurd (omega arith)
get-last (s ∷ S) ps a X (suc n) e = get-last S ps a X n (omega arith)

get-past : (l : List Given) (n : ℕ) → n ≡ length l → slice_get (map shown_of l) n ≡ None
get-past [] n e = refl
get-past (x ∷ l) zero e = absurd (omega arith)
get-past (x ∷ l) (suc n) e = get-past l n (omega arith)

-- ---- which items of a list are due

left-passed : (t : ℤ) (ps ws : List Accepted) → AllByRecursion (λ a. a.instant <ℤ t) ps → left_of t (ps ++ ws) ≡ left_of t ws
left-passed t [] ws h = refl
left-passed t (p ∷ ps) ws h = rw (lt_true p.instant t h.0) (left-passed t ps ws h.1)

due-passed : (t : ℤ) (ps ws : List Accepted) → AllByRecursion (λ a. a.instant <ℤ t) ps → due_of t (ps ++ ws) ≡ ps ++ due_of t ws
due-passed t [] ws h = refl
due-passed t (p ∷ ps) ws h = rw (lt_true p.instant t h.0) (ap (λ (l : List Accepted). p ∷ l) (due-passed t ps ws h.1))

none-due : (t : ℤ) (ws : List Accepted) → starts_due t ws ≡ false → due_of t ws ≡ []
none-due t [] e = refl
none-due t (w ∷ ws) e = rw e refl

all-left : (t : ℤ) (ws : List Accepted) → starts_due t ws ≡ false → left_of t ws ≡ ws
all-left t [] e = refl
all-left t (w ∷ ws) e = rw e refl

between-none : (t : ℤ) (xs : List Accepted) → between t t xs ≡ []
between-none t [] = refl
between-none t (x ∷ xs) = by_lt_z x.instant t
    (λ h. rw (le_false t x.instant h) (between-none t xs))
    (λ h. rw (le_true t x.instant h, lt_false x.instant t h) (between-none t xs))

-- ---- the current entry

record Current (entries : List Entry) (place : ℕ) (pending : Pending) (ahead : List Pending) : Type 0 where
  entry : Entry
  at : slice_get entries place ≡ Some entry
  is : pending_of entry ≡ pending
  rest : map pending_of (drop (place + 1) entries) ≡ ahead

current-of : (entries : List Entry) (place : ℕ) (pending : Pending) (ahead : List Pending) → map pending_of (drop place entries) ≡ pending ∷ ahead → Current entries place pending ahead
current-of [] zero pending ahead e = absurd cc
current-of [] (suc n) pending ahead e = absurd cc
current-of (y ∷ ys) zero pending ahead e = record { entry = y; at = refl; is = cc; rest = cc }
current-of (y ∷ ys) (suc n) pending ahead e =
    let c = current-of ys n pending ahead e in
    let more : suc n + 1 ≡ suc (n + 1) = omega arith in
    record { entry = c.entry; at = c.at; is = c.is; rest = rw more c.rest }

arrives : (e : Entry) → pending_arrival (pending_of e) ≡ arrival_of e
arrives (OfItem item) = refl
arrives (OfClock arrival row) = refl

is-item : (e : Entry) (item : Item) → pending_of e ≡ PendingItem item → e ≡ OfItem item
is-item (OfItem other) item e = cc
is-item (OfClock arrival row) item e = absurd cc

-- ---- what the state of a judge means

-- the batches that waited before the current entry was taken
abbrev before_of : Clock → List Entry → JudgeState → List Accepted
before_of clock entries s = by_instant (standing (latest (take s.place entries)) (accepted clock s.plan entries s.place))

abbrev earlier_of : Clock → List Entry → JudgeState → List Accepted
earlier_of clock entries s = accepted clock s.plan entries s.place

pub all-taken : (clock : Clock) (entries : List Entry) (given : ℕ) (s : JudgeState) → StandsFor clock entries given s → taken s ≡ length entries
all-taken clock entries given s st =
    let within = st.within in
    let l : length (map pending_of (drop s.place entries)) ≡ length (option_to_list s.current ++ s.ahead) = ap (λ (p : List Pending). length p) st.left in
    let m = length-map (drop s.place entries) pending_of in
    let d = length-drop s.place entries in
    let a = length-append (option_to_list s.current) s.ahead in
    omega arith

-- Nothing is due. If the instant of an accepted batch has passed, the batch has been presented; every other accepted
-- batch waits.
record Settled (clock : Clock) (entries : List Entry) (front : List Accepted) (s : JudgeState) : Type 0 where
  passed : front ≡ by_instant (between (latest (take s.place entries)) s.time (earlier_of clock entries s))
  waiting : s.waiting ≡ by_instant (standing s.time (earlier_of clock entries s))

settled-by : (clock : Clock) (entries : List Entry) (given : ℕ) (s : JudgeState) (st : StandsFor clock entries given s) → is_over s ≡ false → latest (take s.place entries) ≤ℤ s.time → starts_due s.time s.waiting ≡ false → Settled clock entries st.passed s
settled-by clock entries given s st not_over grows undue =
    let from = latest (take s.place entries) in
    let early = st.early not_over in
    let due' : due_of s.time (st.passed ++ s.waiting) ≡ st.passed = due-passed s.time st.passed s.waiting early ∙ ap (λ (l : List Accepted). st.passed ++ l) (none-due s.time s.waiting undue) ∙ append-nil st.passed in
    let left' : left_of s.time (st.passed ++ s.waiting) ≡ s.waiting = left-passed s.time st.passed s.waiting early ∙ all-left s.time s.waiting undue in
    record {
      passed = sym due' ∙ ap (due_of s.time) st.waiting ∙ due-waiting from s.time (earlier_of clock entries s);
      waiting = sym left' ∙ ap (left_of s.time) st.waiting ∙ left-waiting from s.time (earlier_of clock entries s) grows;
    }

not_over-current : (s : JudgeState) (p : Pending) → s.current ≡ Some p → is_over s ≡ false
not_over-current s p e = rw e (of s.closed)
  where
    of : (b : Bool) → (if b then false else false) ≡ false
    of true = refl
    of false = refl

not_over-open : (s : JudgeState) → s.closed ≡ false → is_over s ≡ false
not_over-open s e = rw e refl

begun-current : (s : JudgeState) (p : Pending) → s.current ≡ Some p → begun s ≡ suc s.place
begun-current s p e = rw e (omega arith)

begun-none : (s : JudgeState) → s.current ≡ None → begun s ≡ s.place
begun-none s e = rw e (omega arith)

being-judged : (clock : Clock) (entries : List Entry) (given : ℕ) (s : JudgeState) (p : Pending) → StandsFor clock entries given s → s.current ≡ Some p → Current entries s.place p s.ahead
being-judged clock entries given s p st e = current-of entries s.place p s.ahead (st.left ∙ ap (λ (o : Option Pending). option_to_list o ++ s.ahead) e)

now-judged : (clock : Clock) (entries : List Entry) (given : ℕ) (s : JudgeState) (p : Pending) → StandsFor clock entries given s → s.current ≡ Some p → s.time ≡ now_at entries s.place
now-judged clock entries given s p st e = st.now ∙ ap (λ (n : ℕ). latest (take n entries)) (begun-current s p e)

now-rises : (clock : Clock) (entries : List Entry) (given : ℕ) (s : JudgeState) (p : Pending) → StandsFor clock entries given s → s.current ≡ Some p → latest (take s.place entries) ≤ℤ s.time
now-rises clock entries given s p st e = rw (now-judged clock entries given s p st e) (now-grows entries s.place)

-- What is shown begins with what the first `n` steps show.
record Begins (clock : Clock) (entries : List Entry) (n : ℕ) (s : JudgeState) : Type 0 where
  rest : List Given
  out : out clock s entries ≡ map shown_of (steps clock s.plan entries n ++ rest)

pub out-open : (clock : Clock) (entries : List Entry) (s : JudgeState) → s.closed ≡ false → out clock s entries ≡ due clock s.plan entries
out-open clock entries s e = rw e refl

pub out-ended : (clock : Clock) (entries : List Entry) (s : JudgeState) → s.closed ≡ true → out clock s entries ≡ shown clock s.plan entries
out-ended clock entries s e = rw e refl

begins : (clock : Clock) (entries : List Entry) (given : ℕ) (s : JudgeState) (p : Pending) → StandsFor clock entries given s → s.current ≡ Some p → Begins clock entries (suc s.place) s
unfolding given
begins clock entries given s p st e = of s.closed refl
  where
    of : (b : Bool) → s.closed ≡ b → Begins clock entries (suc s.place) s
    of false opened =
        let n : settled s.plan entries ≡ suc s.place = sym (st.settles opened) ∙ begun-current s p e in
        record {
          rest = [];
          out = out-open clock entries s opened ∙ ap (λ (n : ℕ). map shown_of (steps clock s.plan entries n)) n ∙ ap (map shown_of) (sym (append-nil (steps clock s.plan entries (suc s.place))));
        }
    of true ended =
        let all = all-taken clock entries given s st in
        let here = begun-current s p e in
        let first = steps-upto clock s.plan entries (suc s.place) (length entries) (omega arith) in
        record {
          rest = first.0 ++ rest_of clock s.plan entries;
          out = out-ended clock entries s ended ∙ (ap (map shown_of) (ap (λ (l : List Given). l ++ rest_of clock s.plan entries) (sym first.1) ∙ append_assoc (steps clock s.plan entries (suc s.place)) first.0 (rest_of clock s.plan entries)));
        }

steps-next : (clock : Clock) (plan : SchedulePlan) (entries : List Entry) (n : ℕ) (e : Entry) → slice_get entries n ≡ Some e
    → steps clock plan entries (suc n) ≡ steps clock plan entries n ++ (map Presents (by_instant (between (latest (take n entries)) (now_at entries n) (accepted clock plan entries n))) ++ flag_by n (Some e) (judged clock plan entries n (accepted clock plan entries n) e))
unfolding steps
steps-next clock plan entries n e at = ap (λ (l : List Given). steps clock plan entries n ++ l) (step-is clock plan entries n e at)

-- ---- returning a batch that the current entry makes due

pub record Gives (clock : Clock) (entries : List Entry) (given : ℕ) (shown : Shown) (old new : JudgeState) : Type 0 where
  pub next : slice_get (out clock old entries) given ≡ Some shown
  pub stands : StandsFor clock entries (given + 1) new

pub gives-due : (clock : Clock) (entries : List Entry) (given : ℕ) (s : JudgeState) (p : Pending) (first : Accepted) (rest : List Accepted) → StandsFor clock entries given s → s.current ≡ Some p → s.waiting ≡ first ∷ rest → first.instant <ℤ s.time
    → Gives clock entries given (present first) s (record s { waiting = rest })
gives-due clock entries given s p first rest st e waits early =
    let judged' = being-judged clock entries given s p st e in
    let from = latest (take s.place entries) in
    let F = flag_by s.place (Some judged'.entry) (judged clock s.plan entries s.place (earlier_of clock entries s) judged'.entry) in
    let begin = begins clock entries given s p st e in
    let not_over = not_over-current s p e in
    let all_early = st.early not_over in
    let split : by_instant (between from s.time (earlier_of clock entries s)) ≡ st.passed ++ first ∷ due_of s.time rest =
    sym (due-waiting from s.time (earlier_of clock entries s)) ∙ ap (due_of s.time) (sym st.waiting) ∙ due-passed s.time st.passed s.waiting all_early
    ∙ ap (λ (l : List Accepted). st.passed ++ due_of s.time l) waits ∙ (rw (lt_true first.instant s.time early) refl) in
    let step' : steps clock s.plan entries (suc s.place) ≡ steps clock s.plan entries s.place ++ (map Presents (st.passed ++ first ∷ due_of s.time rest) ++ F) =
    steps-next clock s.plan entries s.place judged'.entry judged'.at
    ∙ ap (λ (t : ℤ). steps clock s.plan entries s.place ++ (map Presents (by_instant (between from t (earlier_of clock entries s))) ++ F)) (sym (now-judged clock entries given s p st e))
    ∙ ap (λ (l : List Accepted). steps clock s.plan entries s.place ++ (map Presents l ++ F)) split in
    let l = length-append st.passed (first ∷ []) in
    let count = st.count in
    record {
      next = ap (λ (o : List Shown). slice_get o given) (begin.out ∙ ap (λ (l : List Given). map shown_of (l ++ begin.rest)) step') ∙ get-at (steps clock s.plan entries s.place) st.passed first (due_of s.time rest) F begin.rest given st.count;
      stands = record {
        asks = st.asks;
        within = st.within;
        left = st.left;
        noted = st.noted;
        now = st.now;
        settles = st.settles;
        passed = st.passed ++ first ∷ [];
        waiting = append_assoc st.passed (first ∷ []) rest ∙ ap (λ (l : List Accepted). st.passed ++ l) (sym waits) ∙ st.waiting;
        early = λ h. all-after (λ a. a.instant <ℤ s.time) st.passed (first ∷ []) all_early (early, tt);
        count = omega arith;
      };
    }

-- ---- the current entry is judged

judged-on : (clock : Clock) (entries : List Entry) (given after : ℕ) (s : JudgeState) (p : Pending) (waiting : List Accepted) → StandsFor clock entries given s → s.current ≡ Some p
    → waiting ≡ by_instant (standing s.time (accepted clock s.plan entries (suc s.place))) → after ≡ length (steps clock s.plan entries (suc s.place))
    → StandsFor clock entries after (record s { place = s.place + 1; waiting = waiting; current = None })
judged-on clock entries given after s p waiting st e waits count =
    let next : s.place + 1 ≡ suc s.place = omega arith in
    let same : s.place + 1 + 0 ≡ begun s = let b = begun-current s p e in omega arith in
    let all = all-taken clock entries given s st in
    let here = begun-current s p e in
    let now' : s.time ≡ latest (take (suc s.place) entries) = now-judged clock entries given s p st e in
    record {
      asks = st.asks;
      within = omega arith;
      left = (being-judged clock entries given s p st e).rest;
      noted = st.noted;
      now = st.now ∙ ap (λ (n : ℕ). latest (take n entries)) (sym same);
      settles = λ opened. same ∙ st.settles opened;
      passed = [];
      waiting = rw next (waits ∙ ap (λ (t : ℤ). by_instant (standing t (accepted clock s.plan entries (suc s.place)))) now');
      early = λ h. tt;
      count = rw next (let c = count in omega arith);
    }

known : (clock : Clock) (entries : List Entry) (given : ℕ) (s : JudgeState) (p : Pending) → StandsFor clock entries given s → s.current ≡ Some p → length s.ahead ≤ s.plan.look → prefix_of s.plan entries s.place ≡ entries
known clock entries given s p st e behind =
    let all = all-taken clock entries given s st in
    let here = begun-current s p e in
    take_all (s.place + s.plan.look + 1) entries (omega arith)

judged-item : (clock : Clock) (entries : List Entry) (given : ℕ) (s : JudgeState) (item : Item) → StandsFor clock entries given s → s.current ≡ Some (PendingItem item) → length s.ahead ≤ s.plan.look
    → judged clock s.plan entries s.place (earlier_of clock entries s) (OfItem item) ≡ Some (verdict s.plan s.time (earlier_of clock entries s) s.place (timed clock s.plan entries item))
judged-item clock entries given s item st e behind =
    let n = now-judged clock entries given s (PendingItem item) st e in
    let k = known clock entries given s (PendingItem item) st e behind in
    rw (k, ← n) refl

at-item : (clock : Clock) (entries : List Entry) (given : ℕ) (s : JudgeState) (item : Item) → StandsFor clock entries given s → s.current ≡ Some (PendingItem item) → slice_get entries s.place ≡ Some (OfItem item)
at-item clock entries given s item st e =
    let c = being-judged clock entries given s (PendingItem item) st e in
    c.at ∙ ap Some (is-item c.entry item c.is)

-- if nothing is due, the waiting batches are the accepted items whose instants have not passed
pub waits-judged : (clock : Clock) (entries : List Entry) (given : ℕ) (s : JudgeState) (p : Pending) → StandsFor clock entries given s → s.current ≡ Some p → starts_due s.time s.waiting ≡ false → s.waiting ≡ by_instant (standing s.time (accepted clock s.plan entries s.place))
waits-judged clock entries given s p st e undue = (settled-by clock entries given s st (not_over-current s p e) (now-rises clock entries given s p st e) undue).waiting

pub gives-flag : (clock : Clock) (entries : List Entry) (given : ℕ) (s : JudgeState) (item : Item) (reason : Reason) → StandsFor clock entries given s → s.current ≡ Some (PendingItem item) → length s.ahead ≤ s.plan.look → starts_due s.time s.waiting ≡ false
    → Err reason ≡ verdict s.plan s.time (accepted clock s.plan entries s.place) s.place (timed clock s.plan entries item)
    → Gives clock entries given (shown_of (Flags s.place item reason)) s (record s { place = s.place + 1; current = None })
gives-flag clock entries given s item reason st e behind undue v =
    let P = PendingItem item in
    let acc = earlier_of clock entries s in
    let at = at-item clock entries given s item st e in
    let begin = begins clock entries given s P st e in
    let done = settled-by clock entries given s st (not_over-current s P e) (now-rises clock entries given s P st e) undue in
    let is : judged clock s.plan entries s.place acc (OfItem item) ≡ Some (Err reason) = judged-item clock entries given s item st e behind ∙ ap Some (sym v) in
    let step' : steps clock s.plan entries (suc s.place) ≡ steps clock s.plan entries s.place ++ (map Presents st.passed ++ Flags s.place item reason ∷ []) =
    steps-next clock s.plan entries s.place (OfItem item) at
    ∙ ap (λ (r : Option (Result Accepted Reason)). steps clock s.plan entries s.place ++ (map Presents (by_instant (between (latest (take s.place entries)) (now_at entries s.place) acc)) ++ flag_by s.place (Some (OfItem item)) r)) is
    ∙ ap (λ (t : ℤ). steps clock s.plan entries s.place ++ (map Presents (by_instant (between (latest (take s.place entries)) t acc)) ++ Flags s.place item reason ∷ [])) (sym (now-judged clock entries given s P st e))
    ∙ ap (λ (l : List Accepted). steps clock s.plan entries s.place ++ (map Presents l ++ Flags s.place item reason ∷ [])) (sym done.passed) in
    let same : accepted clock s.plan entries (suc s.place) ≡ acc = accepted-next clock s.plan entries s.place (OfItem item) at ∙ ap (λ (r : Option (Result Accepted Reason)). acc ++ accepted_by r) is ∙ append-nil acc in
    let l : length (steps clock s.plan entries (suc s.place)) ≡ length (steps clock s.plan entries s.place) + (length st.passed + 1) =
    ap (λ (l : List Given). length l) step' ∙ length-append (steps clock s.plan entries s.place) (map Presents st.passed ++ Flags s.place item reason ∷ [])
    ∙ ap (λ (n : ℕ). length (steps clock s.plan entries s.place) + n) (length-append (map Presents st.passed) (Flags s.place item reason ∷ []) ∙ ap (λ (n : ℕ). n + 1) (length-map st.passed Presents)) in
    let count = st.count in
    record {
      next = ap (λ (o : List Shown). slice_get o given) (begin.out ∙ ap (λ (l : List Given). map shown_of (l ++ begin.rest)) step') ∙ get-flag (steps clock s.plan entries s.place) st.passed (Flags s.place item reason) begin.rest given st.count;
      stands = judged-on clock entries given (given + 1) s P s.waiting st e (done.waiting ∙ ap (λ (l : List Accepted). by_instant (standing s.time l)) (sym same)) (omega arith);
    }

none-shown : (clock : Clock) (entries : List Entry) (given : ℕ) (s : JudgeState) (p : Pending) (e : Entry) → StandsFor clock entries given s → s.current ≡ Some p → starts_due s.time s.waiting ≡ false → slice_get entries s.place ≡ Some e
    → flag_by s.place (Some e) (judged clock s.plan entries s.place (earlier_of clock entries s) e) ≡ [] → (given ≡ length (steps clock s.plan entries (suc s.place)))
none-shown clock entries given s p e st is undue at no_flag =
    let acc = earlier_of clock entries s in
    let done = settled-by clock entries given s st (not_over-current s p is) (now-rises clock entries given s p st is) undue in
    let step' : steps clock s.plan entries (suc s.place) ≡ steps clock s.plan entries s.place ++ (map Presents st.passed ++ []) =
    steps-next clock s.plan entries s.place e at
    ∙ ap (λ (l : List Given). steps clock s.plan entries s.place ++ (map Presents (by_instant (between (latest (take s.place entries)) (now_at entries s.place) acc)) ++ l)) no_flag
    ∙ ap (λ (t : ℤ). steps clock s.plan entries s.place ++ (map Presents (by_instant (between (latest (take s.place entries)) t acc)) ++ [])) (sym (now-judged clock entries given s p st is))
    ∙ ap (λ (l : List Accepted). steps clock s.plan entries s.place ++ (map Presents l ++ [])) (sym done.passed) in
    let l : length (steps clock s.plan entries (suc s.place)) ≡ length (steps clock s.plan entries s.place) + (length st.passed + 0) =
    ap (λ (l : List Given). length l) step' ∙ length-append (steps clock s.plan entries s.place) (map Presents st.passed ++ [])
    ∙ ap (λ (n : ℕ). length (steps clock s.plan entries s.place) + n) (length-append (map Presents st.passed) [] ∙ ap (λ (n : ℕ). n + 0) (length-map st.passed Presents)) in
    let count = st.count in
    omega arith

pub accepts : (clock : Clock) (entries : List Entry) (given : ℕ) (s : JudgeState) (item : Item) (a : Accepted) → StandsFor clock entries given s → s.current ≡ Some (PendingItem item) → length s.ahead ≤ s.plan.look → starts_due s.time s.waiting ≡ false
    → Ok a ≡ verdict s.plan s.time (accepted clock s.plan entries s.place) s.place (timed clock s.plan entries item) → s.time ≤ℤ a.instant
    → StandsFor clock entries given (record s { place = s.place + 1; waiting = put_behind s.waiting a; current = None })
accepts clock entries given s item a st e behind undue v stands =
    let P = PendingItem item in
    let acc = earlier_of clock entries s in
    let at = at-item clock entries given s item st e in
    let waits = waits-judged clock entries given s P st e undue in
    let is : judged clock s.plan entries s.place acc (OfItem item) ≡ Some (Ok a) = judged-item clock entries given s item st e behind ∙ ap Some (sym v) in
    let more : accepted clock s.plan entries (suc s.place) ≡ acc ++ a ∷ [] = accepted-next clock s.plan entries s.place (OfItem item) at ∙ ap (λ (r : Option (Result Accepted Reason)). acc ++ accepted_by r) is in
    judged-on clock entries given given s P (put_behind s.waiting a) st e
    (ap (λ (l : List Accepted). put_behind l a) waits ∙ sym (waiting-more s.time acc a (le_true s.time a.instant stands)) ∙ ap (λ (l : List Accepted). by_instant (standing s.time l)) (sym more))
    (none-shown clock entries given s P (OfItem item) st e undue at (ap (λ (r : Option (Result Accepted Reason)). flag_by s.place (Some (OfItem item)) r) is))

pub passes : (clock : Clock) (entries : List Entry) (given : ℕ) (s : JudgeState) (arrival : ℤ) → StandsFor clock entries given s → s.current ≡ Some (PendingClock arrival) → starts_due s.time s.waiting ≡ false
    → StandsFor clock entries given (record s { place = s.place + 1; current = None })
passes clock entries given s arrival st e undue =
    let P = PendingClock arrival in
    let acc = earlier_of clock entries s in
    let c = being-judged clock entries given s P st e in
    of c.entry c.at c.is
  where
    of : (x : Entry) → slice_get entries s.place ≡ Some x → pending_of x ≡ PendingClock arrival → StandsFor clock entries given (record s { place = s.place + 1; current = None })
    of (OfItem item) at is = absurd cc
    of (OfClock at' row) at is =
        let acc = earlier_of clock entries s in
        let same : accepted clock s.plan entries (suc s.place) ≡ acc = accepted-next clock s.plan entries s.place (OfClock at' row) at ∙ append-nil acc in
        judged-on clock entries given given s (PendingClock arrival) s.waiting st e
        (waits-judged clock entries given s (PendingClock arrival) st e undue ∙ ap (λ (l : List Accepted). by_instant (standing s.time l)) (sym same))
        (none-shown clock entries given s (PendingClock arrival) (OfClock at' row) st e undue at refl)

-- ---- the next entry of an ended list is judged

pub advances : (clock : Clock) (entries : List Entry) (given : ℕ) (s : JudgeState) (p : Pending) (rest : List Pending) (now : ℤ) → StandsFor clock entries given s → s.closed ≡ true → s.current ≡ None → s.ahead ≡ p ∷ rest → now ≡ int_max s.time (pending_arrival p)
    → StandsFor clock entries given (record s { time = now; current = Some p; ahead = rest })
advances clock entries given s p rest now st ended idle more is =
    let left' : map pending_of (drop s.place entries) ≡ p ∷ rest = st.left ∙ ap (λ (o : Option Pending). option_to_list o ++ s.ahead) idle ∙ more in
    let c = current-of entries s.place p rest left' in
    let before : s.time ≡ latest (take s.place entries) = st.now ∙ ap (λ (n : ℕ). latest (take n entries)) (begun-none s idle) in
    let next : s.place + 1 ≡ suc s.place = omega arith in
    let arrival : pending_arrival p ≡ arrival_of c.entry = ap pending_arrival (sym c.is) ∙ arrives c.entry in
    let now' : now ≡ now_at entries s.place = is ∙ ap (λ (t : ℤ). int_max t (pending_arrival p)) before ∙ ap (int_max (latest (take s.place entries))) arrival ∙ sym (now-next entries s.place c.entry c.at) in
    let not_over : is_over s ≡ false = rw (ended, idle, more) refl in
    let above : s.time ≤ℤ now = rw is (max_above s.time (pending_arrival p)) in
    record {
      asks = st.asks;
      within = st.within;
      left = left';
      noted = st.noted;
      now = rw next now';
      settles = λ opened. absurd (let h : true ≡ false = sym ended ∙ opened in cc);
      passed = st.passed;
      waiting = st.waiting;
      early = λ h. all-weaker (λ a. a.instant <ℤ s.time) (λ a. a.instant <ℤ now) (λ a g. omega (arith, ints)) st.passed (st.early not_over);
      count = st.count;
    }

-- ---- all entries are judged

ended-whole : (clock : Clock) (entries : List Entry) (given : ℕ) (s : JudgeState) → StandsFor clock entries given s → s.current ≡ None → s.ahead ≡ [] → s.place ≡ length entries
ended-whole clock entries given s st idle none =
    let all = all-taken clock entries given s st in
    let t : taken s ≡ s.place = rw (idle, none) (omega arith) in
    omega arith

rest-is : (clock : Clock) (entries : List Entry) (given : ℕ) (s : JudgeState) → StandsFor clock entries given s → s.closed ≡ true → s.current ≡ None → s.ahead ≡ [] → out clock s entries ≡ map shown_of (steps clock s.plan entries s.place ++ map Presents (before_of clock entries s))
unfolding given
rest-is clock entries given s st ended idle none =
    let n = ended-whole clock entries given s st idle none in
    let all : take (length entries) entries ≡ entries = take-length entries in
    out-ended clock entries s ended ∙ (rw (n, all) refl)

pub gives-last : (clock : Clock) (entries : List Entry) (given : ℕ) (s : JudgeState) (first : Accepted) (rest : List Accepted) → StandsFor clock entries given s → s.closed ≡ true → s.current ≡ None → s.ahead ≡ [] → s.waiting ≡ first ∷ rest
    → Gives clock entries given (present first) s (record s { waiting = rest })
gives-last clock entries given s first rest st ended idle none waits =
    let whole : before_of clock entries s ≡ st.passed ++ first ∷ rest = sym st.waiting ∙ ap (λ (l : List Accepted). st.passed ++ l) waits in
    let l = length-append st.passed (first ∷ []) in
    let count = st.count in
    record {
      next = ap (λ (o : List Shown). slice_get o given) (rest-is clock entries given s st ended idle none ∙ ap (λ (l : List Accepted). map shown_of (steps clock s.plan entries s.place ++ map Presents l)) whole) ∙ get-last (steps clock s.plan entries s.place) st.passed first rest given st.count;
      stands = record {
        asks = st.asks;
        within = st.within;
        left = st.left;
        noted = st.noted;
        now = st.now;
        settles = st.settles;
        passed = st.passed ++ first ∷ [];
        waiting = append_assoc st.passed (first ∷ []) rest ∙ ap (λ (l : List Accepted). st.passed ++ l) (sym waits) ∙ st.waiting;
        early = λ h. absurd (let over : is_over s ≡ true = rw (ended, idle, none) refl in let g : true ≡ false = sym over ∙ h in cc);
        count = omega arith;
      };
    }

pub nothing-last : (clock : Clock) (entries : List Entry) (given : ℕ) (s : JudgeState) → StandsFor clock entries given s → s.closed ≡ true → s.current ≡ None → s.ahead ≡ [] → s.waiting ≡ [] → slice_get (out clock s entries) given ≡ None
nothing-last clock entries given s st ended idle none empty =
    let whole : before_of clock entries s ≡ st.passed = sym st.waiting ∙ ap (λ (l : List Accepted). st.passed ++ l) empty ∙ append-nil st.passed in
    let l = length-append (steps clock s.plan entries s.place) (map Presents st.passed) in
    let m = length-map st.passed Presents in
    let count = st.count in
    ap (λ (o : List Shown). slice_get o given) (rest-is clock entries given s st ended idle none ∙ ap (λ (l : List Accepted). map shown_of (steps clock s.plan entries s.place ++ map Presents l)) whole)
    ∙ get-past (steps clock s.plan entries s.place ++ map Presents st.passed) given (omega arith)

-- ---- nothing is due

first-empty : (xs ys : List Accepted) → xs ++ ys ≡ [] → (xs ≡ []) × (ys ≡ [])
first-empty [] ys e = (refl, e)
first-empty (x ∷ xs) ys e = absurd cc

nothing : by_instant [] ≡ []
unfolding by_instant
nothing = refl

-- the state of a judge if two things hold: the judge has no current entry, and the list has not ended or an entry is
-- still to be judged
pub record Idle (clock : Clock) (entries : List Entry) (given : ℕ) (s : JudgeState) : Type 0 where
  pub count : given ≡ length (steps clock s.plan entries s.place)
  pub waiting : s.waiting ≡ before_of clock entries s

pub idle-so : (clock : Clock) (entries : List Entry) (given : ℕ) (s : JudgeState) → StandsFor clock entries given s → is_over s ≡ false → s.current ≡ None → Idle clock entries given s
idle-so clock entries given s st not_over idle =
    let acc = earlier_of clock entries s in
    let now' : s.time ≡ latest (take s.place entries) = st.now ∙ ap (λ (n : ℕ). latest (take n entries)) (begun-none s idle) in
    let none : due_of s.time (st.passed ++ s.waiting) ≡ [] = ap (due_of s.time) st.waiting ∙ due-waiting (latest (take s.place entries)) s.time acc ∙ ap (λ (t : ℤ). by_instant (between t s.time acc)) (sym now') ∙ ap by_instant (between-none s.time acc) ∙ nothing in
    let both = first-empty st.passed (due_of s.time s.waiting) (sym (due-passed s.time st.passed s.waiting (st.early not_over)) ∙ none) in
    let l : length st.passed ≡ 0 = ap (λ (l : List Accepted). length l) both.0 in
    let count = st.count in
    record {
      count = omega arith;
      waiting = ap (λ (l : List Accepted). l ++ s.waiting) (sym both.0) ∙ st.waiting;
    }

pub nothing-due : (clock : Clock) (entries : List Entry) (given : ℕ) (s : JudgeState) → StandsFor clock entries given s → s.closed ≡ false → s.current ≡ None → slice_get (out clock s entries) given ≡ None
nothing-due clock entries given s st opened idle =
    let n : settled s.plan entries ≡ s.place = sym (st.settles opened) ∙ begun-none s idle in
    let so = idle-so clock entries given s st (not_over-open s opened) idle in
    ap (λ (o : List Shown). slice_get o given) (out-open clock entries s opened ∙ ap (λ (k : ℕ). map shown_of (steps clock s.plan entries k)) n) ∙ (get-past (steps clock s.plan entries s.place) given so.count)

-- ---- an entry is taken

takes-now : (entries : List Entry) (place : ℕ) (now now' : ℤ) (current : Option Pending) (ahead : List Pending) → now ≡ latest (take place entries) → map pending_of (drop place entries) ≡ option_to_list current ++ ahead → now' ≡ now_with now current
    → now' ≡ latest (take (place + length (option_to_list current)) entries)
takes-now entries place now now' None ahead before left is = let e : place + 0 ≡ place = omega arith in rw e (is ∙ before)
takes-now entries place now now' (Some p) ahead before left is =
    let c = current-of entries place p ahead left in
    let next : place + 1 ≡ suc place = omega arith in
    let arrival : pending_arrival p ≡ arrival_of c.entry = ap pending_arrival (sym c.is) ∙ arrives c.entry in
    rw next (is ∙ ap (λ (t : ℤ). int_max t (pending_arrival p)) before ∙ ap (int_max (latest (take place entries))) arrival ∙ sym (now-next entries place c.entry c.at))

now-not-less : (now : ℤ) (current : Option Pending) → now ≤ℤ now_with now current
now-not-less now None = omega (arith, ints)
now-not-less now (Some p) = max_above now (pending_arrival p)

settles-next : (place begun' ahead ahead' look n : ℕ) → place ≡ n - look → place + ahead ≡ n → place ≤ n → begun' + ahead' ≡ n + 1 → (ahead < look → ahead' ≡ ahead + 1) → (look ≤ ahead → ahead' ≡ ahead) → begun' ≡ n + 1 - look
settles-next place begun' ahead ahead' look n a b c d fits full = elim (cases_lt ahead look) [
  | inl h ↦ let f = fits h in omega arith
  | inr h ↦ let f = full h in omega arith
]

pub takes : (clock : Clock) (entries : List Entry) (given : ℕ) (e : Entry) (s : JudgeState) (noted : Noted) (new : JudgeState) → StandsFor clock entries given s → s.closed ≡ false → s.current ≡ None → HasNoted s.plan (entries ++ e ∷ []) noted
    → Puts (pending_of e) (record s { noted = noted }) new → StandsFor clock (entries ++ e ∷ []) given new
takes clock entries given e s noted new st opened idle notes puts =
    let all = all-taken clock entries given s st in
    let es = entries ++ e ∷ [] in
    let within = st.within in
    let more = length-append entries (e ∷ []) in
    let begun' = begun-none s idle in
    let settles = st.settles opened in
    let before : s.time ≡ latest (take s.place es) = st.now ∙ ap (λ (n : ℕ). latest (take n entries)) begun' ∙ ap latest (sym (take-first s.place entries (e ∷ []) within)) in
    let left' : map pending_of (drop s.place es) ≡ option_to_list new.current ++ new.ahead =
    ap (map pending_of) (drop-append-le s.place entries (e ∷ []) within) ∙ map-append pending_of (drop s.place entries) (e ∷ [])
    ∙ ap (λ (l : List Pending). l ++ pending_of e ∷ []) (st.left ∙ ap (λ (o : Option Pending). option_to_list o ++ s.ahead) idle) ∙ sym puts.line in
    let judged' : s.place ≤ settled s.plan entries = omega arith in
    let same : by_instant (standing (latest (take s.place es)) (accepted clock s.plan es s.place)) ≡ before_of clock entries s =
    ap (λ (l : List Entry). by_instant (standing (latest l) (accepted clock s.plan es s.place))) (take-first s.place entries (e ∷ []) within)
    ∙ ap (λ (l : List Accepted). by_instant (standing (latest (take s.place entries)) l)) (accepted-stays clock s.plan entries (e ∷ []) s.place judged') in
    let line : length (option_to_list new.current) + length new.ahead ≡ length s.ahead + 1 =
    sym (length-append (option_to_list new.current) new.ahead) ∙ ap (λ (l : List Pending). length l) puts.line ∙ length-append s.ahead (pending_of e ∷ []) in
    let fits = puts.fits in
    let full = puts.full in
    let early = st.early (not_over-open s opened) in
    subst (λ (t : JudgeState). StandsFor clock es given t) (sym puts.same) (record {
      asks = st.asks;
      within = omega arith;
      left = left';
      noted = notes;
      now = takes-now es s.place s.time (now_with s.time new.current) new.current new.ahead before left' refl;
      settles = λ h. ap (λ (n : ℕ). n) (settles-next s.place (s.place + length (option_to_list new.current)) (length s.ahead) (length new.ahead) s.plan.look (length entries) (omega arith) (omega arith) within (omega arith) fits full) ∙ (ap (λ (n : ℕ). n - s.plan.look) (sym more));
      passed = st.passed;
      waiting = st.waiting ∙ sym same;
      early = λ h. all-weaker (λ a. a.instant <ℤ s.time) (λ a. a.instant <ℤ now_with s.time new.current) (λ a g. let up = now-not-less s.time new.current in omega (arith, ints)) st.passed early;
      count = st.count ∙ ap (λ (l : List Given). length l + length st.passed) (sym (steps-stay clock s.plan entries (e ∷ []) s.place judged'));
    })

-- ---- a new judge, and the end of the list

pub stands-first : (clock : Clock) (plan : SchedulePlan) (noted : Noted) → IsClockOf plan clock → HasNoted plan [] noted → StandsFor clock [] 0 (record { plan = plan; place = 0; time = pos 0; noted = noted; waiting = []; current = None; ahead = []; closed = false })
unfolding latest by_instant accepted steps
stands-first clock plan noted asks notes = record {
  asks = asks;
  within = omega arith;
  left = refl;
  noted = notes;
  now = refl;
  settles = λ h. omega arith;
  passed = [];
  waiting = refl;
  early = λ h. tt;
  count = refl;
}

pub closes : (clock : Clock) (entries : List Entry) (given : ℕ) (s : JudgeState) → StandsFor clock entries given s → s.closed ≡ false → StandsFor clock entries given (record s { closed = true })
closes clock entries given s st opened = record {
  asks = st.asks;
  within = st.within;
  left = st.left;
  noted = st.noted;
  now = st.now;
  settles = λ h. absurd cc;
  passed = st.passed;
  waiting = st.waiting;
  early = λ h. st.early (not_over-open s opened);
  count = st.count;
}

pub stands-begin : (clock : Clock) (plan : SchedulePlan) (noted : Noted) (waiting : List Accepted) (ahead : List Pending) → IsClockOf plan clock → HasNoted plan [] noted → waiting ≡ [] → ahead ≡ [] → StandsFor clock [] 0 (record { plan = plan; place = 0; time = pos 0; noted = noted; waiting = waiting; current = None; ahead = ahead; closed = false })
stands-begin clock plan noted waiting ahead asks notes e f = rw (e, f) (stands-first clock plan noted asks notes)

-- ---- the same facts, stated for the values that the code computes

pub accepted-as : (clock : Clock) (entries : List Entry) (given : ℕ) (s : JudgeState) (item : Item) (a : Accepted) (waiting : List Accepted) (after : Option Pending) → StandsFor clock entries given s → s.current ≡ Some (PendingItem item) → length s.ahead ≤ s.plan.look → starts_due s.time s.waiting ≡ false
    → Ok a ≡ verdict s.plan s.time (accepted clock s.plan entries s.place) s.place (timed clock s.plan entries item) → s.time ≤ℤ a.instant → waiting ≡ put_behind s.waiting a → after ≡ None
    → StandsFor clock entries (given + 0) (record s { place = s.place + 1; waiting = waiting; current = after })
accepted-as clock entries given s item a waiting after st e behind undue v stands list none =
    let n : given + 0 ≡ given = omega arith in
    rw (n, list, none) (accepts clock entries given s item a st e behind undue v stands)

pub passed-as : (clock : Clock) (entries : List Entry) (given : ℕ) (s : JudgeState) (arrival : ℤ) (after : Option Pending) → StandsFor clock entries given s → s.current ≡ Some (PendingClock arrival) → starts_due s.time s.waiting ≡ false → after ≡ None
    → StandsFor clock entries (given + 0) (record s { place = s.place + 1; current = after })
passed-as clock entries given s arrival after st e undue none =
    let n : given + 0 ≡ given = omega arith in
    rw (n, none) (passes clock entries given s arrival st e undue)

pub flagged-as : (clock : Clock) (entries : List Entry) (given : ℕ) (s : JudgeState) (item : Item) (reason : Reason) (after : Option Pending) → StandsFor clock entries given s → s.current ≡ Some (PendingItem item) → length s.ahead ≤ s.plan.look → starts_due s.time s.waiting ≡ false
    → Err reason ≡ verdict s.plan s.time (accepted clock s.plan entries s.place) s.place (timed clock s.plan entries item) → after ≡ None
    → Gives clock entries given (shown_of (Flags s.place item reason)) s (record s { place = s.place + 1; current = after })
flagged-as clock entries given s item reason after st e behind undue v none = rw none (gives-flag clock entries given s item reason st e behind undue v)

pub less-accepted : (inside s : JudgeState) (p : Pending) (a : Accepted) (waiting : List Accepted) (after : Option Pending) → inside ≡ s → inside.current ≡ Some p → waiting ≡ put_behind inside.waiting a → after ≡ None → work (record inside { place = inside.place + 1; waiting = waiting; current = after }) + 0 ≤ work s
less-accepted inside s p a waiting after e judged list none =
    let l : length waiting ≡ suc (length inside.waiting) = ap (λ (xs : List Accepted). length xs) list ∙ length-put_behind inside.waiting a in
    let one : length (option_to_list inside.current) ≡ 1 = rw judged refl in
    let zero' : length (option_to_list after) ≡ 0 = rw none refl in
    subst (λ (x : JudgeState). work (record inside { place = inside.place + 1; waiting = waiting; current = after }) + 0 ≤ work x) e (omega arith)

pub out-of : (clock : Clock) (entries : List Entry) (given : ℕ) (inside s : JudgeState) (shown : Shown) → inside ≡ s → slice_get (out clock inside entries) given ≡ Some shown → slice_get (out clock s entries) given ≡ Some shown
out-of clock entries given inside s shown e h = subst (λ (x : JudgeState). slice_get (out clock x entries) given ≡ Some shown) e h

pub out-keeps : (clock : Clock) (entries : List Entry) (old new : JudgeState) → Keeps old new → out clock new entries ≡ out clock old entries
out-keeps clock entries old new k = rw (k.plan, k.closed) refl

pub some-current : (inside s : JudgeState) → inside ≡ s → true ≡ is_some inside.current → s.current ≢ None
some-current inside s e is none = let f : is_some inside.current ≡ false = rw (ap (λ (x : JudgeState). x.current) e, none) refl in let g : true ≡ false = is ∙ f in cc

pub due-given : (clock : Clock) (entries : List Entry) (given : ℕ) (s new : JudgeState) (first : Accepted) → StandsFor clock entries given s → s.current ≢ None → s.waiting ≡ first ∷ new.waiting → first.instant <ℤ s.time → new ≡ record s { waiting = new.waiting } → Gives clock entries given (present first) s new
due-given clock entries given s new first st some waits early same = of s.current refl
  where
    of : (o : Option Pending) → s.current ≡ o → Gives clock entries given (present first) s new
    of None e = absurd (some e)
    of (Some p) e = subst (Gives clock entries given (present first) s) (sym same) (gives-due clock entries given s p first new.waiting st e waits early)

pub last-given : (clock : Clock) (entries : List Entry) (given : ℕ) (s new : JudgeState) (first : Accepted) → StandsFor clock entries given s → s.closed ≡ true → s.current ≡ None → s.ahead ≡ [] → s.waiting ≡ first ∷ new.waiting → new ≡ record s { waiting = new.waiting } → Gives clock entries given (present first) s new
last-given clock entries given s new first st ended idle none waits same = subst (Gives clock entries given (present first) s) (sym same) (gives-last clock entries given s first new.waiting st ended idle none waits)

pub held-so : (clock : Clock) (entries : List Entry) (given : ℕ) (s : JudgeState) → StandsFor clock entries given s → s.closed ≡ false → s.current ≡ None → s.waiting ≡ waiting clock s.plan entries
held-so clock entries given s st opened idle =
    let n : s.place ≡ settled s.plan entries = sym (begun-none s idle) ∙ st.settles opened in
    (idle-so clock entries given s st (not_over-open s opened) idle).waiting ∙ ap (λ (k : ℕ). by_instant (standing (latest (take k entries)) (accepted clock s.plan entries k))) n

pub keeps-all : (a b c : JudgeState) → Keeps a b → Keeps b c → Keeps a c
keeps-all a b c p q = record { plan = q.plan ∙ p.plan; taken = q.taken ∙ p.taken; closed = q.closed ∙ p.closed }

pub none-more : (clock : Clock) (entries : List Entry) (given : ℕ) (s : JudgeState) → StandsFor clock entries (given + 0) s → StandsFor clock entries given s
none-more clock entries given s st = let e : given + 0 ≡ given = omega arith in rw e at st
