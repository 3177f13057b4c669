-- What is counted while deliveries are heard, round by round.
use Rattle.std.proofs.Common.{◌≡◌, ℕ, ℤ, ◌+◌, ◌-◌, ◌^◌, ◌<◌, ◌≤◌, List, [], ◌++◌, length, map, Option, Some, None, refl, sym, ap, ◌∙◌, arith, append-nil, take_all}
use Rattle.pcap_frames.specs.Capture.{Record}
use Rattle.sample_schedule.specs.declared.shown.Shown.{Shown}
use Rattle.listener.specs.declared.plan.ListenPlan.{ListenPlan}
use Rattle.listener.specs.Heard.{shown_of}
use Rattle.listener.specs.Listening.{is_closed, out}
use Rattle.listener.proofs.Few.{few}
use Rattle.listener.proofs.Listened.{out_ended}
use Rattle.presenter_ring.specs.declared.pipe.Pipe.{Pipe}
use Rattle.presenter_ring.specs.declared.receiver.Pull.{Pull}
use Rattle.presenter_ring.specs.declared.receiver.Pull.TheVariants as pull
use Rattle.presenter_ring.specs.Pipes.{ended_with, given_to, waiting_in, EndsWith, HasMoved, IsDrained}
use Rattle.presenter_ring.proofs.PipeLemmas.{runs_on}
use Rattle.talker.specs.Journal.{stream_of}
use Rattle.talker.specs.Talking.{Talking}
use Rattle.soak_run.specs.declared.counts.SoakCounts.{SoakCounts}
use Rattle.soak_run.specs.declared.hearing.Hearing.{Hearing}
use Rattle.soak_run.specs.declared.hearing.Stage.{Stage}
use Rattle.soak_run.specs.declared.hearing.Stage.TheVariants.{Giving, Showing, Ended, NoMemory}
use Rattle.soak_run.specs.Captured.{captured, soak_listener}
use Rattle.soak_run.specs.state.Counting.{with_all}
use Rattle.soak_run.specs.state.Hearing.{closed_at, left_of, pull_at, records_of}
use Rattle.soak_run.specs.Outcomes.{outcomes}
use Rattle.soak_run.specs.state.Showing.{HasShown}
use Rattle.soak_run.proofs.CountLemmas.{counts_all}
use Rattle.soak_run.proofs.HearingLemmas.{records_few}

-- ---- the two sides of the pipe

abbrev pub left : Hearing → ℕ
left hearing = left_of hearing.deliveries.now hearing.listener

abbrev pub ended : Hearing → Option Pull
ended hearing = pull_at hearing.stage

abbrev pub handed : SoakCounts → SoakCounts → List Shown → Type 0
handed begun now items = now ≡ with_all begun items

-- All items that were shown so far were counted, except for the items that wait in the pipe. `delivered` is the number
-- of deliveries.
pub record HasCounted (delivered : ℕ) (begun now : Hearing) (pipe : Pipe) (counts : SoakCounts) : Type 0 where
  pub items : List Shown
  pub shown : HasShown begun now items
  pub counted : List Shown
  pub counts_are : counts ≡ with_all (outcomes delivered []) counted
  pub in_order : counted ++ waiting_in pipe ≡ items
  pub ends : ended_with pipe ≡ ended now
  pub room : given_to pipe + left now ≤ 2 ^ 62

pub counted_none : (d : ℕ) (begun : Hearing) (pipe : Pipe) (counts : SoakCounts) → begun.stage ≡ Giving → HasShown begun begun [] → waiting_in pipe ≡ [] → ended_with pipe ≡ None → given_to pipe ≡ 0 → counts ≡ outcomes d []
    → HasCounted d begun begun pipe counts
counted_none d begun pipe counts giving shown empty live none is = record {
  items = [];
  shown = shown;
  counted = [];
  counts_are = is;
  in_order = empty;
  ends = live ∙ sym (ap pull_at giving);
  room = let few = begun.few in omega (arith, none, few);
}

ends_on : (h h' : Hearing) (a b : Pipe) → ended_with a ≡ ended h → EndsWith ended h h' a b → ended_with b ≡ ended h'
ends_on h h' a b is with =
    elim (ended_with a) as (λ (e : Option Pull). ended_with a ≡ e → ended_with b ≡ ended h') [
      | None ↦ λ none. with.ends none
      | Some pull ↦ λ some. let kept = with.stays (rw some refl) in kept.0 ∙ is ∙ ap ended (sym kept.1)
    ] refl

pub counted_round : (d : ℕ) (begun now next : Hearing) (a b : Pipe) (counts counts' : SoakCounts) → HasCounted d begun now a counts → HasMoved HasShown left handed now next counts counts' a b → EndsWith ended now next a b
    → HasCounted d begun next b counts'
counted_round d begun now next a b counts counts' was moved ends = record {
  items = was.items ++ moved.given;
  shown = moved.gives begun was.items was.shown;
  counted = was.counted ++ moved.presented;
  counts_are = moved.hands (outcomes d []) was.counted was.counts_are;
  in_order = runs_on HasShown left handed now next counts counts' a b was.counted was.items moved was.in_order;
  ends = ends_on now next a b was.ends ends;
  room = omega (arith, was.room, moved.counted, moved.leaves);
}

-- ---- the end

ended_whole : (stage : Stage) → pull_at stage ≡ Some pull.Done → stage ≡ Ended
ended_whole Giving is = absurd cc
ended_whole Showing is = absurd cc
ended_whole Ended is = refl
ended_whole NoMemory is = absurd (let e : pull.Memory ≡ pull.Done = cc in cc)

all_records : (talker talker' : Talking) (ds ds' : List (ℤ × ℕ)) (given : ℕ) → talker' ≡ talker → ds' ≡ ds → length ds' ≤ given → records_of talker' ds' given ≡ map (captured (stream_of talker.plan talker.input)) ds
all_records talker talker' ds ds' given same all within =
    ap (λ (l : List (ℤ × ℕ)). map (captured (stream_of talker'.plan talker'.input)) l) (take_all given ds' within ∙ all)
    ∙ ap (λ (t : Talking). map (captured (stream_of t.plan t.input)) ds) same

-- if the pipe is drained and the hearing is done, all that is shown of the deliveries was counted
pub counted_whole : (d : ℕ) (talker : Talking) (ds : List (ℤ × ℕ)) (begun now : Hearing) (pipe : Pipe) (counts : SoakCounts) → HasCounted d begun now pipe counts → IsDrained pipe → ended_with pipe ≡ Some pull.Done
    → begun.talker ≡ talker → begun.deliveries.now ≡ ds → begun.listener.plan ≡ soak_listener → counts ≡ outcomes d (shown_of soak_listener (map (captured (stream_of talker.plan talker.input)) ds))
counted_whole d talker ds begun now pipe counts has drained done same all plan =
    let shown = has.shown in
    let records = records_of now.talker now.deliveries.now now.given in
    let whole : now.stage ≡ Ended = ended_whole now.stage (sym has.ends ∙ done) in
    let over = ap closed_at whole in
    let items = shown.whole whole in
    let order : has.counted ≡ has.items = sym (append-nil has.counted) ∙ ap (λ (l : List Shown). has.counted ++ l) (sym drained.empty) ∙ has.in_order in
    let most : length (out now.listener records) ≤ length records = few (is_closed now.listener) _ _ now.listener.plan records in
    let some = records_few now.talker now.deliveries.now now.given in
    let bound = now.few in
    let long : length has.items < 2 ^ 64 - 1 = omega (arith, ap length items, most, some, bound) in
    has.counts_are
    ∙ ap (with_all (outcomes d [])) order
    ∙ counts_all d has.items long
    ∙ ap (outcomes d) (items ∙ out_ended now.listener records (now.closed ∙ over) ∙ ap (λ (p : ListenPlan). shown_of p records) (shown.plan ∙ plan))
    ∙ ap (λ (l : List Record). outcomes d (shown_of soak_listener l)) (all_records talker now.talker ds now.deliveries.now now.given (shown.talker ∙ same) (shown.deliveries ∙ all) (shown.given_all over))
