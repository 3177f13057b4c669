-- Which copies of a talker's packets must be presented without a clock, wherever they are in a capture.
use Rattle.std.proofs.Common.{◌≡◌, ◌≢◌, ℕ, zero, suc, ◌+◌, ◌-◌, ◌<◌, ◌≤◌, Bool, false, pos, List, [], ◌∷◌, ◌++◌, All, length, map, take, Some, None, is_some, refl, sym, ap, ◌∙◌, subst, inl, inr, arith}
use Rattle.std.specs.Prelude.{IsSome, nat_le, slice_get}
use Rattle.std.specs.List.{AllByRecursion}
use Rattle.std.proofs.Math.Seq.{take-append_seam}
use Rattle.std.proofs.lemmas.Bool.{le-leb}
use Rattle.std.proofs.lemmas.Int.{ints}
use Rattle.std.proofs.lemmas.List.Elements.{All-head, All-tail}
use Rattle.stream_journal.specs.Delivered.{Copy}
use Rattle.stream_journal.specs.Journal.{IsAt, Journal, head_of}
use Rattle.stream_journal.specs.Known.{IsCounted, IsTimed}
use Rattle.stream_journal.proofs.TrueHeads.{head_back}
use Rattle.packet_journal.specs.Deliveries.{Delivery}
use Rattle.packet_journal.specs.Delivered.{Origin, OfStream, stream_numbers}
use Rattle.listener.specs.declared.plan.ListenPlan.{ListenPlan}
use Rattle.listener.specs.Laws.{HearsTalker, by_clock}
use Rattle.listener.proofs.TrueList.{audio}
use Rattle.listener.proofs.TrueOnce.{nominal_due}
use Rattle.listener_laws.specs.Anywhere.{ComesInTime as CopyComesInTime, MustBePresented as CopyMustBePresented}
use Rattle.listener_laws.proofs.Carried.{AreRead}
use Rattle.talk_plan.specs.declared.plan.TalkPlan.{TalkPlan}
use Rattle.talker.specs.Frames.{SentFrame, frame_of, frames, frames_at, record_of}
use Rattle.talker.specs.Journal.{Stream, journal, stream_of}
use Rattle.talker.proofs.StreamLemmas.{at_number, packets_in}
use Rattle.talker.proofs.TalkLemmas.{audio_plan, frames_alone, plan_keeps}
use Rattle.talk_plan.specs.Plan.{Expects, IsPlan, most_input}
use Rattle.talked_headline.specs.Premises.{ListensTo, ListensToVideo, captured}
use Rattle.talked_headline.proofs.Talked.{first_kept, kind_heard, video_expects, video_plan}
use Rattle.talked_presented.specs.Anywhere.{ComesInTime, MustBePresented, sent_copy}
use Rattle.talked_presented.proofs.Caught.{IsCaught, came_by, is_caught, not_before, stream_heard}
use Rattle.talked_presented.proofs.Known.{one_arrival}
use Rattle.talked_presented.proofs.Merged.{IsSent, frame_by, sent_by}
use Rattle.talked_presented.proofs.Sent.{due_head, not_both, packet_size, stamped_head}

-- ---- the captured packets

in_place : (front : List ℕ) (n : ℕ) (rest : List ℕ) → slice_get (map OfStream (front ++ n ∷ rest)) (length front) ≡ Some (OfStream n)
in_place [] n rest = refl
in_place (x ∷ front) n rest = in_place front n rest

numbers_taken : (m : ℕ) (ks : List ℕ) → stream_numbers (take m (map OfStream ks)) ≡ take m ks
numbers_taken zero ks = refl
numbers_taken (suc m) [] = refl
numbers_taken (suc m) (k ∷ ks) = ap (λ (l : List ℕ). k ∷ l) (numbers_taken m ks)

pub kept_frames : (plan : TalkPlan) (input ks : List ℕ) → ((k : ℕ) → k < (journal plan input).times.packets → slice_get (frames plan input) k ≡ Some (frame_of (stream_of plan input) k)) → All (λ (k : ℕ). k < (journal plan input).times.packets) ks
    → frames_at plan input ks ≡ map (frame_by (stream_of plan input)) (map OfStream ks)
kept_frames plan input [] each all = refl
kept_frames plan input (k ∷ ks) each all =
    first_kept plan input ks k (frame_of (stream_of plan input) k) (each k (All-head (λ (m : ℕ). m < (journal plan input).times.packets) k ks all))
    ∙ ap (λ (l : List SentFrame). frame_of (stream_of plan input) k ∷ l) (kept_frames plan input ks each (All-tail (λ (m : ℕ). m < (journal plan input).times.packets) k ks all))

all_sent : (s : Stream) (ks : List ℕ) → All (λ (k : ℕ). k < packets_in s) ks → AllByRecursion (IsSent s) (map OfStream ks)
all_sent s [] all = tt
all_sent s (k ∷ ks) all = (All-head (λ (m : ℕ). m < packets_in s) k ks all, all_sent s ks (All-tail (λ (m : ℕ). m < packets_in s) k ks all))

caught_of : (plan : TalkPlan) (input ks : List ℕ) (listen : ListenPlan) → IsPlan plan → length input ≤ most_input → Expects plan listen.lead → plan.crf ≡ None → All (λ (k : ℕ). k < (journal plan input).times.packets) ks → HearsTalker (pos 0) (journal plan input) listen (captured plan input ks)
    → captured plan input ks ≡ map record_of (frames_at plan input ks) → AreRead (journal plan input) listen.lead → IsCaught plan input listen (captured plan input ks) (map OfStream ks)
caught_of plan input ks listen plan_is limit expects none known heard read are =
    let s = stream_of plan input in
    let at : (k : ℕ) → k < packets_in s → slice_get (frames plan input) k ≡ Some (frame_of s k) =
    λ k lt. ap (λ (fs : List SentFrame). slice_get fs k) (frames_alone plan input plan_is none limit) ∙ at_number s k lt in
    is_caught plan input listen (captured plan input ks) (map OfStream ks) heard (plan_keeps plan input plan_is limit) expects are
    (all_sent s ks known) (stream_heard (journal plan input) listen.clock ks) (read ∙ ap (map record_of) (kept_frames plan input ks at known))

pub caught : (plan : TalkPlan) (input ks : List ℕ) (listen : ListenPlan) → ListensTo plan input listen → plan.crf ≡ None → All (λ (k : ℕ). k < (journal plan input).times.packets) ks → HearsTalker (pos 0) (journal plan input) listen (captured plan input ks)
    → captured plan input ks ≡ map record_of (frames_at plan input ks) → AreRead (journal plan input) listen.lead → IsCaught plan input listen (captured plan input ks) (map OfStream ks)
caught plan input ks listen l none = caught_of plan input ks listen (audio_plan plan l.talked) l.limit l.lead none

pub caught_video : (plan : TalkPlan) (input ks : List ℕ) (listen : ListenPlan) → ListensToVideo plan input ks listen → All (λ (k : ℕ). k < (journal plan input).times.packets) ks → HearsTalker (pos 0) (journal plan input) listen (captured plan input ks)
    → captured plan input ks ≡ map record_of (frames_at plan input ks) → AreRead (journal plan input) listen.lead → IsCaught plan input listen (captured plan input ks) (map OfStream ks)
caught_video plan input ks listen l = caught_of plan input ks listen (video_plan plan l.last_stamp l.kind l.talked) l.limit (video_expects plan l.last_stamp listen.lead l.kind) l.talked.crf

-- ---- the copy arrives in time

counted_head : (j : Journal) (lead room : ℕ) (c : Copy) (came : List ℕ) → IsCounted j lead room c came → IsSome (head_of j c.number)
counted_head j lead room c came k =
    let hand = k.at_hand in
    let head = head_back j c.number k.far k.stamp k.none k.back (record { back = hand.back; is = hand.is; one_run = hand.no_restart (c.number - k.far.packets) (omega arith) (omega arith) }) in
    rw head refl

timed_head : (j : Journal) (lead room : ℕ) (c : Copy) (came : List ℕ) → IsTimed j lead room c came → IsSome (head_of j c.number)
timed_head j lead room c came (inl own) = stamped_head j c.number own
timed_head j lead room c came (inr k) = counted_head j lead room c came k

all_early : (plan : TalkPlan) (input before after : List ℕ) (n due j : ℕ) (o : Origin) → All (λ (m : ℕ). (stream_of plan input).arrival m ≤ due) before → (stream_of plan input).arrival n ≤ due → j ≤ length before → slice_get (map OfStream (before ++ n ∷ after)) j ≡ Some o → sent_by (stream_of plan input) o ≤ due
all_early plan input [] after n due zero o all own le at = let same : OfStream n ≡ o = cc in subst (λ (x : Origin). sent_by (stream_of plan input) x ≤ due) same own
all_early plan input [] after n due (suc j) o all own le at = absurd (omega arith)
all_early plan input (x ∷ before) after n due zero o all own le at =
    let same : OfStream x ≡ o = cc in
    subst (λ (y : Origin). sent_by (stream_of plan input) y ≤ due) same (All-head (λ (m : ℕ). (stream_of plan input).arrival m ≤ due) x before all)
all_early plan input (x ∷ before) after n due (suc j) o all own le at = all_early plan input before after n due j o (All-tail (λ (m : ℕ). (stream_of plan input).arrival m ≤ due) x before all) own (omega arith) at

-- `d` is the delivery of packet n after the packets `before`, and `d` arrives in time
pub record IsCopyAfter (plan : TalkPlan) (input : List ℕ) (listen : ListenPlan) (before : List ℕ) (n : ℕ) (after : List ℕ) : Type 0 where
  pub d : Delivery
  pub comes : CopyComesInTime (journal plan input) listen (captured plan input (before ++ n ∷ after)) (length before) n d

pub comes_here : (plan : TalkPlan) (input before after : List ℕ) (n : ℕ) (listen : ListenPlan) → ComesInTime plan input listen before n after → IsCaught plan input listen (captured plan input (before ++ n ∷ after)) (map OfStream (before ++ n ∷ after)) → IsCopyAfter plan input listen before n after
comes_here plan input before after n listen h w =
    let p = journal plan input in
    let kind = kind_heard plan input h.talk.talked in
    let ks = before ++ n ∷ after in
    let i : ℕ = length before in
    let here = w.each i (OfStream n) (in_place before n after) in
    let known = here.copy.delivered.known in
    let own = w.stream.early n (rw h.alone tt) known in
    let by_is : by_clock listen ≡ false = rw h.without refl in
    let same : (stream_of plan input).arrival n ≡ here.copy.arrival = one_arrival here.copy.arrival ((stream_of plan input).arrival n) here.d.arrival here.copy.arrived here.arrived in
    let came : stream_numbers (take (i + listen.look + 1) (map OfStream ks)) ≡ take (i + listen.look + 1) ks = numbers_taken (i + listen.look + 1) ks in
    let head = timed_head p.times listen.lead (listen.look + 16) (sent_copy plan input n) (take (i + listen.look + 1) ks) h.timed in
    record {
      d = here.d;
      comes = record {
        there = here.there;
        copy = here.copy;
        known = record {
          origins = map OfStream ks;
          from = w.from;
          is = record {
            timed = subst (λ (a : ℕ). IsTimed p.times listen.lead (listen.look + 16) (record { number = n; arrival = a }) (stream_numbers (take (i + listen.look + 1) (map OfStream ks)))) same
                (subst (λ (l : List ℕ). IsTimed p.times listen.lead (listen.look + 16) (sent_copy plan input n) l) (sym came) h.timed);
            covered = λ on head e. absurd (not_both (is_some listen.clock) by_is on);
          };
        };
        instant = p.times.due n;
        at = subst (λ (by : Bool). IsAt by p.times n 0 (pos (p.times.due n))) (sym by_is) (due_head p.times n (head_of p.times n) kind (audio p kind w.heard.conforming.times) known refl head);
        in_time = λ k e le there. came_by plan input listen (captured plan input ks) (map OfStream ks) k (p.times.due n) e w there (λ o at. all_early plan input before after n (p.times.due n) k o h.in_time own le at);
      };
    }

-- ---- the copy must be presented

pub must_be : (plan : TalkPlan) (input before after : List ℕ) (n : ℕ) (listen : ListenPlan) → MustBePresented plan input listen before n after → IsCaught plan input listen (captured plan input (before ++ n ∷ after)) (map OfStream (before ++ n ∷ after))
    → (d : Delivery) × CopyMustBePresented (journal plan input) listen (captured plan input (before ++ n ∷ after)) (length before) n d
unfolding comes_here
must_be plan input before after n listen h w =
    let p = journal plan input in
    let kind = kind_heard plan input h.comes.talk.talked in
    let ks = before ++ n ∷ after in
    let i : ℕ = length before in
    let by_is : by_clock listen ≡ false = rw h.comes.without refl in
    let here = comes_here plan input before after n listen h.comes w in
    let front : stream_numbers (take i (map OfStream ks)) ≡ before = numbers_taken i ks ∙ take-append_seam before (n ∷ after) in
    let least = not_before plan input listen (captured plan input ks) (map OfStream ks) i (OfStream n) w kind (in_place before n after) in
    let sound = audio p kind w.heard.conforming.times in (
      here.d,
      record {
        comes = here.comes;
        first = subst (λ (l : List ℕ). All (λ (k : ℕ). k ≢ n) l) (sym front) h.first;
        waits = λ k. nat_le ((stream_of plan input).arrival n) (p.times.due k);
        finds = λ k x lt at late.
            let same = nominal_due p.times k x kind sound lt (subst (λ (by : Bool). IsAt by p.times k 0 x) by_is at) in
            le-leb ((stream_of plan input).arrival n) (p.times.due k) (omega (arith, ints, least, late, same));
        some = rw front h.some;
        most = 1500;
        size = λ m lt. packet_size plan input m w.stream lt;
        bytes = rw front h.bytes;
      },
    )
