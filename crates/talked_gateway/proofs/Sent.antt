-- The batches that a listener without a clock presents from the packets of an audio plan. Each batch is one packet.
use Rattle.std.proofs.Common.{◌≡◌, ℕ, ◌+◌, ◌-◌, ◌*◌, ◌<◌, ◌≤◌, true, false, ℤ, pos, ◌+ℤ◌, ◌≤ℤ◌, List, length, Some, refl, sym, ap, subst, ◌∙◌, arith}
use Rattle.std.proofs.lemmas.Int.{ints}
use Rattle.stream_journal.specs.Conforming.{Conforms}
use Rattle.stream_journal.specs.Delivered.{IsAudioKind}
use Rattle.stream_journal.specs.Journal.{IsAtBy, IsAtNominal, Journal, Kind, DenseAaf, SparseAaf, Am824, H264, nominal_instant}
use Rattle.time_unfold.specs.declared.head_rule.Head.{Head}
use Rattle.packet_journal.specs.Packets.{IsConforming, PacketJournal}
use Rattle.sample_schedule.specs.Batches.{Presented, sample_instant}
use Rattle.listener.specs.Laws.{IsOfPacket, sample_count}
use Rattle.listener.proofs.TrueList.{audio}
use Rattle.talk_plan.specs.declared.plan.TalkKind.{TalkKind}
use Rattle.talk_plan.specs.declared.plan.TalkKind.TheVariants.{Aaf, Am824 as TalkAm824, H264 as TalkH264}
use Rattle.talk_plan.specs.declared.plan.TalkPlan.{TalkPlan}
use Rattle.talk_plan.specs.Plan.{IsAudioKind as IsAudioTalk, IsAudioPlan, most_input}
use Rattle.talk_plan.specs.Timing.{first_instant, nominal_offset}
use Rattle.talk_plan.proofs.BeatLemmas.{more_offset}
use Rattle.talk_plan.proofs.RateLemmas.{rate_from, rate_range}
use Rattle.talk_plan.proofs.StampLemmas.{most_early, most_late}
use Rattle.talk_audio.specs.Audio.{audio_by}
use Rattle.talk_audio.specs.Streams.{audio_of, packets_of}
use Rattle.talk_audio.proofs.DueLemmas.{due_near}
use Rattle.talk_audio.proofs.FormatLemmas.{format_of, has_format}
use Rattle.talker.specs.Journal.{Stream, journal, stream_by}
use Rattle.talker.proofs.AudioLemmas.{timely}
use Rattle.talker.proofs.TalkLemmas.{stream_is}
use Rattle.talked_gateway.proofs.Instants.{ends_early, far_after, first_apart, soon_after}

-- ---- the journal of a plan

-- the journal is of audio, and has the plan's rate and count
record HasTimes (plan : TalkPlan) (j : Journal) : Type 0 where
  audio : IsAudioKind j.kind
  rate : j.rate ≡ plan.rate
  count : j.count ≡ plan.count

times_by : (kind : TalkKind) (plan : TalkPlan) (input : List ℕ) → IsAudioTalk kind → HasTimes plan (stream_by (audio_by kind plan) plan input).journal.times
times_by (Aaf format false) plan input kind = record { audio = tt; rate = refl; count = refl }
times_by (Aaf format true) plan input kind = record { audio = tt; rate = refl; count = refl }
times_by TalkAm824 plan input kind = record { audio = tt; rate = refl; count = refl }
times_by (TalkH264 last_stamp) plan input kind = absurd kind

-- In the journal, packet n begins at most 3 ns before and at most 1 ns after its instant in the plan. If the journal
-- has packet n, at most 268,435,456 events come before it.
record IsDue (plan : TalkPlan) (j : Journal) (n : ℕ) : Type 0 where
  from : first_instant plan n ≤ j.due n + 3
  to : j.due n ≤ first_instant plan n + 1
  events : n < j.packets → n * plan.count ≤ 268435456

is_due : (plan : TalkPlan) (input : List ℕ) (n : ℕ) → IsAudioPlan plan → length input ≤ most_input → IsDue plan (journal plan input).times n
is_due plan input n p limit =
    let has = has_format plan p in
    let s = has.stream in
    let is = format_of s has.audio in
    let near = due_near (audio_of s).kind s.plan (packets_of s input) n has.audio.plan is.kind in
    let here : IsDue s.plan (journal s.plan input).times n = subst (λ (stream : Stream). IsDue s.plan stream.journal.times n) (sym (stream_is s input has.audio)) (record {
      from = omega (arith, near.to, most_early s.plan.crf);
      to = omega (arith, near.from, most_late s.plan.crf);
      events = λ known. timely s.plan (audio_of s) _ input n has.audio.plan is limit known;
    }) in
    subst (λ (q : TalkPlan). IsDue q (journal q input).times n) has.plan_is here

-- ---- a batch

-- The batch is packet n of the plan. The batch begins at most 3 ns before the packet's instant in the plan, and ends at
-- most 2 ns after the packet's last instant in the plan. The batch's samples are at least 500 ns apart. In the plan,
-- the packet ends at 4,100,000,000 seconds or earlier.
pub record IsSent (plan : TalkPlan) (n : ℕ) (batch : Presented) : Type 0 where
  pub from : pos (first_instant plan n) ≤ℤ (sample_instant batch 0 +ℤ pos 3)
  pub to : (k : ℕ) → k < batch.count → sample_instant batch k ≤ℤ pos (first_instant plan n + nominal_offset plan.rate (plan.count - 1) + 2)
  pub apart : (i k : ℕ) → i < k → k < batch.count → (sample_instant batch i +ℤ pos 500) ≤ℤ sample_instant batch k
  pub early : first_instant plan n + nominal_offset plan.rate (plan.count - 1) ≤ 4100000000000000000

nominally : (kind : Kind) (j : Journal) (n k : ℕ) (instant : ℤ) → IsAudioKind kind → IsAtBy kind false j n k instant → IsAtNominal j n k instant
nominally DenseAaf j n k instant heard at = at
nominally SparseAaf j n k instant heard at = at
nominally (Am824 interval dbc) j n k instant heard at = at
nominally (H264 part) j n k instant heard at = absurd heard

counted : (kind : Kind) (count : ℕ) → IsAudioKind kind → sample_count kind count ≡ count
counted DenseAaf count heard = refl
counted SparseAaf count heard = refl
counted (Am824 interval dbc) count heard = refl
counted (H264 part) count heard = absurd heard

begins_by : (first due : ℕ) (x : ℤ) → first ≤ due + 3 → x ≡ pos due → pos first ≤ℤ (x +ℤ pos 3)
begins_by first due x from is = omega (arith, ints, from, is)

ends_by : (first due offset last : ℕ) (x y : ℤ) → due ≤ first + 1 → y ≡ pos due → x ≤ℤ (y +ℤ pos (offset + 1)) → offset ≤ last → x ≤ℤ pos (first + last + 2)
ends_by first due offset last x y to is soon within = omega (arith, ints, to, is, soon, within)

-- The instants that the journal states for the samples of packet n.
module _ (plan : TalkPlan) (p : PacketJournal) (n : ℕ) (plan_is : IsAudioPlan plan) (times : HasTimes plan p.times) (due : IsDue plan p.times n) (conforms : Conforms p.times) where
  at_first : (x : ℤ) → n < p.times.packets → IsAtNominal p.times n 0 x → x ≡ pos (p.times.due n)
  at_first x known at = at.at ∙ sym ((audio p times.audio conforms).first_instants n at.head known at.is_head)

  at_any : (k : ℕ) (x : ℤ) → n < p.times.packets → k < plan.count → IsAtNominal p.times n k x → x ≤ℤ pos (first_instant plan n + nominal_offset plan.rate (plan.count - 1) + 2)
  at_any k x known within at =
      let rate : ℕ = p.times.rate in
      let least = rate_from plan plan_is in
      let some : 0 < rate = omega (arith, times.rate, least) in
      let first = (audio p times.audio conforms).first_instants n at.head known at.is_head in
      let soon = subst (λ (z : ℤ). z ≤ℤ (nominal_instant p.times at.head 0 +ℤ pos (nominal_offset rate k + 1))) (sym at.at) (soon_after at.head.instant at.head.first k rate some) in
      let more = more_offset rate k (plan.count - 1) some (omega (arith, within)) in
      subst (λ (r : ℕ). x ≤ℤ pos (first_instant plan n + nominal_offset r (plan.count - 1) + 2)) times.rate
      (ends_by (first_instant plan n) (p.times.due n) (nominal_offset rate k) (nominal_offset rate (plan.count - 1)) x (nominal_instant p.times at.head 0) due.to (sym first) soon more)

  at_apart : (i k : ℕ) (x y : ℤ) → i < k → IsAtNominal p.times n i x → IsAtNominal p.times n k y → (x +ℤ pos 500) ≤ℤ y
  at_apart i k x y after first later =
      let range = rate_range plan plan_is in
      let heads : Some first.head ≡ Some later.head = sym first.is_head ∙ later.is_head in
      let head : first.head ≡ later.head = cc in
      let at : y ≡ nominal_instant p.times first.head k = later.at ∙ ap (λ (h : Head). nominal_instant p.times h k) (sym head) in
      let far : (nominal_instant p.times first.head i +ℤ pos 500) ≤ℤ nominal_instant p.times first.head k =
      far_after first.head.instant first.head.first i k p.times.rate (omega (arith, times.rate, range.least)) (omega (arith, times.rate, range.most)) after in
      let from = first.at in
      omega (arith, ints, from, at, far)

  sent_by : (batch : Presented) → IsOfPacket false p n batch → IsSent plan n batch
  sent_by batch is =
      let count : batch.count ≡ plan.count = is.count ∙ (counted p.times.kind p.times.count times.audio ∙ times.count) in
      let some = plan_is.some_count in
      record {
        from = begins_by (first_instant plan n) (p.times.due n) (sample_instant batch 0) due.from (at_first (sample_instant batch 0) is.known (nominally p.times.kind p.times n 0 (sample_instant batch 0) times.audio (is.instants 0 (omega (arith, count, some)))));
        to = λ k within. at_any k (sample_instant batch k) is.known (omega (arith, count, within)) (nominally p.times.kind p.times n k (sample_instant batch k) times.audio (is.instants k within));
        apart = λ i k after within.
            at_apart i k (sample_instant batch i) (sample_instant batch k) after (nominally p.times.kind p.times n i (sample_instant batch i) times.audio (is.instants i (omega (arith, after, within))))
            (nominally p.times.kind p.times n k (sample_instant batch k) times.audio (is.instants k within));
        early = ends_early plan n plan_is (due.events is.known);
      }

pub sent : (plan : TalkPlan) (input : List ℕ) (n : ℕ) (batch : Presented) → IsAudioPlan plan → length input ≤ most_input → IsConforming (pos 0) (journal plan input) → IsOfPacket false (journal plan input) n batch → IsSent plan n batch
sent plan input n batch p limit conforms is =
    sent_by plan (journal plan input) n p (times_by plan.kind plan input p.kind) (is_due plan input n p limit) conforms.times batch is

-- ---- two batches

-- all samples of batch a are at least 500 ns before the first sample of batch b
pub record IsBefore (a b : Presented) : Type 0 where
  pub last : (k : ℕ) → k < a.count → (sample_instant a k +ℤ pos 500) ≤ℤ sample_instant b 0

before_by : (end first : ℕ) (x y : ℤ) → x ≤ℤ pos (end + 2) → pos first ≤ℤ (y +ℤ pos 3) → end + 999 ≤ first → (x +ℤ pos 500) ≤ℤ y
before_by end first x y to from apart = omega (arith, ints, to, from, apart)

pub sent_before : (plan : TalkPlan) (n m : ℕ) (a b : Presented) → IsAudioPlan plan → n < m → IsSent plan n a → IsSent plan m b → IsBefore a b
sent_before plan n m a b p less x y = record {
  last = λ k within.
      before_by (first_instant plan n + nominal_offset plan.rate (plan.count - 1)) (first_instant plan m) (sample_instant a k) (sample_instant b 0) (x.to k within) y.from (first_apart plan n m p less);
}
