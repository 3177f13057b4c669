-- What a talker sends and a capture holds.
use Rattle.std.proofs.Common.{◌≡◌, ℕ, zero, suc, ◌+◌, ◌<◌, Bool, true, false, is_some, List, [], ◌∷◌, map, Option, Some, None, pos, ◌≤ℤ◌, refl, sym, subst, arith}
use Rattle.std.specs.Prelude.{IsSomeAnd, slice_get}
use Rattle.std.specs.List.{range_with_len}
use Rattle.aaf_format.specs.declared.aaf.AafFormat.{AafFormat}
use Rattle.stream_journal.specs.Delivered.{IsAudioKind as IsAudioStream}
use Rattle.packet_journal.specs.Carried.{AllCarry, Carries}
use Rattle.packet_journal.specs.Packets.{PacketJournal}
use Rattle.talk_plan.specs.declared.plan.TalkKind.{TalkKind}
use Rattle.talk_plan.specs.declared.plan.TalkKind.TheVariants.{Aaf, Am824, H264}
use Rattle.talk_plan.specs.declared.plan.TalkPlan.{TalkPlan}
use Rattle.talk_audio.specs.Audio.{Audio, audio_by}
use Rattle.talker.specs.Frames.{SentFrame, frames, frames_at, record_of}
use Rattle.talker.specs.Journal.{journal, stream_by}
use Rattle.talk_plan.specs.Plan.{Expects, IsAudioKind, IsAudioPlan, IsPlan, IsPlanOf, IsVideoPlan}

-- ---- the journal of a plan

heard_by : (kind : TalkKind) (plan : TalkPlan) (input : List ℕ) → IsAudioKind kind → IsAudioStream (stream_by (audio_by kind plan) plan input).journal.times.kind
heard_by (Aaf format false) plan input kind = tt
heard_by (Aaf format true) plan input kind = tt
heard_by Am824 plan input kind = tt
heard_by (H264 last_stamp) plan input kind = absurd kind

-- the headline covers the kind of the journal
pub kind_heard : (plan : TalkPlan) (input : List ℕ) → IsAudioPlan plan → IsAudioStream (journal plan input).times.kind
kind_heard plan input p = heard_by plan.kind plan input p.kind

id_by : (audio : Option Audio) (plan : TalkPlan) (input : List ℕ) → plan.id ≡ (stream_by audio plan input).journal.stream
id_by (Some audio) plan input = refl
id_by None plan input = refl

pub stream_is : (plan : TalkPlan) (input : List ℕ) → plan.id ≡ (journal plan input).stream
stream_is plan input = id_by (audio_by plan.kind plan) plan input

-- ---- a plan of H.264

pub video_plan : (plan : TalkPlan) (last_stamp : Bool) → plan.kind ≡ H264 last_stamp → IsVideoPlan plan → IsPlan plan
video_plan plan last_stamp e p = subst (λ (k : TalkKind). IsPlanOf k plan) (sym e) p

-- a listener with any lead can tell the packets of an H.264 plan apart
pub video_expects : (plan : TalkPlan) (last_stamp : Bool) (lead : ℕ) → plan.kind ≡ H264 last_stamp → Expects plan lead
video_expects plan last_stamp lead e = rw e tt

-- ---- the first frame of a capture

-- The frame of packet n arrives no later than the instant at which packet n is due.
pub record IsEarly (plan : TalkPlan) (input : List ℕ) (n : ℕ) (f : SentFrame) : Type 0 where
  pub there : slice_get (frames plan input) n ≡ Some f
  pub early : f.arrival ≤ℤ pos ((journal plan input).times.due n)

early_by : (plan : TalkPlan) (input : List ℕ) (n : ℕ) (r : Option SentFrame) → slice_get (frames plan input) n ≡ r → IsSomeAnd r (λ f. f.arrival ≤ℤ pos ((journal plan input).times.due n)) → (f : SentFrame) × IsEarly plan input n f
early_by plan input n None e h = absurd h
early_by plan input n (Some f) e h = (f, record { there = e; early = h })

pub early_frame : (plan : TalkPlan) (input : List ℕ) (n : ℕ) → IsSomeAnd (slice_get (frames plan input) n) (λ f. f.arrival ≤ℤ pos ((journal plan input).times.due n)) → (f : SentFrame) × IsEarly plan input n f
early_frame plan input n h = early_by plan input n (slice_get (frames plan input) n) refl h

pub carries_at : (p : PacketJournal) (lead a k i j : ℕ) (fs : List SentFrame) (f : SentFrame) → a + i ≡ j → AllCarry p lead (range_with_len a k) (map record_of fs) → i < k → slice_get fs i ≡ Some f → Carries p lead j (record_of f)
carries_at p lead a zero i j fs f number all within at = absurd (omega arith)
carries_at p lead a (suc k) i j [] f number all within at = absurd cc
carries_at p lead a (suc k) zero j (g ∷ fs) f number all within at =
    let same : g ≡ f = cc in
    let here : a ≡ j = omega arith in
    subst (λ (m : ℕ). Carries p lead m (record_of f)) here (subst (λ (h : SentFrame). Carries p lead a (record_of h)) same all.0)
carries_at p lead a (suc k) (suc i) j (g ∷ fs) f number all within at = carries_at p lead (a + 1) k i j fs f (omega arith) all.1 (omega arith) at

pub first_kept : (plan : TalkPlan) (input places : List ℕ) (n : ℕ) (f : SentFrame) → slice_get (frames plan input) n ≡ Some f → frames_at plan input (n ∷ places) ≡ f ∷ frames_at plan input places
first_kept plan input places n f at = rw at refl

-- each packet of dense PCM is stamped
pub dense_stamped : (plan : TalkPlan) (input : List ℕ) (format : AafFormat) (n : ℕ) → plan.kind ≡ Aaf format false → is_some ((journal plan input).times.stamp n) ≡ true
dense_stamped plan input format n dense = rw dense refl
