-- What a listener with the talker's clock shows of a whole capture.
use Rattle.std.specs.Prelude.{◌≡◌, ◌<◌, ◌≤◌, ◌%◌, ◌^◌, ⊤, ℕ, true, false, List, length, All, AllPairs, Any, Some, None}
use Rattle.std.specs.Int.{div_ceil}
use Rattle.sample_schedule.specs.declared.shown.Reason.TheVariants.{NoClock}
use Rattle.sample_schedule.specs.declared.shown.Shown.{Shown}
use Rattle.sample_schedule.specs.declared.shown.Shown.TheVariants.{Present, Flag}
use Rattle.packet_journal.specs.Packets.{PacketJournal}
use Rattle.listener.specs.declared.plan.ListenPlan.{ListenPlan}
use Rattle.listener.specs.Laws.{AreOther, ComesBefore, IsOfPacket, presented_of}
use Rattle.talk_plan.specs.declared.plan.CrfPlan.{CrfPlan}
use Rattle.talk_plan.specs.declared.plan.TalkKind.{TalkKind}
use Rattle.talk_plan.specs.declared.plan.TalkKind.TheVariants.{Aaf, Am824, H264}
use Rattle.talk_plan.specs.declared.plan.TalkPlan.{TalkPlan}
use Rattle.talk_plan.specs.Plan.{IsAudioPlan, interval_of, most_input, spacing_of}
use Rattle.talked_headline.specs.Premises.{ListensTo}
use Rattle.talked_presented.specs.Whole.{HoldsLead, default_listener}

-- the first packet whose first sample is at or after the second timestamp of the clock
abbrev pub first_covered : CrfPlan → TalkPlan → ℕ
first_covered crf plan = div_ceil (spacing_of crf plan.rate) plan.count

-- If a batch is shown, it is that of packet `first` or of a later packet. If a flag is shown, it flags a packet before
-- packet `first`, with the reason `noclock`.
abbrev pub IsFrom : PacketJournal → ℕ → Shown → Type 0
IsFrom p first (Present batch) = (n : ℕ) × ((first ≤ n) × IsOfPacket true p n batch)
IsFrom p first (Flag frame seq reason) = (n : ℕ) × ((n < first) × ((seq ≡ n % 256) × (reason ≡ NoClock)))

-- Each packet from `first` on is presented with instants from the clock, once and in order. Any other shown item flags
-- a packet before `first` with the reason `noclock`.
pub record ArePresentedFrom (p : PacketJournal) (first : ℕ) (shown : List Shown) : Type 0 where
  pub each : (n : ℕ) → first ≤ n → n < p.times.packets → Any (IsOfPacket true p n) (presented_of shown)
  pub once : AllPairs (AreOther true p) (presented_of shown)
  pub in_order : AllPairs ComesBefore (presented_of shown)
  pub no_other : All (IsFrom p first) shown

-- Each packet of a plan of this kind stamps its first sample. Each packet of PCM that is not sparse stamps its first
-- sample. AM824 is of this kind if the number of data blocks in a packet is a multiple of the SYT interval, as in the
-- packets of a blocking talker (IEC 61883-6).
abbrev pub StampsFirst : TalkKind → TalkPlan → Type 0
StampsFirst (Aaf format false) plan = ⊤
StampsFirst (Aaf format true) plan = ⊥
StampsFirst Am824 plan = plan.count % interval_of plan.rate ≡ 0
StampsFirst (H264 last_stamp) plan = ⊥

-- The listener has the talker's clock, does not look ahead, and has room for what is sent during the plan's lead. Each
-- packet of the plan stamps its first sample. The plan has no restarts and a lead of at least 3 ns.
pub record HearsClock (plan : TalkPlan) (crf : CrfPlan) (input : List ℕ) (listen : ListenPlan) : Type 0 where
  pub talk : ListensTo plan input listen
  pub stamps : StampsFirst plan.kind plan
  pub steady : plan.restart ≡ None
  pub crf_is : plan.crf ≡ Some crf
  pub ahead : 3 ≤ plan.lead
  pub with_clock : listen.clock ≡ Some crf.id
  pub now : listen.look ≡ 0
  pub room : HoldsLead plan listen

-- the listener with the default options of `listen` and with the clock `clock`
abbrev pub clocked_listener : ℕ → ℕ → ListenPlan
clocked_listener id clock = record (default_listener id) { clock = Some clock }

-- A plan sends `input` with the clock `crf` and the default lead of `talk`, 2 ms. The plan has no restarts, and each of
-- its packets stamps its first sample.
pub record HasDefaultClock (plan : TalkPlan) (crf : CrfPlan) (input : List ℕ) : Type 0 where
  pub talked : IsAudioPlan plan
  pub id : plan.id < 2 ^ 64
  pub limit : length input ≤ most_input
  pub stamps : StampsFirst plan.kind plan
  pub steady : plan.restart ≡ None
  pub crf_is : plan.crf ≡ Some crf
  pub lead : plan.lead ≡ 2000000
