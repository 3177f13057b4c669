-- What is shown of a whole capture of a plan.
use Rattle.std.specs.Prelude.{◌≡◌, ◌+◌, ◌*◌, ◌^◌, ◌<◌, ◌≤◌, ⊤, ℕ, Bool, true, false, pos, List, [], ◌∷◌, filter, length, Option, None, IsSome}
use Rattle.std.specs.List.{range_with_len}
use Rattle.stream_journal.specs.Journal.{Part, Single, First, Middle, Last, head_of}
use Rattle.sample_schedule.specs.declared.shown.Shown.{Shown}
use Rattle.sample_schedule.specs.declared.shown.Shown.TheVariants.{Present, Flag}
use Rattle.packet_journal.specs.Packets.{PacketJournal}
use Rattle.listener.specs.declared.plan.ListenPlan.{ListenPlan}
use Rattle.listener.specs.Laws.{FollowsClock, IsOfPacket}
use Rattle.talk_plan.specs.declared.plan.TalkKind.{TalkKind}
use Rattle.talk_plan.specs.declared.plan.TalkKind.TheVariants.{Aaf, Am824, H264}
use Rattle.talk_plan.specs.declared.plan.TalkPlan.{TalkPlan}
use Rattle.talk_plan.specs.Plan.{IsAudioPlan, IsVideoPlan, interval_of, most_input}
use Rattle.talker.specs.Journal.{journal, stream_of}
use Rattle.talked_headline.specs.Premises.{ListensTo, part_sent}

-- Exactly the packets with the listed numbers are shown, in the order of the list. Each packet is presented once, with
-- its bytes and at its instants, and nothing is flagged.
abbrev pub ArePresented : Bool → PacketJournal → List ℕ → List Shown → Type 0
ArePresented by p [] [] = ⊤
ArePresented by p [] (s ∷ rest) = ⊥
ArePresented by p (n ∷ ns) [] = ⊥
ArePresented by p (n ∷ ns) (Present batch ∷ rest) = IsOfPacket by p n batch × ArePresented by p ns rest
ArePresented by p (n ∷ ns) (Flag frame seq reason ∷ rest) = ⊥

-- The listener's buffer has room for all packets that are sent within 4/3 * (`plan.lead` + 1) nanoseconds. The buffer
-- has 1,500 bytes for each packet; no packet carries more.
pub record HoldsLead (plan : TalkPlan) (listen : ListenPlan) : Type 0 where
  pub packets : 4 * ((plan.lead + 1) * plan.rate) < 3 * (listen.buffer * (plan.count * 1000000000))
  pub bytes : listen.buffer * 1500 ≤ listen.room

-- the leads of the listener and of the plan differ by at most the time of 59 packets
pub record IsCloseLead (plan : TalkPlan) (lead : ℕ) : Type 0 where
  pub from : plan.lead * plan.rate ≤ lead * plan.rate + 59 * (plan.count * 1000000000)
  pub to : lead * plan.rate ≤ plan.lead * plan.rate + 59 * (plan.count * 1000000000)

-- If some packets have no timestamp, the listener must expect packets at about the time when the plan sends them. If
-- each packet is stamped, the listener may have any lead.
abbrev pub ExpectsCounted : TalkKind → TalkPlan → ℕ → Type 0
ExpectsCounted (Aaf format false) plan lead = ⊤
ExpectsCounted (Aaf format true) plan lead = IsCloseLead plan lead
ExpectsCounted Am824 plan lead = plan.count < interval_of plan.rate → IsCloseLead plan lead
ExpectsCounted (H264 last_stamp) plan lead = ⊤

-- The listener can present each packet of the plan, which has no clock. Each packet has a timestamp or is counted from
-- one. The listener has no clock, and its buffer has room for all waiting packets. If packets are counted, the
-- listener's lead is close to the plan's lead.
pub record HearsAll (plan : TalkPlan) (input : List ℕ) (listen : ListenPlan) : Type 0 where
  pub talk : ListensTo plan input listen
  pub alone : plan.crf ≡ None
  pub without : listen.clock ≡ None
  pub heads : (n : ℕ) → n < (journal plan input).times.packets → IsSome (head_of (journal plan input).times n)
  pub counted : ExpectsCounted plan.kind plan listen.lead
  pub room : HoldsLead plan listen

-- ---- the defaults

-- Each packet of an audio plan of this kind has a timestamp or is counted from the timestamp of another packet. The
-- condition: sparse PCM and AM824 have no restarts. PCM that is not sparse has no condition, and neither has H.264.
abbrev pub HasEachHead : TalkKind → Option ℕ → Type 0
HasEachHead (Aaf format false) restart = ⊤
HasEachHead (Aaf format true) restart = restart ≡ None
HasEachHead Am824 restart = restart ≡ None
HasEachHead (H264 last_stamp) restart = ⊤

-- the listener of a stream with the default options of `listen`
abbrev pub default_listener : ℕ → ListenPlan
default_listener id = record { stream = id; clock = None; buffer = 4096; room = 67108864; look = 0; lead = 2000000; shift = pos 0 }

-- An audio plan without a clock sends `input` with the default lead of `talk`, 2 ms. Each packet of the plan can be
-- timed.
pub record HasDefaultLead (plan : TalkPlan) (input : List ℕ) : Type 0 where
  pub talked : IsAudioPlan plan
  pub id : plan.id < 2 ^ 64
  pub limit : length input ≤ most_input
  pub alone : plan.crf ≡ None
  pub lead : plan.lead ≡ 2000000
  pub heads : HasEachHead plan.kind plan.restart

-- ---- H.264

-- the part ends a unit: it is a whole unit or a last fragment
abbrev pub ends_unit : Part → Bool
ends_unit Single = true
ends_unit First = false
ends_unit Middle = false
ends_unit Last = true

-- the numbers of the packets that end the units of a plan of H.264, in order
abbrev pub unit_ends : TalkPlan → List ℕ → List ℕ
unit_ends plan input = filter (λ (n : ℕ). ends_unit (part_sent input n)) (range_with_len 0 (journal plan input).times.packets)

-- Whenever a packet is sent, all sent packets that are not yet due are among the latest `listen.buffer` packets. The
-- buffer has room for the bytes of `listen.buffer` + 255 packets, with 1,500 bytes for each packet; a unit has at most
-- 255 packets.
pub record HoldsUnits (plan : TalkPlan) (input : List ℕ) (listen : ListenPlan) : Type 0 where
  pub packets : (k n : ℕ) → k ≤ n → n < (journal plan input).times.packets → (stream_of plan input).arrival n ≤ (journal plan input).times.due k
      → n < k + listen.buffer
  pub bytes : (listen.buffer + 255) * 1500 ≤ listen.room

-- The listener can present each unit of a plan of H.264, because its buffer has room for all waiting units. The
-- listener may have any lead.
pub record HearsUnits (plan : TalkPlan) (input : List ℕ) (listen : ListenPlan) : Type 0 where
  pub last_stamp : Bool
  pub kind : plan.kind ≡ H264 last_stamp
  pub talked : IsVideoPlan plan
  pub stream_id : plan.id < 2 ^ 64
  pub limit : length input ≤ most_input
  pub stream : listen.stream ≡ plan.id
  pub clock : FollowsClock (pos 0) (journal plan input) listen.shift listen.clock
  pub room : HoldsUnits plan input listen

-- A plan of H.264 sends `input` with the default lead of `talk`, 2 ms.
pub record IsDefaultVideo (plan : TalkPlan) (input : List ℕ) : Type 0 where
  pub last_stamp : Bool
  pub kind : plan.kind ≡ H264 last_stamp
  pub talked : IsVideoPlan plan
  pub stream_id : plan.id < 2 ^ 64
  pub limit : length input ≤ most_input
  pub lead : plan.lead ≡ 2000000
