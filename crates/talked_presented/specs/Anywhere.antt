-- Which copies of a talker's packets and units must be presented, wherever they are in a capture.
use Rattle.std.specs.Prelude.{◌≡◌, ◌≢◌, ◌+◌, ◌-◌, ◌*◌, ◌<◌, ◌≤◌, ℕ, nat_le, List, ◌∷◌, ◌++◌, length, filter, take, All, None}
use Rattle.std.specs.List.{range_with_len}
use Rattle.stream_journal.specs.Delivered.{Copy}
use Rattle.stream_journal.specs.Known.{IsTimed}
use Rattle.packet_journal.specs.Units.{AreUnit}
use Rattle.listener.specs.declared.plan.ListenPlan.{ListenPlan}
use Rattle.talk_plan.specs.declared.plan.TalkPlan.{TalkPlan}
use Rattle.talker.specs.Journal.{journal, stream_of}
use Rattle.talked_headline.specs.Premises.{ListensTo, ListensToVideo, part_sent}
use Rattle.talked_presented.specs.Whole.{ends_unit}

-- a copy of packet n that is captured when the packet is sent
abbrev pub sent_copy : TalkPlan → List ℕ → ℕ → Copy
sent_copy plan input n = record { number = n; arrival = (stream_of plan input).arrival n }

-- the packets in `packets` that are not yet due when packet n is sent
abbrev pub waiting_at : TalkPlan → List ℕ → ℕ → List ℕ → List ℕ
waiting_at plan input n packets = filter (λ (k : ℕ). nat_le ((stream_of plan input).arrival n) ((journal plan input).times.due k)) packets

-- Packet n of a plan without a clock is captured between the packets `before` and the packets `after`. Packet n has a
-- timestamp, or can be counted from the timestamp of another packet. That other packet was captured earlier, or is one
-- of the next `look` captured packets. All packets of `before` were captured no later than the instant at which packet
-- n is due.
pub record ComesInTime (plan : TalkPlan) (input : List ℕ) (listen : ListenPlan) (before : List ℕ) (n : ℕ) (after : List ℕ) : Type 0 where
  pub talk : ListensTo plan input listen
  pub alone : plan.crf ≡ None
  pub without : listen.clock ≡ None
  -- all captured packets are packets of the plan
  pub sent : All (λ (k : ℕ). k < (journal plan input).times.packets) (before ++ n ∷ after)
  pub timed : IsTimed (journal plan input).times listen.lead (listen.look + 16) (sent_copy plan input n) (take (length before + listen.look + 1) (before ++ n ∷ after))
  pub in_time : All (λ (k : ℕ). (stream_of plan input).arrival k ≤ (journal plan input).times.due n) before

-- The copy of packet n must be presented, because three conditions hold. The copy is captured in time. The copy is the
-- first copy of its packet. The buffer has room for the copy and for all earlier packets that are not yet due, even if
-- each of them takes the maximum of 1,500 bytes.
pub record MustBePresented (plan : TalkPlan) (input : List ℕ) (listen : ListenPlan) (before : List ℕ) (n : ℕ) (after : List ℕ) : Type 0 where
  pub comes : ComesInTime plan input listen before n after
  pub first : All (λ (k : ℕ). k ≢ n) before
  pub some : length (waiting_at plan input n before) < listen.buffer
  pub bytes : (length (waiting_at plan input n before) + 1) * 1500 ≤ listen.room

-- Packets `from` to n of a plan of H.264 carry one unit, and are captured in order, between the packets `front` and the
-- packets `after`. The unit must be presented, because three conditions hold. All packets of `front` were captured no
-- later than the instant at which the unit is due. The unit's last packet is not in `front`. The buffer has room for
-- the unit and for all units completed in `front`, even if each of them takes the maximum of 255 packets of 1,500
-- bytes.
pub record UnitMustBePresented (plan : TalkPlan) (input : List ℕ) (listen : ListenPlan) (front : List ℕ) (from n : ℕ) (after : List ℕ) : Type 0 where
  pub talk : ListensToVideo plan input (front ++ (range_with_len from (n - from) ++ n ∷ after)) listen
  pub sent : All (λ (k : ℕ). k < (journal plan input).times.packets) (front ++ n ∷ after)
  pub packets : AreUnit (part_sent input) from n
  pub in_time : All (λ (k : ℕ). (stream_of plan input).arrival k ≤ (journal plan input).times.due n) front
  pub first : All (λ (k : ℕ). k ≢ n) front
  pub some : length (filter (λ (k : ℕ). ends_unit (part_sent input k)) front) < listen.buffer
  pub bytes : (length (filter (λ (k : ℕ). ends_unit (part_sent input k)) front) + 1) * 382500 ≤ listen.room
