-- Copies of audio packets and of units that must be presented, wherever they are in a capture.
use Rattle.std.specs.Prelude.{◌≡◌, ◌≢◌, ◌+◌, ◌*◌, ◌<◌, ◌≤◌, ◌≤ℤ◌, ℕ, ℤ, Bool, true, pos, List, [], ◌∷◌, ◌++◌, All, length, filter, take, slice_get, Some}
use Rattle.pcap_frames.specs.Capture.{Record}
use Rattle.stream_journal.specs.Conforming.{Ends}
use Rattle.stream_journal.specs.Journal.{IsAt, Part}
use Rattle.packet_journal.specs.Deliveries.{Delivery}
use Rattle.packet_journal.specs.Delivered.{IsCopyOf, stream_numbers}
use Rattle.packet_journal.specs.Packets.{PacketJournal, carried}
use Rattle.packet_journal.specs.Units.{AreUnit, unit_bytes}
use Rattle.listener.specs.declared.plan.ListenPlan.{ListenPlan}
use Rattle.listener.specs.Heard.{deliveries_of}
use Rattle.listener.specs.Items.{given_up_by, items_so_far}
use Rattle.listener.specs.Known.{IsKnownCopy}
use Rattle.listener.specs.Laws.{AreOfUnit, by_clock, time_of}
use Rattle.listener.specs.Units.{in_stream}

-- The delivery at index `place` is a copy of packet n. The timestamp or clock reference of packet n is known when the
-- copy is judged. All deliveries up to and including the copy were captured no later than the packet's first instant.
pub record ComesInTime (p : PacketJournal) (plan : ListenPlan) (records : List Record) (place n : ℕ) (d : Delivery) : Type 0 where
  pub there : slice_get (deliveries_of plan records) place ≡ Some d
  pub copy : IsCopyOf p plan.lead n d
  pub known : IsKnownCopy p plan records place (record { number = n; arrival = copy.arrival })
  pub instant : ℕ
  pub at : IsAt (by_clock plan) p.times n 0 (pos instant)
  pub in_time : (k : ℕ) (e : Delivery) → k ≤ place → slice_get (deliveries_of plan records) k ≡ Some e → e.arrival ≤ℤ pos instant

-- `waits` is true for a packet if the item at index `place` is judged no later than the packet's first instant
abbrev pub FindsWaiting : PacketJournal → ListenPlan → List Record → ℕ → (ℕ → Bool) → Type 0
FindsWaiting p plan records place waits = (k : ℕ) (x : ℤ) → k < p.times.packets → IsAt (by_clock plan) p.times k 0 x → time_of plan records place ≤ℤ x → waits k ≡ true

-- The copy must be presented: it comes in time, it is the first copy of its packet, and the buffer has room for it. No
-- packet of the stream carries more than `most` bytes. Take the earlier packets for which `waits` is true. The buffer
-- must have room for the copy and for all these packets, even if each of them carries `most` bytes.
pub record MustBePresented (p : PacketJournal) (plan : ListenPlan) (records : List Record) (place n : ℕ) (d : Delivery) : Type 0 where
  pub comes : ComesInTime p plan records place n d
  pub first : All (λ (k : ℕ). k ≢ n) (stream_numbers (take place comes.known.origins))
  pub waits : ℕ → Bool
  pub finds : FindsWaiting p plan records place waits
  pub some : length (filter waits (stream_numbers (take place comes.known.origins))) < plan.buffer
  pub most : ℕ
  pub size : (m : ℕ) → m < p.times.packets → length (carried (p.packet m)) ≤ most
  pub bytes : (length (filter waits (stream_numbers (take place comes.known.origins))) + 1) * most ≤ plan.room

-- ---- units of H.264

-- the index, among all items, of the unit that delivery `last` completes: the unit comes after all earlier items and
-- after the fragments that are given up because of `last`
abbrev pub unit_place : List Delivery → Delivery → ℕ
unit_place before last = length (items_so_far before ++ given_up_by before last)

-- Delivery `last` completes the unit of packets `from` to n. One copy of each packet of the unit came, in order and
-- with no other packet of the stream between the copies. All deliveries up to and including `last` were captured no
-- later than the unit's due instant.
pub record UnitComesInTime (p : PacketJournal) (plan : ListenPlan) (records : List Record) (part : ℕ → Part) (from n : ℕ) (before : List Delivery) (last : Delivery) : Type 0 where
  pub rest : List Delivery
  pub there : deliveries_of plan records ≡ before ++ last ∷ rest
  pub front : List Delivery
  pub earlier : List Delivery
  pub gathered : in_stream before ≡ front ++ earlier
  pub unit : AreOfUnit p part plan.lead from n earlier last
  pub in_time : All (λ (d : Delivery). d.arrival ≤ℤ pos (p.times.due n)) (before ++ last ∷ [])

-- Let a delivery in `before` end a unit. If the unit is due at or after the time at which the item at index `place` is
-- judged, `waits` is true for this delivery.
abbrev pub FindsWaitingUnits : PacketJournal → ListenPlan → List Record → (ℕ → Part) → List Delivery → ℕ → (Delivery → Bool) → Type 0
FindsWaitingUnits p plan records part before place waits = (j k : ℕ) (d : Delivery) → slice_get before j ≡ Some d → IsCopyOf p plan.lead k d → Ends (part k) → time_of plan records place ≤ℤ pos (p.times.due k) → waits d ≡ true

-- The unit must be presented: it comes in time, no copy of its last packet came before, and the buffer has room for it.
-- No unit of the stream has more than `most` bytes. Take the earlier units for which `waits` is true. The buffer must
-- have room for the unit and for all these earlier units, even if each of them has `most` bytes.
pub record UnitMustBePresented (p : PacketJournal) (plan : ListenPlan) (records : List Record) (part : ℕ → Part) (from n : ℕ) (before : List Delivery) (last : Delivery) : Type 0 where
  pub comes : UnitComesInTime p plan records part from n before last
  pub first : All (λ (d : Delivery). ¬ IsCopyOf p plan.lead n d) before
  pub waits : Delivery → Bool
  pub finds : FindsWaitingUnits p plan records part before (unit_place before last) waits
  pub some : length (filter waits before) < plan.buffer
  pub most : ℕ
  pub size : (s m : ℕ) → AreUnit part s m → m < p.times.packets → length (unit_bytes p s m) ≤ most
  pub bytes : (length (filter waits before) + 1) * most ≤ plan.room
