-- What a listener hears of a talker that keeps the rules.
use Rattle.std.specs.Prelude.{Any, Contains, ◌≡◌, ◌⊎◌, ℕ, suc, ◌+◌, ◌<◌, ◌≤◌, ◌%◌, ◌==◌, ⊤, Bool, false, ℤ, pos, ◌≤ℤ◌, ◌<ℤ◌, List, [], ◌∷◌, length, filter, All, slice_get, Option, Some, None, is_some, Result, Ok, Err}
use Rattle.std.specs.List.{sum_by}
use Rattle.clock_track.specs.Rows.{clock_spot}
use Rattle.pcap_frames.specs.Capture.{Record}
use Rattle.sample_schedule.specs.declared.accepted.Accepted.{Accepted}
use Rattle.sample_schedule.specs.declared.entry.Entry.TheVariants.{Item as OfItem}
use Rattle.sample_schedule.specs.declared.item.Item.{Item}
use Rattle.sample_schedule.specs.declared.item.Unit.{Unit as WholeUnit}
use Rattle.sample_schedule.specs.Laws.{verdict_in}
use Rattle.sample_schedule.specs.Order.{standing}
use Rattle.sample_schedule.specs.Schedule.{accepted, now_at}
use Rattle.sample_schedule.specs.Verdicts.{is_full}
use Rattle.sample_schedule.specs.Batches.{Presented, sample_instant}
use Rattle.sample_schedule.specs.declared.shown.Reason.{Reason}
use Rattle.sample_schedule.specs.declared.shown.Shown.{Shown}
use Rattle.sample_schedule.specs.declared.shown.Shown.TheVariants.{Present, Flag}
use Rattle.stream_journal.specs.Journal.{IsAt, Kind, DenseAaf, SparseAaf, Am824, H264, Part}
use Rattle.packet_journal.specs.Deliveries.{Delivery}
use Rattle.packet_journal.specs.Delivered.{Delivers, IsCopyOf}
use Rattle.packet_journal.specs.Packets.{IsConforming, PacketJournal}
use Rattle.cvf_format.specs.WholeOrBroken.{longest_unit, most_fragments}
use Rattle.packet_journal.specs.Units.{AreUnit, IsContent, first_byte, unit_bytes}
use Rattle.listener.specs.declared.plan.ListenPlan.{ListenPlan}
use Rattle.listener.specs.Heard.{entries_in, items_in, schedule_plan}
use Rattle.listener.specs.Items.{MadeItem, sources}
use Rattle.listener.specs.Known.{IsKnownItem}

-- The listener has no clock, or it has the talker's clock and adds `shift` to the clock's timestamps.
abbrev pub FollowsClock : ℤ → PacketJournal → ℤ → Option ℕ → Type 0
FollowsClock shift p added None = ⊤
FollowsClock shift p added (Some id) = (id ≡ p.clock) × (added ≡ shift)

-- The records deliver a stream of audio or H.264 to a listener, and the stream's talker keeps the rules. The listener
-- times samples by their timestamps and the nominal rate, or by the talker's clock. Any packet may be missing, repeated
-- or out of order. H.264 has one more condition: if two fragments of the stream arrive one right after the other, and
-- at least one has no timestamp, their packet numbers differ by at most 254.
pub record HearsTalker (shift : ℤ) (p : PacketJournal) (plan : ListenPlan) (records : List Record) : Type 0 where
  pub conforming : IsConforming shift p
  pub stream : plan.stream ≡ p.stream
  pub clock : FollowsClock shift p plan.shift plan.clock
  pub delivered : Delivers p plan.clock plan.lead records

-- the listener times samples by a clock
abbrev pub by_clock : ListenPlan → Bool
by_clock plan = is_some plan.clock

-- the batches that are presented, in the order in which they are shown
abbrev pub presented_of : List Shown → List Presented
presented_of [] = []
presented_of (Present batch ∷ rest) = batch ∷ presented_of rest
presented_of (Flag frame seq reason ∷ rest) = presented_of rest

-- the number of samples in a batch: as many as the talker's audio packets have, or 1 for a unit of H.264
abbrev pub sample_count : Kind → ℕ → ℕ
sample_count DenseAaf count = count
sample_count SparseAaf count = count
sample_count (Am824 interval dbc) count = count
sample_count (H264 part) count = 1

-- The batch is packet n of the journal: it has the packet's sequence number, number of samples and bytes. An audio
-- sample is at its instant in the journal if `by` is false, and at the instant that the talker's clock gives if `by` is
-- true. For H.264, the batch is the unit that ends with packet n: it has the bytes of all packets of the unit, and
-- presents them at one instant.
pub record IsOfPacket (by : Bool) (p : PacketJournal) (n : ℕ) (batch : Presented) : Type 0 where
  pub known : n < p.times.packets
  pub seq : batch.seq ≡ n % 256
  pub count : batch.count ≡ sample_count p.times.kind p.times.count
  pub bytes : IsContent p n batch.bytes
  pub instants : (k : ℕ) → k < batch.count → IsAt by p.times n k (sample_instant batch k)

-- the batch is a packet of the journal
pub record IsOfJournal (by : Bool) (p : PacketJournal) (batch : Presented) : Type 0 where
  pub number : ℕ
  pub is : IsOfPacket by p number batch

-- the two batches are not the same packet of the journal
abbrev pub AreOther : Bool → PacketJournal → Presented → Presented → Type 0
AreOther by p a b = (n : ℕ) → IsOfPacket by p n a → ¬ IsOfPacket by p n b

-- Batch `a` has an earlier first instant than batch `b`; or the first instants are equal, and `a` has the lower frame
-- number.
abbrev pub ComesBefore : Presented → Presented → Type 0
ComesBefore a b = (sample_instant a 0 <ℤ sample_instant b 0) ⊎ ((sample_instant a 0 ≡ sample_instant b 0) × (a.frame < b.frame))

-- Two batches have the same samples: equal bytes, and each sample at the same instant.
pub record AreSame (a b : Presented) : Type 0 where
  pub count : a.count ≡ b.count
  pub bytes : a.bytes ≡ b.bytes
  pub instants : (k : ℕ) → k < a.count → sample_instant a k ≡ sample_instant b k

-- if the two batches are the same packet of the journal, they have the same samples
abbrev pub Agree : Bool → PacketJournal → Presented → Presented → Type 0
Agree by p a b = (n : ℕ) → IsOfPacket by p n a → IsOfPacket by p n b → AreSame a b

-- ---- the items of a capture

-- Exactly one item was made of this delivery, alone or together with other deliveries.
pub record IsInOneItem (items : List MadeItem) (d : Delivery) : Type 0 where
  pub place : ℕ
  pub item : MadeItem
  pub there : slice_get items place ≡ Some item
  pub in_it : Contains (sources item) d
  pub only : (k : ℕ) (other : MadeItem) → slice_get items k ≡ Some other → Contains (sources other) d → k ≡ place

-- the number of fragments in the whole units among the items, not counting the last fragment of each unit
abbrev pub fragments_in : List MadeItem → ℕ
fragments_in items = sum_by (λ (made : MadeItem). length made.earlier) items

-- the deliveries are copies of consecutive packets, from packet n on
abbrev pub AreCopiesFrom : PacketJournal → ℕ → ℕ → List Delivery → Type 0
AreCopiesFrom p lead n [] = ⊤
AreCopiesFrom p lead n (d ∷ ds) = IsCopyOf p lead n d × AreCopiesFrom p lead (suc n) ds

-- The item was made of copies of consecutive packets, and the last of these packets is packet n. An audio item is made
-- of a copy of packet n alone. Each copy's packet is named by its number, because two packets may have equal bytes.
pub record IsMadeOf (p : PacketJournal) (lead n : ℕ) (made : MadeItem) : Type 0 where
  pub from : ℕ
  pub to : from + length made.earlier ≡ n
  pub earlier : AreCopiesFrom p lead from made.earlier
  pub last : IsCopyOf p lead n made.last

-- The unit of an item is the journal's unit that ends with packet n, and has that unit's bytes and instant. The item
-- was made of one copy of each packet of the journal's unit, in the order of the packets.
pub record IsUnitFrom (p : PacketJournal) (part : ℕ → Part) (lead n : ℕ) (made : MadeItem) (unit : WholeUnit) : Type 0 where
  pub copies : IsMadeOf p lead n made
  pub packets : AreUnit part copies.from n
  pub bytes : unit.bytes ≡ unit_bytes p copies.from n
  pub instant : unit.instant ≡ pos (p.times.due n)

-- The deliveries are copies of all packets of one unit, in their order, and packet n is the last of them. Each packet
-- carries the unit's first byte, and the unit is within the limits.
pub record AreOfUnit (p : PacketJournal) (part : ℕ → Part) (lead from n : ℕ) (earlier : List Delivery) (last : Delivery) : Type 0 where
  pub to : from + length earlier ≡ n
  pub packets : AreUnit part from n
  pub earlier_copies : AreCopiesFrom p lead from earlier
  pub last_copy : IsCopyOf p lead n last
  pub same_byte : (k : ℕ) → from ≤ k → k ≤ n → first_byte (p.packet k) ≡ first_byte (p.packet from)
  pub size : length (unit_bytes p from n) ≤ longest_unit
  pub few : length earlier < most_fragments

-- ---- what must be presented

-- the batches that a listener has accepted before it judges the item at an index
abbrev pub accepted_before : ListenPlan → List Record → ℕ → List Accepted
accepted_before plan records i = accepted clock_spot (schedule_plan plan) (entries_in plan records) i

-- the item at index `place` is judged at this time: the greatest arrival of the items up to and including that item
abbrev pub time_of : ListenPlan → List Record → ℕ → ℤ
time_of plan records i = now_at (entries_in plan records) i

-- The item at index `place` is packet n. The item's timestamp or clock reference is known from the packets that came.
-- The packet's first instant has not passed when the item is judged.
pub record IsTimely (p : PacketJournal) (plan : ListenPlan) (records : List Record) (place n : ℕ) (made : MadeItem) : Type 0 where
  pub there : slice_get (items_in plan records) place ≡ Some made
  pub copy : IsMadeOf p plan.lead n made
  pub known : IsKnownItem p.times.kind p plan records place (record { number = n; arrival = copy.last.arrival }) made
  pub instant : ℤ
  pub at : IsAt (by_clock plan) p.times n 0 instant
  pub in_time : time_of plan records place ≤ℤ instant

-- The item at index `place` is a copy of packet n that must be presented: it is timely and the first copy, and the
-- buffer has room for it.
pub record IsWelcome (p : PacketJournal) (plan : ListenPlan) (records : List Record) (place n : ℕ) (made : MadeItem) : Type 0 where
  pub timely : IsTimely p plan records place n made
  -- no copy of the packet was accepted before
  pub first : All (λ a. ¬ IsOfPacket (by_clock plan) p n a.batch) (accepted_before plan records place)
  -- the buffer has room for the copy
  pub bytes : List ℕ
  pub content : IsContent p n bytes
  pub room : is_full (schedule_plan plan) (standing (time_of plan records place) (accepted_before plan records place)) (length bytes) ≡ false

-- The item at index `place` is a further copy of packet n: it is timely, and a copy of packet n was accepted before.
pub record IsFurther (p : PacketJournal) (plan : ListenPlan) (records : List Record) (place n : ℕ) (made : MadeItem) : Type 0 where
  pub timely : IsTimely p plan records place n made
  pub before : Any (λ a. IsOfPacket (by_clock plan) p n a.batch) (accepted_before plan records place)

-- the batch is packet n, and has the frame number of the item
pub record IsPresentedOf (by : Bool) (p : PacketJournal) (n : ℕ) (made : MadeItem) (batch : Presented) : Type 0 where
  pub frame : batch.frame ≡ made.last.frame
  pub is : IsOfPacket by p n batch

-- The batch is presented for one of the items, and is the packet that this item was made of.
pub record IsHeardFrom (by : Bool) (items : List MadeItem) (p : PacketJournal) (lead : ℕ) (batch : Presented) : Type 0 where
  pub item : MadeItem
  pub number : ℕ
  pub listed : Contains items item
  pub copy : IsMadeOf p lead number item
  pub is : IsPresentedOf by p number item batch

-- ---- what is shown of each item

-- the number of the frame that an item is shown for
abbrev pub frame_of : Shown → ℕ
frame_of (Present batch) = batch.frame
frame_of (Flag frame seq reason) = frame

-- what is shown for the frame with this number
abbrev pub shown_of_frame : ℕ → List Shown → List Shown
shown_of_frame frame list = filter (λ s. frame_of s == frame) list

-- the verdict on an item at an index
abbrev pub verdict_of : ListenPlan → List Record → ℕ → Item → Result Accepted Reason
verdict_of plan records place item = verdict_in clock_spot (schedule_plan plan) (entries_in plan records) place item

-- What is shown of an item with this last delivery and this verdict: an accepted item is presented, and any other item
-- is flagged with the reason.
abbrev pub shown_by : Delivery → Result Accepted Reason → Shown
shown_by d (Ok a) = Present a.batch
shown_by d (Err reason) = Flag d.frame d.seq reason

-- `s` shows some item as the verdict on that item says.
pub record IsShownItem (plan : ListenPlan) (records : List Record) (s : Shown) : Type 0 where
  pub place : ℕ
  pub made : MadeItem
  pub item : Item
  pub there : slice_get (items_in plan records) place ≡ Some made
  pub is : made.entry ≡ OfItem item
  pub same : s ≡ shown_by made.last (verdict_of plan records place item)
