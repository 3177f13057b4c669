-- What a listener shows of a talker that keeps the rules, whatever packets a capture loses, repeats or reorders.
use Rattle.std.specs.Prelude.{◌≡◌, ◌≤◌, ℕ, ℤ, List, [], ◌∷◌, length, All, AllPairs, Any, slice_get, Some}
use Rattle.clock_track.specs.Rows.{clock_spot}
use Rattle.pcap_frames.specs.Capture.{Record}
use Rattle.sample_schedule.specs.declared.entry.Entry.TheVariants.{Item as OfItem}
use Rattle.sample_schedule.specs.declared.item.Item.{Item}
use Rattle.sample_schedule.specs.declared.shown.Reason.TheVariants.{Repeat}
use Rattle.sample_schedule.specs.declared.shown.Shown.{Shown}
use Rattle.sample_schedule.specs.declared.shown.Shown.TheVariants.{Flag}
use Rattle.sample_schedule.specs.Laws.{waiting_at}
use Rattle.sample_schedule.specs.Verdicts.{total_bytes}
use Rattle.packet_journal.specs.Packets.{PacketJournal}
use Rattle.listener.specs.declared.plan.ListenPlan.{ListenPlan}
use Rattle.listener.specs.Heard.{deliveries_of, entries_in, items_in, schedule_plan, shown_of}
use Rattle.listener.specs.Items.{MadeItem}
use Rattle.listener.specs.Laws.{Agree, AreOther, HearsTalker, IsFurther, IsHeardFrom, IsInOneItem, IsPresentedOf, IsShownItem, IsWelcome, ComesBefore, by_clock, presented_of, shown_by, shown_of_frame, verdict_of}

-- The headline holds for what is shown of the records of a capture.
pub record KeepsHeadline (shift : ℤ) (p : PacketJournal) (plan : ListenPlan) (records : List Record) (shown : List Shown) : Type 0 where
  -- Each presented batch is the packet that the batch's item was made of. The batch has that packet's bytes. Each
  -- sample of the batch is at the talker's own nanosecond.
  pub genuine : All (IsHeardFrom (by_clock plan) (items_in plan records) p plan.lead) (presented_of shown)
  -- no packet is presented twice
  pub once : AllPairs (AreOther (by_clock plan) p) (presented_of shown)
  -- first instants never decrease, and batches with equal first instants are in the order of the items
  pub in_order : AllPairs ComesBefore (presented_of shown)
  -- Suppose that an item's timestamp or clock reference is known, that the item came in time, that the buffer had room
  -- for the item, and that no copy of its packet was accepted before. Under these four conditions, the item is
  -- presented.
  pub known : (place n : ℕ) (made : MadeItem) → IsWelcome p plan records place n made → Any (IsPresentedOf (by_clock plan) p n made) (presented_of shown)
  -- If a copy of a packet was accepted, a further copy is flagged as a repeat. The further copy must have come in time,
  -- and its timestamp or clock reference must be known.
  pub repeats : (place n : ℕ) (made : MadeItem) → IsFurther p plan records place n made → shown_of_frame made.last.frame shown ≡ Flag made.last.frame made.last.seq Repeat ∷ []
  -- each delivery of the stream, and each delivery of its clock, is in exactly one item
  pub each_made : All (IsInOneItem (items_in plan records)) (deliveries_of plan records)
  -- each item of the stream is shown once: it is presented, or flagged with the reason of its verdict
  pub each_shown : (place : ℕ) (made : MadeItem) (item : Item) → slice_get (items_in plan records) place ≡ Some made → made.entry ≡ OfItem item
      → shown_of_frame made.last.frame shown ≡ shown_by made.last (verdict_of plan records place item) ∷ []
  -- nothing else is shown
  pub no_other : All (IsShownItem plan records) shown
  -- Suppose that another listener hears the talker, and that either both listeners use the talker's clock or neither
  -- does. Then the two listeners agree: if both present a packet, its bytes are the same in both, and each of its
  -- samples is at the same nanosecond in both.
  pub agrees : (other : ListenPlan) (others : List Record) → HearsTalker shift p other others → by_clock other ≡ by_clock plan → All (λ a. All (Agree (by_clock plan) p a) (presented_of (shown_of other others))) (presented_of shown)
  -- whenever an item is judged, at most `buffer` batches wait, and they have at most `room` bytes together
  pub buffer : (place : ℕ) → length (waiting_at clock_spot (schedule_plan plan) (entries_in plan records) place) ≤ plan.buffer
  pub room : (place : ℕ) → total_bytes (waiting_at clock_spot (schedule_plan plan) (entries_in plan records) place) ≤ plan.room
