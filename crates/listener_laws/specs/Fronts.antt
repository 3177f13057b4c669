-- What a listener shows of a capture that begins with a talker's records.
use Rattle.std.specs.Prelude.{◌≡◌, ◌+◌, ◌<◌, ℕ, List, [], ◌∷◌, ◌++◌, length, All, AllPairs, Any, slice_get, Some}
use mathlib.Core.List.{IsPrefix}
use Rattle.pcap_frames.specs.Capture.{Record}
use Rattle.packet_journal.specs.Packets.{PacketJournal}
use Rattle.sample_schedule.specs.declared.entry.Entry.TheVariants.{Item as OfItem}
use Rattle.sample_schedule.specs.declared.item.Item.{Item}
use Rattle.sample_schedule.specs.declared.shown.Reason.TheVariants.{Repeat}
use Rattle.sample_schedule.specs.declared.shown.Shown.TheVariants.{Flag}
use Rattle.listener.specs.declared.plan.ListenPlan.{ListenPlan}
use Rattle.listener.specs.Heard.{deliveries_of, due_of, items_in, shown_of}
use Rattle.listener.specs.Items.{MadeItem, items_so_far}
use Rattle.listener.specs.Laws.{AreOther, ComesBefore, IsFurther, IsHeardFrom, IsPresentedOf, IsWelcome, by_clock, presented_of, shown_by, shown_of_frame, verdict_of}

-- the item at index `place` is judged once these records are read: at least `look` items follow that item
abbrev pub IsSettled : ListenPlan → List Record → ℕ → Type 0
IsSettled plan records place = place + plan.look < length (items_so_far (deliveries_of plan records))

-- Whatever records follow, the due items of the first records are a prefix of what is shown. The due items keep three
-- promises of the law `headline_holds`. The item of each batch was made of a packet of the talker, and the batch has
-- the bytes and the instants of that packet. No packet is presented twice, and first instants never decrease.
--
-- The last three fields are about the items that are judged once the first records are read. An item that must be
-- presented is presented, a further copy is flagged as a repeat, and each item is shown once, as its verdict says.
pub record IsTrueFront (p : PacketJournal) (plan : ListenPlan) (records others : List Record) : Type 0 where
  pub begins : IsPrefix (due_of plan records) (shown_of plan (records ++ others))
  pub genuine : All (IsHeardFrom (by_clock plan) (items_in plan records) p plan.lead) (presented_of (due_of plan records))
  pub once : AllPairs (AreOther (by_clock plan) p) (presented_of (due_of plan records))
  pub in_order : AllPairs ComesBefore (presented_of (due_of plan records))
  pub known : (place n : ℕ) (made : MadeItem) → IsSettled plan records place → IsWelcome p plan records place n made
      → Any (IsPresentedOf (by_clock plan) p n made) (presented_of (shown_of plan (records ++ others)))
  pub repeats : (place n : ℕ) (made : MadeItem) → IsSettled plan records place → IsFurther p plan records place n made
      → shown_of_frame made.last.frame (shown_of plan (records ++ others)) ≡ Flag made.last.frame made.last.seq Repeat ∷ []
  pub each_shown : (place : ℕ) (made : MadeItem) (item : Item) → IsSettled plan records place → slice_get (items_in plan records) place ≡ Some made → made.entry ≡ OfItem item
      → shown_of_frame made.last.frame (shown_of plan (records ++ others)) ≡ shown_by made.last (verdict_of plan records place item) ∷ []
