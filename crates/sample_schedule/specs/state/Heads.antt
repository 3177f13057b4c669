-- Only private functions and proofs use these definitions. The packets that have a head.
use Rattle.std.specs.Prelude.{◌≡◌, ◌≤◌, List, Option, IfSome}
use Rattle.time_unfold.specs.declared.head_rule.Distance.{Distance}
use Rattle.time_unfold.specs.declared.head_rule.Head.{Head}
use Rattle.time_unfold.specs.declared.stamp.Stamp.{Stamp}
use Rattle.time_unfold.specs.declared.stamp.Want.{Want}
use Rattle.time_unfold.specs.Limits.{IsStamp, IsWant}
use Rattle.sample_schedule.specs.declared.entry.Entry.{Entry}
use Rattle.sample_schedule.specs.declared.entry.Entry.TheVariants.{Item as OfItem}
use Rattle.sample_schedule.specs.declared.item.Item.{Item}
use Rattle.sample_schedule.specs.declared.item.Packet.{Packet}
use Rattle.sample_schedule.specs.declared.noted.Noted.{Noted}
use Rattle.sample_schedule.specs.declared.plan.SchedulePlan.{SchedulePlan}
use Rattle.sample_schedule.specs.Heads.{stamp_of, want_of}
use Rattle.sample_schedule.specs.Limits.{IsPacket, IsPlan}
use Rattle.sample_schedule.specs.Noted.{HasNoted}
use Rattle.sample_schedule.specs.Reach.{IsCountable}

-- the packet is within the limits of the format, and has samples and a rate
pub record HasSamples (p : Packet) : Type 0 where
  pub packet : IsPacket p
  pub rate : 1 ≤ p.rate
  pub some : 1 ≤ p.count

-- the plan is within its limits, and the packet has samples and a rate
pub record CanHaveHead (asked : SchedulePlan) (p : Packet) : Type 0 where
  pub plan : IsPlan asked
  pub samples : HasSamples p

-- the stamp is the one that is noted for the item, and is within the limits of stamps
pub record IsStampOf (item : Item) (usable : Option Stamp) : Type 0 where
  pub value : usable ≡ stamp_of (OfItem item)
  pub stamp : IfSome usable IsStamp

-- the stamp to look for is the one that the packet needs, and is within the limits of such stamps
pub record IsWantOf (plan : SchedulePlan) (p : Packet) (far : Distance) (sought : Want) : Type 0 where
  pub value : sought ≡ want_of plan p far
  pub want : IsWant sought

-- `head` is what `of` gives for the entries from which `noted` was noted, and samples can be counted from `head`
pub record IsHead (plan : SchedulePlan) (noted : Noted) (of : List Entry → Option Head) (head : Option Head) : Type 0 where
  pub value : (prefix : List Entry) → HasNoted plan prefix noted → head ≡ of prefix
  pub countable : IfSome head IsCountable

-- the packet has samples and a rate, and its samples can be counted from the head
pub record CanCount (p : Packet) (head : Head) : Type 0 where
  pub samples : HasSamples p
  pub countable : IsCountable head
