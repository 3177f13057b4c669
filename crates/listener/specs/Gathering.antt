-- The units of a stream between two deliveries, and the items that are queued for the judge.
use Rattle.std.specs.Prelude.{ℕ, List, ◌++◌, drop, map, Option}
use Rattle.std.specs.Option.{option_to_list}
use Rattle.cvf_format.specs.Assembly.{Assembly, StandsFor}
use Rattle.cvf_format.specs.declared.piece.Lost.{Lost as LostFor}
use Rattle.cvf_format.specs.declared.piece.Mark.{Mark}
use Rattle.cvf_format.specs.WholeOrBroken.{reason}
use Rattle.sample_schedule.specs.declared.entry.Entry.{Entry}
use Rattle.sample_schedule.specs.declared.entry.Entry.TheVariants.{Item as OfItem}
use Rattle.sample_schedule.specs.declared.item.Item.{Item}
use Rattle.sample_schedule.specs.declared.item.Item.TheVariants.{Bad as OfBad}
use Rattle.sample_schedule.specs.declared.shown.Reason.{Reason}
use Rattle.packet_journal.specs.Deliveries.{Delivery}
use Rattle.listener.specs.Items.{lost_for}
use Rattle.listener.specs.Units.{events}

-- The state of a stream's units. `assembly` holds the fragments of the current unit, and the fragments that were given
-- up most recently. `why` tells why the most recent fragments were given up, and `taken` tells how many of them the
-- judge has taken. `own` is the last delivery's own item.
pub record Gathered : Type 0 where
  pub assembly : Assembly
  pub why : LostFor
  pub taken : ℕ
  pub own : Option Item

-- the item of a packet that is not presented
abbrev pub lost_item : Reason → Mark → Item
lost_item reason mark = OfBad (record { frame = mark.frame; arrival = mark.arrival; seq = mark.seq; reason = reason })

-- the entry of an item in a schedule
abbrev pub item_entry : Item → Entry
item_entry item = OfItem item

-- the items that the last delivery yields, without those that were already taken
abbrev pub left : Gathered → List Item
left u = map (lost_item (lost_for u.why)) (drop u.taken u.assembly.lost) ++ option_to_list u.own

-- The units are those of the deliveries `ds`. The assembly holds the fragments of the current, incomplete unit.
pub record HasUnits (ds : List Delivery) (u : Gathered) : Type 0 where
  pub assembly : StandsFor u.assembly (events ds)
