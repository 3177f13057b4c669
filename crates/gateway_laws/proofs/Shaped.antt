-- If a stream has no fault, each presented batch of the stream has the stream's shape.
use Rattle.std.proofs.Common.{◌≡◌, ◌*◌, Bool, true, false, List, length, map, Option, Some, None, Ok, refl, sym, ap, subst, ◌∙◌, eq-eqb, arith}
use Rattle.std.specs.Prelude.{◌==◌, ◌≢◌, if◌then◌else◌, not, slice_get}
use Rattle.std.specs.List.{AllByRecursion, list_any}
use Rattle.std.proofs.lemmas.Bool.Decides.{nat_tests}
use Rattle.pcap_frames.specs.Capture.{Record}
use Rattle.sample_schedule.specs.declared.entry.Entry.{Entry}
use Rattle.sample_schedule.specs.declared.entry.Entry.TheVariants.{Item as OfItem}
use Rattle.sample_schedule.specs.declared.item.Item.{Item}
use Rattle.sample_schedule.specs.declared.item.Item.TheVariants.{Packet as OfPacket, Unit as OfUnit, Bad as OfBad}
use Rattle.sample_schedule.specs.declared.item.Packet.{Packet}
use Rattle.sample_schedule.specs.declared.plan.SchedulePlan.{SchedulePlan}
use Rattle.sample_schedule.specs.Batches.{Presented, is_unit}
use Rattle.sample_schedule.specs.Schedule.{prefix_of}
use Rattle.sample_schedule.specs.Verdicts.{timed}
use Rattle.clock_track.specs.Rows.{clock_spot}
use Rattle.listener.specs.declared.plan.ListenPlan.{ListenPlan}
use Rattle.listener.specs.Heard.{deliveries_of, due_of, entries_in, items_in, schedule_plan, shown_of}
use Rattle.listener.specs.Items.{MadeItem, made_entry}
use Rattle.listener.specs.Laws.{presented_of}
use Rattle.listener.proofs.Made.{items_other}
use Rattle.am824_gateway.specs.declared.scan.Shape.{Shape}
use Rattle.am824_gateway.specs.declared.scan.To.{To}
use Rattle.am824_gateway.specs.declared.skip.Skip.TheVariants.{ShapeOff, Overlap, Range}
use Rattle.am824_gateway.specs.Labels.{value_in}
use Rattle.am824_gateway.specs.Pieces.{Given, has_labels, has_shape, is_late, overlaps, pieces_of, skip_of}
use Rattle.am824_gateway.specs.Scan.{first_fault, shape_in}
use Rattle.am824_gateway.proofs.Shaped.{HasValues, IsShapely, all_fine, all_other, fine_deliveries, shapely_at}
use Rattle.gateway_laws.specs.Shaped.{IsShapedAs}
use Rattle.gateway_laws.proofs.Accepted.{HoldsOfItems, due_all, presented_all}
use Rattle.gateway_laws.proofs.Timely.{HasRate, IsOfPacket, all_rated, of_packet, rate_at}

-- ---- what is presented

no_unit : (p : Packet) (batch : Presented) → IsOfPacket p batch → is_unit batch ≡ false
no_unit p batch is =
    let some = is.slow.some in
    let least = is.slow.least in
    let many : (is.spot.line.num == 1) ≡ false = grind (arith, nat_tests) in
    rw (is.is, many) refl

of_values : (to : To) (shape : Option Shape) (p : Packet) (batch : Presented) → IsOfPacket p batch → HasValues to shape p → IsShapedAs to shape batch
of_values to shape p batch is has = subst (λ (o : Option Shape). IsShapedAs to o batch) (sym has.is) (shaped (no_unit p batch is))
  where
    same_size : length batch.bytes ≡ batch.count * (value_in to * has.found.channels)
    same_size = rw (is.is) has.size

    same_labels : has_labels to batch.bytes ≡ true
    same_labels = rw (is.is) has.labels

    shaped : is_unit batch ≡ false → has_shape to has.found batch ≡ true
    shaped none =
        let size : (length batch.bytes == batch.count * (value_in to * has.found.channels)) ≡ true = eq-eqb (length batch.bytes) (batch.count * (value_in to * has.found.channels)) same_size in
        rw (none, size, same_labels) refl

item_shaped : (to : To) (shape : Option Shape) (plan : SchedulePlan) (prefix : List Entry) (item : Item) (batch : Presented) → HasRate (OfItem item) → IsShapely to shape (OfItem item) → timed clock_spot plan prefix item ≡ Ok batch → IsShapedAs to shape batch
unfolding timed
item_shaped to shape plan prefix (OfBad b) batch rate fine e = absurd cc
item_shaped to shape plan prefix (OfUnit u) batch rate fine e = absurd fine
item_shaped to shape plan prefix (OfPacket p) batch rate fine e =
    let is = of_packet plan prefix p batch rate e in
    of_values to shape p batch is (fine is.some is.some_rate)

shaped_items : (to : To) (plan : ListenPlan) (records : List Record) → first_fault to plan.stream records ≡ None → HoldsOfItems (schedule_plan plan) (entries_in plan records) (IsShapedAs to (shape_in plan.stream records))
shaped_items to plan records none i item batch there e early =
    let shape : Option Shape = shape_in plan.stream records in
    let ds = deliveries_of plan records in
    let fine = fine_deliveries to shape plan.stream plan.clock 1 records (all_fine to plan.stream None 1 records none) in
    let items = items_other ds (all_other to shape ds fine) in
    let rate = rate_at (items_in plan records) i (OfItem item) (all_rated ds) there in
    let shapely = shapely_at to shape ds i (OfItem item) fine (sym (ap (λ (ms : List MadeItem). slice_get (map made_entry ms) i) items) ∙ there) in
    item_shaped to shape (schedule_plan plan) (prefix_of (schedule_plan plan) (entries_in plan records) i) item batch rate shapely e

pub shown_shaped : (to : To) (plan : ListenPlan) (records : List Record) → first_fault to plan.stream records ≡ None → AllByRecursion (IsShapedAs to (shape_in plan.stream records)) (presented_of (shown_of plan records))
shown_shaped to plan records none = presented_all (IsShapedAs to (shape_in plan.stream records)) plan records (shaped_items to plan records none)

pub due_shaped : (to : To) (plan : ListenPlan) (records : List Record) → first_fault to plan.stream records ≡ None → AllByRecursion (IsShapedAs to (shape_in plan.stream records)) (presented_of (due_of plan records))
due_shaped to plan records none = due_all (IsShapedAs to (shape_in plan.stream records)) plan records (shown_shaped to plan records none)

-- a batch that has the stream's shape is not skipped as `ShapeOff`
pub not_shape_off : (to : To) (shape : Option Shape) (given : Given) (batch : Presented) → IsShapedAs to shape batch → skip_of to shape given batch ≢ Some ShapeOff
not_shape_off to None given batch is e = absurd is
not_shape_off to (Some shape) given batch is e = by (has_shape to shape batch) is (overlaps given.last batch) (list_any (is_late batch) (pieces_of to shape batch given.block)) e
  where
    by : (a : Bool) → a ≡ true → (b c : Bool) → (if not a then Some ShapeOff else if b then Some Overlap else if c then Some Range else None) ≡ Some ShapeOff → ⊥
    by false f b c h = absurd cc
    by true f true c h = absurd cc
    by true f false true h = absurd cc
    by true f false false h = absurd cc
