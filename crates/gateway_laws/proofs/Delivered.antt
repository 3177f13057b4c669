-- A listener gets one packet from each frame of a gateway. The packet carries the same piece as the frame.
use Rattle.std.proofs.Common.{◌≡◌, ℕ, suc, ◌+◌, ◌%◌, ◌^◌, ◌<◌, false, List, [], ◌∷◌, All, map, filter, Option, None, refl, ap, subst, ◌∙◌, arith}
use Rattle.std.specs.List.{AllByRecursion, enumerate_from}
use Rattle.std.proofs.lemmas.List.Elements.{All-cons, All-nil}
use Rattle.avtp_base.specs.declared.refusal.Refusal.{Refusal}
use Rattle.aaf_format.specs.Aaf.{Aaf as AafPacket, aaf_of, aaf_refusal}
use Rattle.iec61883_format.specs.Iec.{Iec, iec_of, iec_refusal}
use Rattle.clock_track.specs.Rows.{clock_spot}
use Rattle.pcap_frames.specs.Capture.{Record}
use Rattle.packet_journal.specs.Deliveries.{Delivery, deliveries, delivery, is_delivered}
use Rattle.sample_schedule.specs.declared.accepted.Accepted.{Accepted}
use Rattle.sample_schedule.specs.declared.entry.Entry.{Entry}
use Rattle.sample_schedule.specs.declared.entry.Entry.TheVariants.{Item as OfItem}
use Rattle.sample_schedule.specs.declared.item.Item.TheVariants.{Packet as OfPacket}
use Rattle.sample_schedule.specs.Laws.{presented}
use Rattle.sample_schedule.specs.Schedule.{given, shown}
use Rattle.talker.specs.Frames.{record_of}
use Rattle.listener.specs.declared.plan.ListenPlan.{ListenPlan}
use Rattle.listener.specs.Heard.{entries_in, schedule_plan, shown_of}
use Rattle.listener.specs.Items.{aaf_item, blocks_of, entries, entry_of, iec_item, item_of, made_entry, made_of_one, refused_or, samples_of}
use Rattle.listener.specs.Laws.{presented_of}
use Rattle.listener.proofs.Made.{IsOther, items_other}
use Rattle.listener.proofs.TrueList.{batches_are}
use Rattle.am824_gateway.specs.declared.scan.Shape.{Shape}
use Rattle.am824_gateway.specs.declared.scan.To.{To}
use Rattle.am824_gateway.specs.declared.scan.To.TheVariants.{Aaf, Am824}
use Rattle.am824_gateway.specs.Laws.{Cut, cut_frame}
use Rattle.am824_gateway.specs.Scan.{IsShape}
use Rattle.gateway_laws.specs.Heard.{packet_heard, packets_heard}
use Rattle.gateway_laws.specs.InOrder.{IsNotFull}
use Rattle.gateway_laws.specs.Kept.{Hears}
use Rattle.gateway_laws.specs.Noted.{subtype_to}
use Rattle.gateway_laws.specs.Stamped.{packet_entries}
use Rattle.gateway_laws.proofs.Read.{IsCarried, aaf_read, belongs_so, cut_aaf, cut_am824, iec_read, is_named, is_pcm_rate, of_stream}

-- ---- one delivery

-- the delivery of the frame that carries piece c; this frame is record number `frame`
abbrev delivered : To → Shape → ℕ → ℕ → Cut → Delivery
delivered to shape id frame c = delivery frame (record_of (cut_frame to shape id c))

aaf_is : (d : Delivery) (packet : List ℕ) (v : AafPacket) → d.packet ≡ packet → aaf_refusal packet ≡ None → aaf_of packet ≡ v → aaf_item d ≡ samples_of d v
aaf_is d packet v there accepted is =
    ap (λ (p : List ℕ). refused_or d (aaf_refusal p) (samples_of d (aaf_of p))) there
    ∙ (ap (λ (o : Option Refusal). refused_or d o (samples_of d (aaf_of packet))) accepted ∙ ap (λ (w : AafPacket). samples_of d w) is)

iec_is : (d : Delivery) (packet : List ℕ) (v : Iec) → d.packet ≡ packet → iec_refusal packet ≡ None → iec_of packet ≡ v → iec_item d ≡ blocks_of d v
iec_is d packet v there accepted is =
    ap (λ (p : List ℕ). refused_or d (iec_refusal p) (blocks_of d (iec_of p))) there
    ∙ (ap (λ (o : Option Refusal). refused_or d o (blocks_of d (iec_of packet))) accepted ∙ ap (λ (w : Iec). blocks_of d w) is)

of_kind : (to : To) (d : Delivery) → d.subtype ≡ subtype_to to → entry_of d ≡ OfItem (item_of d)
of_kind Am824 d kind = rw kind refl
of_kind Aaf d kind = rw kind refl

other_kind : (to : To) (d : Delivery) → d.subtype ≡ subtype_to to → IsOther d
other_kind Am824 d kind = rw kind refl
other_kind Aaf d kind = rw kind refl

pcm_item : (d : Delivery) → d.subtype ≡ subtype_to Aaf → item_of d ≡ aaf_item d
pcm_item d kind = rw kind refl

block_item : (d : Delivery) → d.subtype ≡ subtype_to Am824 → item_of d ≡ iec_item d
block_item d kind = rw kind refl

item_is : (to : To) (shape : Shape) (id frame : ℕ) (c : Cut) → IsShape shape → id < 2 ^ 64 → IsCarried to shape c → item_of (delivered to shape id frame c) ≡ OfPacket (packet_heard to shape frame c)
item_is Aaf shape id frame c is small fine =
    let read = aaf_read shape id c is small fine in
    let seen = of_stream Aaf shape id c is small fine in
    let rate = (is_pcm_rate shape is).named in
    pcm_item (delivered Aaf shape id frame c) seen.kind
    ∙ (aaf_is (delivered Aaf shape id frame c) _ (cut_aaf shape id c) read.holds.packet_is read.accepted read.is ∙ rw (seen.seq_is, rate) refl)
item_is Am824 shape id frame c is small fine =
    let read = iec_read shape id c is small fine in
    let seen = of_stream Am824 shape id c is small fine in
    let rate = is_named shape is in
    block_item (delivered Am824 shape id frame c) seen.kind
    ∙ (iec_is (delivered Am824 shape id frame c) _ (cut_am824 shape id c) read.holds.packet_is read.accepted read.is ∙ rw (seen.seq_is, rate.named, rate.interval) refl)

-- ---- all deliveries

-- the deliveries of the frames of all pieces; the first frame is record number `frame`
abbrev all_delivered : To → Shape → ℕ → ℕ → List Cut → List Delivery
all_delivered to shape id frame [] = []
all_delivered to shape id frame (c ∷ cs) = delivered to shape id frame c ∷ all_delivered to shape id (suc frame) cs

none_passed : (to : To) (shape : Shape) (id frame : ℕ) (cs : List Cut) → IsShape shape → id < 2 ^ 64 → AllByRecursion (IsCarried to shape) cs
    → map (λ (x : ℕ × Record). delivery x.0 x.1) (filter (λ (x : ℕ × Record). is_delivered id None x.1.bytes) (enumerate_from frame (map record_of (map (cut_frame to shape id) cs)))) ≡ all_delivered to shape id frame cs
none_passed to shape id frame [] is small all = refl
none_passed to shape id frame (c ∷ cs) is small all =
    let here = belongs_so to id (c.number % 256) (cut_frame to shape id c).bytes (of_stream to shape id c is small all.0) in
    let next : frame + 1 ≡ suc frame = omega arith in
    let rest = none_passed to shape id (suc frame) cs is small all.1 in
    rw (here, next) (ap (λ (l : List Delivery). delivered to shape id frame c ∷ l) rest)

are_other : (to : To) (shape : Shape) (id frame : ℕ) (cs : List Cut) → IsShape shape → id < 2 ^ 64 → AllByRecursion (IsCarried to shape) cs → All IsOther (all_delivered to shape id frame cs)
are_other to shape id frame [] is small all = All-nil IsOther
are_other to shape id frame (c ∷ cs) is small all =
    All-cons IsOther (delivered to shape id frame c) (all_delivered to shape id (suc frame) cs) (other_kind to (delivered to shape id frame c) (of_stream to shape id c is small all.0).kind)
    (are_other to shape id (suc frame) cs is small all.1)

one_each : (to : To) (shape : Shape) (id frame : ℕ) (cs : List Cut) → IsShape shape → id < 2 ^ 64 → AllByRecursion (IsCarried to shape) cs
    → map made_entry (map made_of_one (all_delivered to shape id frame cs)) ≡ packet_entries (packets_heard to shape frame cs)
one_each to shape id frame [] is small all = refl
one_each to shape id frame (c ∷ cs) is small all =
    let d = delivered to shape id frame c in
    let entry = of_kind to d (of_stream to shape id c is small all.0).kind ∙ ap OfItem (item_is to shape id frame c is small all.0) in
    let rest = one_each to shape id (suc frame) cs is small all.1 in
    rw (entry, rest) refl

pub entries_are : (to : To) (shape : Shape) (id : ℕ) (cs : List Cut) → IsShape shape → id < 2 ^ 64 → AllByRecursion (IsCarried to shape) cs
    → entries (deliveries id None (map record_of (map (cut_frame to shape id) cs))) ≡ packet_entries (packets_heard to shape 1 cs)
entries_are to shape id cs is small all =
    let ds : List Delivery = all_delivered to shape id 1 cs in
    ap entries (none_passed to shape id 1 cs is small all)
    ∙ (ap (map made_entry) (items_other ds (are_other to shape id 1 cs is small all)) ∙ one_each to shape id 1 cs is small all)

-- ---- what is presented

-- The listener has no clock, the entries of its schedule are `entries`, and its buffer is never full.
pub record IsSchedule (plan : ListenPlan) (records : List Record) (entries : List Entry) : Type 0 where
  pub without : (schedule_plan plan).clock ≡ false
  pub entries_is : entries_in plan records ≡ entries
  pub room : AllByRecursion IsNotFull (shown clock_spot (schedule_plan plan) entries)
  pub batches : presented_of (shown_of plan records) ≡ map (λ (a : Accepted). a.batch) (presented (given clock_spot (schedule_plan plan) entries))

schedule_by : (id : ℕ) (plan : ListenPlan) (records : List Record) (es : List Entry) → Hears id plan records → entries (deliveries id None records) ≡ es → IsSchedule plan records es
schedule_by id plan records es hears same =
    let here : entries_in plan records ≡ es = rw (hears.stream, hears.clock) same in
    record {
      without = rw (hears.clock) refl;
      entries_is = here;
      room = subst (λ (l : List Entry). AllByRecursion IsNotFull (shown clock_spot (schedule_plan plan) l)) here hears.room;
      batches = batches_are (given clock_spot (schedule_plan plan) (entries_in plan records)) ∙ ap (λ (l : List Entry). map (λ (a : Accepted). a.batch) (presented (given clock_spot (schedule_plan plan) l))) here;
    }

pub is_schedule : (to : To) (shape : Shape) (id : ℕ) (cs : List Cut) (plan : ListenPlan) → IsShape shape → id < 2 ^ 64 → AllByRecursion (IsCarried to shape) cs
    → Hears id plan (map record_of (map (cut_frame to shape id) cs)) → IsSchedule plan (map record_of (map (cut_frame to shape id) cs)) (packet_entries (packets_heard to shape 1 cs))
is_schedule to shape id cs plan is small all hears = schedule_by id plan (map record_of (map (cut_frame to shape id) cs)) (packet_entries (packets_heard to shape 1 cs)) hears (entries_are to shape id cs is small all)

pub no_entries : (id : ℕ) → entries (deliveries id None []) ≡ packet_entries []
no_entries id = ap (map made_entry) (items_other [] (All-nil IsOther))

-- if there are no records, the schedule has no entries
pub empty_schedule : (id : ℕ) (plan : ListenPlan) → Hears id plan [] → IsSchedule plan [] (packet_entries [])
empty_schedule id plan hears = schedule_by id plan [] [] hears (no_entries id)
