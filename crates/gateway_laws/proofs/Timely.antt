-- Each presented batch begins at 0 or later, and the instants of the batch rise.
use Rattle.std.proofs.Common.{◌≡◌, ℕ, zero, suc, ◌*◌, ◌≤◌, Bool, true, false, ℤ, pos, ◌+ℤ◌, ◌*ℤ◌, ◌≤ℤ◌, ◌<ℤ◌, List, [], ◌∷◌, All, ap, inl, inr, map, take, Option, Some, None, Ok, Err, refl, sym, subst, ◌∙◌, arith}
use Rattle.std.specs.Prelude.{⊤, ◌==◌, if◌then◌else◌, fold, option_map, slice_get, unwrap_or}
use Rattle.std.specs.Int.{int_max}
use Rattle.std.specs.List.{AllByRecursion, filter_map}
use Rattle.std.specs.Option.{option_or}
use Rattle.std.proofs.Math.Nat.{mul-le-mul_left, mul-le-mul_right}
use Rattle.std.proofs.lemmas.Bool.{cases_lt, eqb-true}
use Rattle.std.proofs.lemmas.Bool.Decides.{nat_tests}
use Rattle.std.proofs.lemmas.Int.{ints, by_lt_z, int_max_is}
use Rattle.std.proofs.lemmas.List.Elements.{All-cons, All-head, All-nil, All-tail}
use Rattle.avtp_base.specs.declared.refusal.Refusal.{Refusal}
use Rattle.aaf_format.specs.Aaf.{aaf_of, aaf_refusal, aaf_subtype, rate_of}
use Rattle.crf_format.specs.Crf.{crf_subtype}
use Rattle.iec61883_format.specs.Iec.{iec_of, iec_refusal, rate_of_fdf}
use Rattle.time_unfold.specs.declared.head_rule.Head.{Head}
use Rattle.time_unfold.specs.declared.line.Line.{Line}
use Rattle.time_unfold.specs.Lines.{floor_of, instant_at}
use Rattle.time_unfold.specs.Stamps.{find_last}
use Rattle.time_unfold.proofs.Floors.{floor_above, floor_below, one_more, times_more}
use Rattle.clock_track.specs.declared.clock_row.ClockRow.{ClockRow}
use Rattle.clock_track.specs.declared.pair.Pair.{Pair}
use Rattle.clock_track.specs.PairLines.{Covers, IsJoined, Spot, covers, period, spot_by, step_den, step_num}
use Rattle.clock_track.specs.Rows.{clock_spot, joined_pairs, latest as latest_pair, window}
use Rattle.clock_track.proofs.Latest.{all_joined}
use Rattle.clock_track.proofs.Pairs.{covers_so}
use Rattle.pcap_frames.specs.Capture.{Record}
use Rattle.packet_journal.specs.Deliveries.{Delivery}
use Rattle.sample_schedule.specs.declared.entry.Entry.{Entry}
use Rattle.sample_schedule.specs.declared.entry.Entry.TheVariants.{Item as OfItem, Clock as OfClock}
use Rattle.sample_schedule.specs.declared.item.Item.{Item}
use Rattle.sample_schedule.specs.declared.item.Item.TheVariants.{Packet as OfPacket, Unit as OfUnit, Bad as OfBad}
use Rattle.sample_schedule.specs.declared.item.Packet.{Packet}
use Rattle.sample_schedule.specs.declared.plan.SchedulePlan.{SchedulePlan}
use Rattle.sample_schedule.specs.declared.shown.Reason.TheVariants.{Uncertain, Empty, NoRate, NoClock}
use Rattle.sample_schedule.specs.Batches.{Presented, sample_instant}
use Rattle.sample_schedule.specs.Heads.{head_of}
use Rattle.sample_schedule.specs.Schedule.{arrival_of, latest, now_at, prefix_of}
use Rattle.sample_schedule.specs.Verdicts.{counted_from, first_instant, moved, nominal_spot, ok_or_reason, row_of, samples_at, spot_of, timed}
use Rattle.listener.specs.declared.plan.ListenPlan.{ListenPlan}
use Rattle.listener.specs.Heard.{deliveries_of, due_of, entries_in, items_in, schedule_plan, shown_of}
use Rattle.listener.specs.Laws.{presented_of}
use Rattle.listener.specs.Items.{MadeItem, blocks_of, clock_row, entry_of, item_of, items_of, made_entry, refused_or, samples_of}
use Rattle.listener.proofs.Made.{items_all}
use Rattle.am824_gateway.specs.Laws.{HasRisingInstants}
use Rattle.gateway_laws.proofs.Accepted.{HoldsOfItems, due_all, presented_all}
use Rattle.gateway_laws.specs.Heard.{BeginsInTime}

-- ---- lines

-- The samples of a line are at least two nanoseconds apart.
pub record IsSlow (line : Line) : Type 0 where
  pub some : 1 ≤ line.den
  pub least : 2 * line.den ≤ line.num

next_later : (line : Line) (k : ℤ) → IsSlow line → instant_at line k <ℤ instant_at line (k +ℤ pos 1)
next_later line k is =
    let q = floor_of (k *ℤ pos line.num) line.den in
    let r = floor_of ((k +ℤ pos 1) *ℤ pos line.num) line.den in
    let low = floor_below (k *ℤ pos line.num) line.den is.some in
    let high = floor_above ((k +ℤ pos 1) *ℤ pos line.num) line.den is.some in
    let step = one_more k line.num in
    let least = is.least in
    by_lt_z q r
    (λ h. omega (arith, ints, h))
    (λ h.
    let below = times_more (r +ℤ pos 1) (q +ℤ pos 1) line.den (omega (arith, ints, h)) in
    let whole = one_more q line.den in
    absurd (omega (arith, ints, low, high, step, least, below, whole)))

slow_rises : (batch : Presented) → IsSlow batch.line → (j : ℕ) → sample_instant batch j <ℤ sample_instant batch (suc j)
slow_rises batch is j =
    let next : batch.from +ℤ pos (suc j) ≡ (batch.from +ℤ pos j) +ℤ pos 1 = omega (arith, ints) in
    rw next (next_later batch.line (batch.from +ℤ pos j) is)

-- ---- lines of a clock

some_interval : (p : Pair) (rate : ℕ) (instant : ℤ) → Covers p rate instant → 1 ≤ step_den p rate
some_interval p rate instant is = by (step_den p rate) refl
  where
    by : (n : ℕ) → step_den p rate ≡ n → 1 ≤ n
    by (suc n) e = omega arith
    by zero e =
        let from = is.from in
        let to = is.to in
        let none : 2 * (period p * step_den p rate) ≡ 0 = rw e (omega arith) in
        absurd (omega (arith, ints, from, to, none))

-- samples on a pair's line are at least two nanoseconds apart
other_slow : (p : Pair) (rate : ℕ) → rate ≤ 192000 → IsJoined p → 2 * step_den p rate ≤ step_num p
other_slow p rate few is =
    let most = mul-le-mul_left (p.interval * p.down) few in
    let least = is.least in
    omega (arith, most, least)

own_slow : (p : Pair) (rate : ℕ) → rate ≤ 192000 → 1 ≤ step_den p rate → p.up ≡ rate * p.down → IsJoined p → (1 ≤ p.interval) × (2 * p.interval ≤ period p)
own_slow p rate few some e is = (positive p.interval refl, by)
  where
    positive : (n : ℕ) → p.interval ≡ n → 1 ≤ n
    positive (suc n) f = omega arith
    positive zero f = (let none : step_den p rate ≡ 0 = rw f (omega arith) in absurd (omega (arith, some, none)))

    by : 2 * p.interval ≤ period p
    by = elim (cases_lt (period p) (2 * p.interval)) [
      | inr not_less ↦ omega (arith, not_less)
      | inl less ↦
          let least = is.least in
          let a = mul-le-mul_left (period p * p.down) few in
          let below : suc (period p) ≤ 2 * p.interval = omega (arith, less) in
          let b = mul-le-mul_right p.down below in
          let there = down p.down refl in
          let same : step_num p ≡ period p * (rate * p.down) = ap (λ (n : ℕ). period p * n) e in
          absurd (omega (arith, least, a, b, there, same))
    ]
      where
        down : (n : ℕ) → p.down ≡ n → 1 ≤ n
        down (suc n) f = omega arith
        down zero f = (let none : step_den p rate ≡ 0 = rw f (omega arith) in absurd (omega (arith, some, none)))

spot_slow : (p : Pair) (rate : ℕ) (instant : ℤ) → rate ≤ 192000 → IsJoined p → Covers p rate instant → IsSlow (spot_by p rate instant).line
spot_slow p rate instant few joined is = by (p.up == rate * p.down) refl
  where
    some : 1 ≤ step_den p rate
    some = some_interval p rate instant is

    by : (b : Bool) → (p.up == rate * p.down) ≡ b → IsSlow (spot_by p rate instant).line
    by true e =
        let own = own_slow p rate few some (eqb-true p.up (rate * p.down) e) joined in
        rw e (record { some = own.0; least = own.1 })
    by false e = rw e (record { some = some; least = other_slow p rate few joined })

-- The pair is joined, and covers `instant`.
record IsFound (rate : ℕ) (instant : ℤ) (p : Pair) : Type 0 where
  joined : IsJoined p
  covers : Covers p rate instant

found : (pairs : List Pair) (rate : ℕ) (instant : ℤ) (p : Pair) → All IsJoined pairs → find_last (λ pair. covers pair rate instant) pairs ≡ Some p → IsFound rate instant p
found [] rate instant p all e = absurd cc
found (x ∷ xs) rate instant p all e =
    by (find_last (λ pair. covers pair rate instant) xs) refl (covers x rate instant) refl e (λ later. found xs rate instant p (All-tail IsJoined x xs all) later)
  where
    by : (o : Option Pair) → find_last (λ pair. covers pair rate instant) xs ≡ o → (b : Bool) → covers x rate instant ≡ b → option_or o (if b then Some x else None) ≡ Some p
        → (find_last (λ pair. covers pair rate instant) xs ≡ Some p → IsFound rate instant p) → IsFound rate instant p
    by (Some q) later b here is rest = rest (later ∙ is)
    by None later false here is rest = absurd cc
    by None later true here is rest =
        let same : x ≡ p = cc in
        record { joined = subst IsJoined same (All-head IsJoined x xs all); covers = subst (λ (q : Pair). Covers q rate instant) same (covers_so x rate instant here) }

clock_slow : (rows : List ClockRow) (shift instant : ℤ) (rate : ℕ) (spot : Spot) → rate ≤ 192000 → clock_spot rows shift instant rate ≡ Some spot → IsSlow spot.line
clock_slow rows shift instant rate spot few e = by (latest_pair shift instant rate (window rows)) refl e
  where
    by : (o : Option Pair) → latest_pair shift instant rate (window rows) ≡ o → option_map (λ pair. spot_by pair rate instant) o ≡ Some spot → IsSlow spot.line
    by None last is = absurd cc
    by (Some p) last is =
        let same : spot_by p rate instant ≡ spot = cc in
        let pair = found (joined_pairs shift (window rows)) rate instant p (all_joined shift (window rows)) last in
        subst (λ (s : Spot). IsSlow s.line) same (spot_slow p rate instant few pair.joined pair.covers)

-- ---- packets

-- The batch has the samples of a packet, on a line whose samples are at least two nanoseconds apart.
pub record IsOfPacket (p : Packet) (batch : Presented) : Type 0 where
  pub spot : Spot
  pub is : batch ≡ samples_at p spot
  pub some : 1 ≤ p.count
  pub some_rate : 1 ≤ p.rate
  pub slow : IsSlow spot.line

spot_of_slow : (plan : SchedulePlan) (prefix : List Entry) (rate : ℕ) (head : Head) (spot : Spot) → 1 ≤ rate → rate ≤ 192000 → spot_of clock_spot plan prefix rate head ≡ Some spot → IsSlow spot.line
spot_of_slow plan prefix rate head spot some few e = by plan.clock e
  where
    clocked : (o : Option Spot) → clock_spot (filter_map row_of prefix) plan.shift head.instant rate ≡ o → option_map (moved head.first) o ≡ Some spot → IsSlow spot.line
    clocked None there is = absurd cc
    clocked (Some s) there is =
        let same : moved head.first s ≡ spot = cc in
        subst (λ (t : Spot). IsSlow t.line) same (clock_slow (filter_map row_of prefix) plan.shift head.instant rate s few there)

    by : (b : Bool) → (if b then option_map (moved head.first) (clock_spot (filter_map row_of prefix) plan.shift head.instant rate) else Some (nominal_spot rate head)) ≡ Some spot → IsSlow spot.line
    by true is = clocked (clock_spot (filter_map row_of prefix) plan.shift head.instant rate) refl is
    by false is =
        let same : nominal_spot rate head ≡ spot = cc in
        subst (λ (t : Spot). IsSlow t.line) same (record { some = some; least = omega (arith, few) })

pub of_packet : (plan : SchedulePlan) (prefix : List Entry) (p : Packet) (batch : Presented) → p.rate ≤ 192000 → timed clock_spot plan prefix (OfPacket p) ≡ Ok batch → IsOfPacket p batch
unfolding timed
of_packet plan prefix p batch few e = by p.tu (p.count == 0) refl (p.rate == 0) refl e
  where
    some_of : (n : ℕ) → (n == 0) ≡ false → 1 ≤ n
    some_of n e = grind (arith, nat_tests)

    spotted : 1 ≤ p.count → 1 ≤ p.rate → (head : Head) (o : Option Spot) → spot_of clock_spot plan prefix p.rate head ≡ o → ok_or_reason NoClock (option_map (samples_at p) o) ≡ Ok batch → IsOfPacket p batch
    spotted some known head None there is = absurd cc
    spotted some known head (Some spot) there is =
        let same : samples_at p spot ≡ batch = cc in
        record { spot = spot; is = sym same; some = some; some_rate = known; slow = spot_of_slow plan prefix p.rate head spot known few there }

    counted : 1 ≤ p.count → 1 ≤ p.rate → (o : Option Head) → counted_from clock_spot plan prefix p o ≡ Ok batch → IsOfPacket p batch
    counted some known None is = absurd cc
    counted some known (Some head) is = spotted some known head (spot_of clock_spot plan prefix p.rate head) refl is

    by : (u c : Bool) → (p.count == 0) ≡ c → (r : Bool) → (p.rate == 0) ≡ r
        → (if u then Err Uncertain else if c then Err Empty else if r then Err NoRate else counted_from clock_spot plan prefix p (head_of plan prefix p)) ≡ Ok batch → IsOfPacket p batch
    by true c f r g is = absurd cc
    by false true f r g is = absurd cc
    by false false f true g is = absurd cc
    by false false f false g is = counted (some_of p.count f) (some_of p.rate g) (head_of plan prefix p) is

-- ---- rates

-- the rate of a packet is at most 192,000 Hz
abbrev pub HasRate : Entry → Type 0
HasRate (OfItem (OfPacket p)) = p.rate ≤ 192000
HasRate (OfItem (OfUnit u)) = ⊤
HasRate (OfItem (OfBad b)) = ⊤
HasRate (OfClock arrival row) = ⊤

pcm_few : (nsr : ℕ) → unwrap_or (rate_of nsr) 0 ≤ 192000
pcm_few nsr = grind (arith, nat_tests)

block_few : (fdf : ℕ) → unwrap_or (rate_of_fdf fdf) 0 ≤ 192000
block_few fdf = grind (arith, nat_tests)

refused_rate : (d : Delivery) (o : Option Refusal) (item : Item) → HasRate (OfItem item) → HasRate (OfItem (refused_or d o item))
refused_rate d None item is = is
refused_rate d (Some refusal) item is = tt

one_rate : (d : Delivery) → HasRate (entry_of d)
one_rate d = by (d.subtype == crf_subtype)
  where
    of_item : (b : Bool) → HasRate (OfItem (if b then refused_or d (aaf_refusal d.packet) (samples_of d (aaf_of d.packet)) else refused_or d (iec_refusal d.packet) (blocks_of d (iec_of d.packet))))
    of_item true = refused_rate d (aaf_refusal d.packet) (samples_of d (aaf_of d.packet)) (pcm_few (aaf_of d.packet).nsr)
    of_item false = refused_rate d (iec_refusal d.packet) (blocks_of d (iec_of d.packet)) (block_few (iec_of d.packet).cip.fdf)

    by : (b : Bool) → HasRate (if b then OfClock d.arrival (clock_row d) else OfItem (item_of d))
    by true = tt
    by false = of_item (d.subtype == aaf_subtype)

abbrev Anything : Delivery → Type 0
Anything d = ⊤

any_delivery : (ds : List Delivery) → All Anything ds
any_delivery [] = All-nil Anything
any_delivery (d ∷ ds) = All-cons Anything d ds tt (any_delivery ds)

abbrev IsRated : MadeItem → Type 0
IsRated made = HasRate made.entry

pub all_rated : (ds : List Delivery) → All IsRated (items_of ds)
all_rated ds = items_all Anything IsRated ds (record { one = λ d t. one_rate d; flag = λ why d t streamed. tt; unit = λ before d all t streamed. tt }) (any_delivery ds)

pub rate_at : (ms : List MadeItem) (i : ℕ) (e : Entry) → All IsRated ms → slice_get (map made_entry ms) i ≡ Some e → HasRate e
rate_at [] i e all is = absurd cc
rate_at (m ∷ ms) zero e all is = (let same : m.entry ≡ e = cc in subst HasRate same (All-head IsRated m ms all))
rate_at (m ∷ ms) (suc i) e all is = rate_at ms i e (All-tail IsRated m ms all) is

-- ---- all that is presented

latest_from : (es : List ℤ) (from : ℤ) → from ≤ℤ fold int_max from es
latest_from [] from = omega (arith, ints)
latest_from (a ∷ es) from = (let rest = latest_from es (int_max from a) in omega (arith, ints, int_max_is, rest))

never_before : (es : List Entry) (i : ℕ) → pos 0 ≤ℤ now_at es i
unfolding latest
never_before es i = latest_from (map arrival_of (take (suc i) es)) (pos 0)

unit_time : (plan : SchedulePlan) (prefix : List Entry) (item : Item) (batch : Presented) → HasRate (OfItem item) → timed clock_spot plan prefix item ≡ Ok batch → HasRisingInstants batch
unfolding timed
unit_time plan prefix (OfBad b) batch rate e = absurd cc
unit_time plan prefix (OfUnit u) batch rate e =
    let one : 1 ≡ batch.count = cc in
    record { some = omega (arith, one); rise = λ j h. absurd (omega (arith, one, h)) }
unit_time plan prefix (OfPacket p) batch rate e =
    let is = of_packet plan prefix p batch rate e in
    let same = is.is in
    let some = is.some in
    record { some = rw same some; rise = λ j h. slow_rises batch (rw same (is.slow)) j }

-- if an item is not late, the instants of its batch rise
rises : (plan : ListenPlan) (records : List Record) → HoldsOfItems (schedule_plan plan) (entries_in plan records) HasRisingInstants
rises plan records i item batch there e early =
    let rate = rate_at (items_in plan records) i (OfItem item) (all_rated (deliveries_of plan records)) there in
    unit_time (schedule_plan plan) (prefix_of (schedule_plan plan) (entries_in plan records) i) item batch rate e

-- if an item is not late, its batch begins at 0 or later
begins : (plan : ListenPlan) (records : List Record) → HoldsOfItems (schedule_plan plan) (entries_in plan records) (λ (batch : Presented). pos 0 ≤ℤ first_instant batch)
begins plan records i item batch there e early =
    let now = never_before (entries_in plan records) i in
    omega (arith, ints, now, early)

in_time : (plan : ListenPlan) (records : List Record) → HoldsOfItems (schedule_plan plan) (entries_in plan records) BeginsInTime
in_time plan records i item batch there e early = record { rising = rises plan records i item batch there e early; begun = begins plan records i item batch there e early }

pub shown_in_time : (plan : ListenPlan) (records : List Record) → AllByRecursion BeginsInTime (presented_of (shown_of plan records))
shown_in_time plan records = presented_all BeginsInTime plan records (in_time plan records)

pub due_in_time : (plan : ListenPlan) (records : List Record) → AllByRecursion BeginsInTime (presented_of (due_of plan records))
due_in_time plan records = due_all BeginsInTime plan records (shown_in_time plan records)
