-- If packets arrive shortly before they are presented, and are presented at least 500 ns apart, a listener has room for
-- all of them.
use Rattle.std.proofs.Common.{◌≡◌, ℕ, zero, suc, ◌+◌, ◌*◌, ◌^◌, ◌<◌, ◌≤◌, Bool, true, false, ℤ, pos, ◌+ℤ◌, ◌≤ℤ◌, List, [], ◌∷◌, length, map, take, Option, Some, None, refl, sym, ap, subst, arith}
use Rattle.std.specs.Prelude.{⊤, IfSome, if◌then◌else◌, nat_le, nat_lt, slice_get}
use Rattle.std.specs.List.{AllByRecursion}
use Rattle.std.proofs.lemmas.Bool.Decides.{nat_tests}
use Rattle.std.proofs.lemmas.Int.{by_lt_z, ints, int_max_is}
use Rattle.std.proofs.lemmas.List.{length-take}
use Rattle.std.proofs.lemmas.List.Sums.{sum_by-cons}
use Rattle.clock_track.specs.Rows.{clock_spot}
use Rattle.pcap_frames.specs.Capture.{Record}
use Rattle.sample_schedule.specs.declared.accepted.Accepted.{Accepted}
use Rattle.sample_schedule.specs.declared.entry.Entry.{Entry}
use Rattle.sample_schedule.specs.declared.entry.Entry.TheVariants.{Item as OfItem}
use Rattle.sample_schedule.specs.declared.item.Item.TheVariants.{Packet as OfPacket}
use Rattle.sample_schedule.specs.declared.item.Packet.{Packet}
use Rattle.sample_schedule.specs.declared.plan.SchedulePlan.{SchedulePlan}
use Rattle.sample_schedule.specs.Batches.{Presented}
use Rattle.sample_schedule.specs.Order.{standing}
use Rattle.sample_schedule.specs.Schedule.{latest, now_at, shown}
use Rattle.sample_schedule.specs.Verdicts.{Clock, first_instant, is_full, total_bytes}
use Rattle.sample_schedule.proofs.OrderLemmas.{le_false, le_true}
use Rattle.sample_schedule.proofs.StageLemmas.{now-next}
use Rattle.packet_journal.specs.Deliveries.{deliveries}
use Rattle.talker.specs.Frames.{record_of}
use Rattle.listener.specs.declared.plan.ListenPlan.{ListenPlan}
use Rattle.listener.specs.Heard.{entries_in, schedule_plan}
use Rattle.listener.specs.Items.{entries}
use Rattle.am824_gateway.specs.declared.scan.Shape.{Shape}
use Rattle.am824_gateway.specs.declared.scan.To.{To}
use Rattle.am824_gateway.specs.declared.scan.To.TheVariants.{Aaf, Am824}
use Rattle.am824_gateway.specs.Laws.{Cut, Rise, cut_frame, cut_instant, cuts_after}
use Rattle.am824_gateway.specs.Packets.{samples_of}
use Rattle.am824_gateway.specs.Pieces.{nothing_given}
use Rattle.am824_gateway.specs.Scan.{IsShape}
use Rattle.am824_gateway.proofs.CutLemmas.{frames_are_cuts, rise_all}
use Rattle.am824_gateway.proofs.PieceLemmas.{fits}
use Rattle.talk_plan.specs.Plan.{interval_of}
use Rattle.gateway_laws.specs.Heard.{BeginsInTime, packets_heard}
use Rattle.gateway_laws.specs.InOrder.{IsNotFull}
use Rattle.gateway_laws.specs.Kept.{Hears}
use Rattle.gateway_laws.specs.Returned.{gateway_records}
use Rattle.gateway_laws.specs.Room.{ArePacketsSpread, AreSpread, HasDefaultRoom}
use Rattle.gateway_laws.specs.Stamped.{AreStamped, all_counted, packet_entries}
use Rattle.gateway_laws.proofs.Carried.{stamped_all}
use Rattle.gateway_laws.proofs.Delivered.{entries_are, no_entries}
use Rattle.gateway_laws.proofs.Heard.{heard_carry, interval_known}
use Rattle.gateway_laws.proofs.InOrder.{none_full, placed}
use Rattle.gateway_laws.proofs.Kept.{all_rising, no_rest}
use Rattle.gateway_laws.proofs.Read.{IsCarried, all_carried, samples_long}
use Rattle.gateway_laws.proofs.Stamped.{at_place, counted_length, now_early, starts_at, stamped_at, stamped_rise}

-- ---- how many wait

-- if n batches follow a batch, that batch begins at least 500 * (n + 1) ns before x
abbrev SpreadTo : ℤ → List Presented → Type 0
SpreadTo x [] = ⊤
SpreadTo x (b ∷ bs) = ((first_instant b +ℤ pos (500 * suc (length bs))) ≤ℤ x) × SpreadTo x bs

standing_short : (now : ℤ) (n : ℕ) (bs : List Presented) → length (standing now (placed n bs)) ≤ length bs
standing_short now n [] = omega arith
standing_short now n (b ∷ bs) =
    let rest = standing_short now (suc n) bs in
    by_lt_z (first_instant b) now
    (λ less. rw (le_false now (first_instant b) less) (omega (arith, rest)))
    (λ not. rw (le_true now (first_instant b) not) (omega (arith, rest)))

few_wait : (now x : ℤ) (n : ℕ) (bs : List Presented) → now ≤ℤ x → SpreadTo x bs → (now +ℤ pos (500 * length (standing now (placed n bs)))) ≤ℤ x
few_wait now x n [] h spread = omega (arith, ints, h)
few_wait now x n (b ∷ bs) h spread =
    by_lt_z (first_instant b) now
    (λ less. rw (le_false now (first_instant b) less) (few_wait now x (suc n) bs h spread.1))
    (λ not. rw (le_true now (first_instant b) not) (let short = standing_short now (suc n) bs in let here = spread.0 in omega (arith, ints, short, here, not)))

abbrev AreShort : List Presented → Type 0
AreShort bs = AllByRecursion (λ b. length b.bytes ≤ 1500) bs

light : (now : ℤ) (n : ℕ) (bs : List Presented) → AreShort bs → total_bytes (standing now (placed n bs)) ≤ length (standing now (placed n bs)) * 1500
light now n [] short = omega arith
light now n (b ∷ bs) short =
    let rest = light now (suc n) bs short.1 in
    by_lt_z (first_instant b) now
    (λ less. rw (le_false now (first_instant b) less) rest)
    (λ not.
    let here = short.0 in
    let sum = sum_by-cons (λ (a : Accepted). length a.batch.bytes) (record { place = n; instant = first_instant b; batch = b }) (standing now (placed (suc n) bs)) in
    rw (le_true now (first_instant b) not) (omega (arith, rest, here, sum)))

not_full : (plan : SchedulePlan) (waiting : List Accepted) (size : ℕ) → length waiting < plan.buffer → total_bytes waiting + size ≤ plan.room → is_full plan waiting size ≡ false
not_full plan waiting size some fits_in = by (nat_le plan.buffer (length waiting)) (nat_lt plan.room (total_bytes waiting + size)) (grind (arith, nat_tests)) (grind (arith, nat_tests))
  where
    by : (a b : Bool) → a ≡ false → b ≡ false → (if a then true else b) ≡ false
    by a b e f = rw (e, f) refl

-- ---- packets

-- the packet arrives at most 2 ms before it is presented, and has at most 1500 bytes
record IsSoon (p : Packet) (x : ℤ) : Type 0 where
  soon : x ≤ℤ (p.arrival +ℤ pos 2000000)
  short : length p.bytes ≤ 1500

abbrev AreSoon : List Packet → List ℤ → Type 0
AreSoon [] xs = ⊤
AreSoon (p ∷ ps) [] = ⊤
AreSoon (p ∷ ps) (x ∷ xs) = IsSoon p x × AreSoon ps xs

soon_at : (ps : List Packet) (xs : List ℤ) (i : ℕ) (p : Packet) (x : ℤ) → AreSoon ps xs → slice_get (packet_entries ps) i ≡ Some (OfItem (OfPacket p)) → slice_get xs i ≡ Some x → IsSoon p x
soon_at [] xs i p x all there at = absurd cc
soon_at (q ∷ ps) [] i p x all there at = absurd cc
soon_at (q ∷ ps) (y ∷ xs) zero p x all there at =
    let packet : q ≡ p = cc in
    let instant : y ≡ x = cc in
    subst (λ (z : ℤ). IsSoon p z) instant (subst (λ (r : Packet). IsSoon r y) packet all.0)
soon_at (q ∷ ps) (y ∷ xs) (suc i) p x all there at = soon_at ps xs i p x all.1 there at

gap : (y : ℤ) (ys : List ℤ) (i : ℕ) (x : ℤ) → AreSpread (y ∷ ys) → slice_get (y ∷ ys) i ≡ Some x → (y +ℤ pos (500 * i)) ≤ℤ x
gap y ys zero x spread e = (let same : y ≡ x = cc in omega (arith, ints, same))
gap y [] (suc i) x spread e = absurd cc
gap y (z ∷ ys) (suc i) x spread e = (let here = spread.0.0 in let rest = gap z ys i x spread.1 e in omega (arith, ints, here, rest))

spread_to : (ps : List Packet) (xs : List ℤ) (i : ℕ) (x : ℤ) → AreStamped ps xs → AreSpread xs → slice_get xs i ≡ Some x → SpreadTo x (take i (all_counted ps xs))
spread_to [] [] i x all spread e = absurd cc
spread_to [] (y ∷ ys) i x all spread e = absurd all
spread_to (p ∷ ps) [] i x all spread e = absurd all
spread_to (p ∷ ps) (y ∷ ys) zero x all spread e = tt
spread_to (p ∷ ps) (y ∷ ys) (suc i) x all spread e =
    let first = starts_at p y all.0.known_rate in
    let far = gap y ys (suc i) x spread e in
    let long = length-take i (all_counted ps ys) in
    (omega (arith, ints, first, far, long), spread_to ps ys i x all.1 spread.1 e)

short_to : (ps : List Packet) (xs : List ℤ) (i : ℕ) → AreSoon ps xs → AreShort (take i (all_counted ps xs))
short_to [] xs zero all = tt
short_to [] xs (suc i) all = tt
short_to (p ∷ ps) [] zero all = tt
short_to (p ∷ ps) [] (suc i) all = tt
short_to (p ∷ ps) (x ∷ xs) zero all = tt
short_to (p ∷ ps) (x ∷ xs) (suc i) all = (all.0.short, short_to ps xs i all.1)

-- ---- there is room

soon_full : (clock : Clock) (plan : SchedulePlan) (ps : List Packet) (xs : List ℤ) → plan.clock ≡ false → AreStamped ps xs → Rise xs → AreSpread xs → AreSoon ps xs → 4096 ≤ plan.buffer → 67108864 ≤ plan.room → AllByRecursion IsNotFull (shown clock plan (packet_entries ps))
soon_full clock plan ps xs without all rise spread soon buffer room =
    none_full clock plan (packet_entries ps) (all_counted ps xs)
    (record {
      all = counted_length ps xs all;
      timed_at = stamped_at clock plan ps xs without all rise;
      rise = stamped_rise ps xs all rise;
      room = λ i b e before copy.
          let here = at_place ps xs i b all e in
          let is = soon_at ps xs i here.packet here.instant soon here.there here.at in
          let now : ℤ = now_at (packet_entries ps) i in
          let early : now ≤ℤ here.instant = now_early ps xs i here.instant all rise here.at here.is.begun in
          let next = now-next (packet_entries ps) i (OfItem (OfPacket here.packet)) here.there in
          let most = int_max_is (latest (take i (packet_entries ps))) here.packet.arrival in
          let late = is.soon in
          let waits : List Presented = take i (all_counted ps xs) in
          let few = few_wait now here.instant 0 waits early (spread_to ps xs i here.instant all spread here.at) in
          let bytes = light now 0 waits (short_to ps xs i soon) in
          let size : length b.bytes ≡ length here.packet.bytes = ap (λ (c : Presented). length c.bytes) here.batch_is in
          let short = is.short in
          let count : length (standing now (placed 0 waits)) ≤ 4000 = omega (arith, ints, next, most, late, few) in
          not_full plan (standing now (placed 0 waits)) (length b.bytes) (omega (arith, count, buffer)) (omega (arith, count, bytes, size, short, room));
    })

-- ---- what a gateway sends

few_bytes : (to : To) (shape : Shape) (c : Cut) → IsCarried to shape c → length (samples_of to shape c.batch c.piece) ≤ 1500
few_bytes Am824 shape c fine = omega (arith, samples_long Am824 shape c fine, fits Am824 shape.channels c.piece.count fine.within.fits)
few_bytes Aaf shape c fine = omega (arith, samples_long Aaf shape c fine, fits Aaf shape.channels c.piece.count fine.within.fits)

cuts_soon : (to : To) (shape : Shape) (frame : ℕ) (cs : List Cut) → AllByRecursion (IsCarried to shape) cs → AreSoon (packets_heard to shape frame cs) (map cut_instant cs)
cuts_soon to shape frame [] fine = tt
cuts_soon to shape frame (c ∷ cs) fine = (record { soon = omega (arith, ints, int_max_is); short = few_bytes to shape c fine.0 }, cuts_soon to shape (suc frame) cs fine.1)

hears_by : (id : ℕ) (plan : ListenPlan) (records : List Record) (es : List Entry) → HasDefaultRoom id plan → entries (deliveries id None records) ≡ es → AllByRecursion IsNotFull (shown clock_spot (schedule_plan plan) es) → Hears id plan records
hears_by id plan records es default same room =
    let entries_is : entries_in plan records ≡ es = rw (default.stream, default.clock) same in
    record { stream = default.stream; clock = default.clock; room = subst (λ (l : List Entry). AllByRecursion IsNotFull (shown clock_spot (schedule_plan plan) l)) (sym entries_is) room }

pub has_room : (to : To) (shape : Option Shape) (id : ℕ) (batches : List Presented) (plan : ListenPlan) → IfSome shape IsShape → id < 2 ^ 64 → AllByRecursion BeginsInTime batches → ArePacketsSpread to shape batches → HasDefaultRoom id plan → Hears id plan (gateway_records to shape id batches)
has_room to None id batches plan is small begins spread default =
    let without : (schedule_plan plan).clock ≡ false = rw (default.clock) refl in
    hears_by id plan [] (packet_entries []) default (no_entries id) (soon_full clock_spot (schedule_plan plan) [] [] without tt tt tt tt default.buffer default.room)
has_room to (Some shape) id batches plan is small begins spread default =
    let cs : List Cut = cuts_after to shape nothing_given batches in
    let ps : List Packet = packets_heard to shape 1 cs in
    let fine = all_carried to shape nothing_given batches is (omega arith) in
    let e = ap (map record_of) (frames_are_cuts to shape id nothing_given batches) in
    let carry = heard_carry to shape nothing_given 1 batches is (no_rest (interval_of shape.rate) (interval_known shape is)) begins in
    let stamped = stamped_all to shape ps cs carry in
    let without : (schedule_plan plan).clock ≡ false = rw (default.clock) refl in
    let room = soon_full clock_spot (schedule_plan plan) ps (map cut_instant cs) without stamped (rise_all to shape nothing_given batches (all_rising batches begins)) spread (cuts_soon to shape 1 cs fine) default.buffer default.room in
    subst (Hears id plan) (sym e) (hears_by id plan (map record_of (map (cut_frame to shape id) cs)) (packet_entries ps) default (entries_are to shape id cs is small fine) room)
