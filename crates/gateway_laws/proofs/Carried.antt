-- What is presented from the packets that carry pieces.
use Rattle.std.proofs.Common.{◌≡◌, ℕ, zero, suc, ◌*◌, ◌/◌, ◌≤◌, ℤ, pos, ◌≤ℤ◌, ◌<ℤ◌, List, [], ◌∷◌, ◌++◌, map, false, refl, ap, ◌∙◌, arith}
use Rattle.std.specs.Prelude.{◌*ℤ◌, ◌+ℤ◌, neg_ℤ, flat_map}
use Rattle.std.specs.List.{AllByRecursion}
use Rattle.std.proofs.lemmas.Int.{ints}
use Rattle.std.proofs.Math.Nat.{div-mul-le_self}
use Rattle.time_unfold.specs.Lines.{floor_of}
use Rattle.time_unfold.proofs.Floors.{floor_above, floor_below, floor_only}
use Rattle.talk_plan.specs.Timing.{nominal_offset}
use Rattle.sample_schedule.specs.declared.accepted.Accepted.{Accepted}
use Rattle.sample_schedule.specs.declared.item.Packet.{Packet}
use Rattle.sample_schedule.specs.declared.plan.SchedulePlan.{SchedulePlan}
use Rattle.sample_schedule.specs.Batches.{Presented, sample_instant}
use Rattle.sample_schedule.specs.Laws.{presented}
use Rattle.sample_schedule.specs.Schedule.{given, shown}
use Rattle.sample_schedule.specs.Verdicts.{Clock}
use Rattle.am824_gateway.specs.declared.scan.Shape.{Shape}
use Rattle.am824_gateway.specs.declared.scan.To.{To}
use Rattle.am824_gateway.specs.Labels.{value_out}
use Rattle.am824_gateway.specs.Laws.{Cut, HasRisingInstants, cut_instant, cuts_after, given_batches}
use Rattle.am824_gateway.specs.Packets.{samples_of}
use Rattle.am824_gateway.specs.Pieces.{Given}
use Rattle.gateway_laws.specs.Samples.{Sample, packet_samples, part, samples_presented, samples_sent, values_out}
use Rattle.am824_gateway.specs.Scan.{IsShape}
use Rattle.am824_gateway.proofs.CutLemmas.{rise_all}
use Rattle.gateway_laws.proofs.SampleLemmas.{all_kept}
use Rattle.gateway_laws.specs.Carried.{CarriesCut, CarryCuts, heard_from, samples_heard}
use Rattle.gateway_laws.specs.InOrder.{IsNotFull}
use Rattle.gateway_laws.specs.Stamped.{AreStamped, all_counted, counted_from_first, packet_entries}
use Rattle.gateway_laws.proofs.Stamped.{stamped_presented}

floor_natural : (a d : ℕ) → 1 ≤ d → floor_of (pos a) d ≡ pos (a / d)
floor_natural a d some = floor_only (pos a) (floor_of (pos a) d) (pos (a / d)) d (floor_below (pos a) d some) (floor_above (pos a) d some) (below a d) (above a d some)
  where
    below : (x n : ℕ) → (pos (x / n) *ℤ pos n) ≤ℤ pos x
    below x n = (let whole = div-mul-le_self x n in omega (arith, ints, whole))

    above : (x n : ℕ) → 1 ≤ n → pos x <ℤ ((pos (x / n) +ℤ pos 1) *ℤ pos n)
    above x n h = omega (arith, ints)

steps : (f : ℤ) (k : ℕ) → f ≡ neg_ℤ (pos 0) → (f +ℤ pos k) *ℤ pos 1000000000 ≡ pos (k * 1000000000)
steps f k e = rw e (omega (arith, ints))

pub counted_sample : (p : Packet) (x : ℤ) (rate j : ℕ) → p.rate ≡ rate → 1 ≤ rate → sample_instant (counted_from_first p x) j ≡ x +ℤ pos (nominal_offset rate j)
counted_sample p x rate j same some =
    ap (λ (z : ℤ). x +ℤ floor_of z p.rate) (steps (neg_ℤ (pos 0)) j refl)
    ∙ (ap (λ (d : ℕ). x +ℤ floor_of (pos (j * 1000000000)) d) same ∙ ap (λ (z : ℤ). x +ℤ z) (floor_natural (j * 1000000000) rate some))

heard_is : (to : To) (shape : Shape) (p : Packet) (x : ℤ) (payload : List ℕ) (j n : ℕ) → p.rate ≡ shape.rate → 1 ≤ shape.rate → p.bytes ≡ payload → heard_from to shape (counted_from_first p x) j n ≡ packet_samples to shape x payload j n
heard_is to shape p x payload j zero rate some bytes = refl
heard_is to shape p x payload j (suc n) rate some bytes =
    let at = counted_sample p x shape.rate j rate some in
    let values = ap (λ (l : List ℕ). values_out to shape.channels (part (value_out to * shape.channels) j l)) bytes in
    let rest = heard_is to shape p x payload (suc j) n rate some bytes in
    rw (at, values, rest) refl

one_heard : (to : To) (shape : Shape) (p : Packet) (c : Cut) → CarriesCut to shape p c → samples_heard to shape (counted_from_first p (cut_instant c)) ≡ samples_sent to shape c
one_heard to shape p c is =
    let rate = is.rate in
    let known = is.stamped.known_rate in
    let some : 1 ≤ shape.rate = omega (arith, rate, known) in
    ap (λ (n : ℕ). heard_from to shape (counted_from_first p (cut_instant c)) 0 n) is.count
    ∙ heard_is to shape p (cut_instant c) (samples_of to shape c.batch c.piece) 0 c.piece.count rate some is.bytes

all_heard : (to : To) (shape : Shape) (ps : List Packet) (cs : List Cut) → CarryCuts to shape ps cs → flat_map (samples_heard to shape) (all_counted ps (map cut_instant cs)) ≡ flat_map (samples_sent to shape) cs
all_heard to shape [] [] all = refl
all_heard to shape [] (c ∷ cs) all = absurd all
all_heard to shape (p ∷ ps) [] all = absurd all
all_heard to shape (p ∷ ps) (c ∷ cs) all =
    let here = one_heard to shape p c all.0 in
    let rest = all_heard to shape ps cs all.1 in
    ap (λ (l : List Sample). l ++ flat_map (samples_heard to shape) (all_counted ps (map cut_instant cs))) here ∙ ap (λ (l : List Sample). samples_sent to shape c ++ l) rest

pub stamped_all : (to : To) (shape : Shape) (ps : List Packet) (cs : List Cut) → CarryCuts to shape ps cs → AreStamped ps (map cut_instant cs)
stamped_all to shape [] [] all = tt
stamped_all to shape [] (c ∷ cs) all = absurd all
stamped_all to shape (p ∷ ps) [] all = absurd all
stamped_all to shape (p ∷ ps) (c ∷ cs) all = (all.0.stamped, stamped_all to shape ps cs all.1)

pub gateway_heard : (clock : Clock) (plan : SchedulePlan) (to : To) (shape : Shape) (given_before : Given) (batches : List Presented) (packets : List Packet) → plan.clock ≡ false → IsShape shape → AllByRecursion HasRisingInstants batches
    → CarryCuts to shape packets (cuts_after to shape given_before batches) → AllByRecursion IsNotFull (shown clock plan (packet_entries packets))
    → flat_map (samples_heard to shape) (map (λ (a : Accepted). a.batch) (presented (given clock plan (packet_entries packets)))) ≡ flat_map (samples_presented to shape) (given_batches to shape given_before batches)
gateway_heard clock plan to shape given_before batches packets without is rising carry room =
    let cuts : List Cut = cuts_after to shape given_before batches in
    let all = stamped_presented clock plan packets (map cut_instant cuts) without (stamped_all to shape packets cuts carry) (rise_all to shape given_before batches rising) room in
    ap (flat_map (samples_heard to shape)) all ∙ (all_heard to shape packets cuts carry ∙ all_kept to shape given_before batches is)
