-- Lemmas for the laws of plans.
use Rattle.std.proofs.Common.{◌≡◌, ℕ, ◌+◌, ◌*◌, ◌/◌, ◌^◌, ◌<◌, ◌≤◌, Bool, true, false, List, [], ◌∷◌, map, length, Option, Some, None, nat_abs, ◌≤ℤ◌, refl, ap}
use Rattle.std.proofs.Common.{subst, sym, ◌-◌, ◌%◌, ◌∙◌, arith}
use Rattle.std.proofs.Math.Nat.{mod-eq-sub-div-mul, sub-zero, zero-div}
use Rattle.std.specs.Prelude.{if◌then◌else◌, int_le, pos, slice_get, IsSome, IsSomeAnd}
use Rattle.std.specs.List.{AllByRecursion, filter_map, range_with_len}
use Rattle.std.proofs.lemmas.Int.{ints}
use Rattle.aaf_format.specs.declared.aaf.AafFormat.{AafFormat}
use Rattle.aaf_format.specs.Aaf.{SpellsAaf, aaf_spelling, frame_size}
use Rattle.iec61883_format.specs.Iec.{SpellsIec, block_size, iec_spelling, rate_of_fdf, syt_interval}
use Rattle.pcap_frames.specs.Capture.{HasSpelling}
use Rattle.packet_journal.specs.Carried.{AllCarry}
use Rattle.stream_journal.specs.Journal.{Journal}
use Rattle.talk_plan.specs.declared.plan.TalkKind.{TalkKind}
use Rattle.talk_plan.specs.declared.plan.TalkKind.TheVariants.{Aaf, Am824, H264}
use Rattle.talk_plan.specs.declared.plan.TalkPlan.{TalkPlan}
use Rattle.talker.specs.Frames.{RiseByArrival, SentFrame, StaysNear, StaysNearBy, by_arrival, capture_style, frames, frames_at, packet_numbers, put_in}
use Rattle.talker.specs.Frames.{record_of, records, stream_frames}
use Rattle.talker.specs.Journal.{journal, stream_of}
use Rattle.talk_audio.specs.Packets.{aaf_packet, iec_packet}
use Rattle.talk_plan.specs.Plan.{Expects, FitsBlocks, IsAhead, HasRate, IsAudioKind, IsAudioPlan, IsPlan, IsPlanOf, fdf_of, interval_of, rate_code, most_input}
use Rattle.talk_plan.specs.Timing.{arrival_of, event_of, first_packet, nominal_instant, nominal_offset, run_of}
use Rattle.talk_audio.proofs.Am824Lemmas.{blocks_again}
use Rattle.talk_plan.proofs.RateLemmas.{named_fdf, named_interval, stated_interval}
use Rattle.talk_audio.proofs.PcmLemmas.{packet_again}
use Rattle.talker.proofs.StreamLemmas.{AreCarried, all_carried, all_frames, at_number, frames_in, next_near, numbers_of, packets_in, some_carried, spelled}
use Rattle.talker.proofs.TalkLemmas.{frames_alone, plan_keeps}

pub named_blocks : (plan : TalkPlan) (fdf interval : ℕ) → rate_of_fdf fdf ≡ Some plan.rate → syt_interval fdf ≡ Some interval → plan.channels ≤ 256
    → interval ≤ 8 * plan.count
    → plan.count * block_size plan.channels ≤ 1468 → FitsBlocks plan
named_blocks plan fdf interval named stated quadlets some size =
    let same = named_interval plan.rate fdf interval (named_fdf plan.rate fdf named) stated in
    record { quadlets = quadlets; some = omega (arith, same); size = size }

paced_by : (plan : TalkPlan) (n : ℕ)
    → arrival_of plan n ≡ nat_abs plan.start + run_of plan n * plan.jump + nominal_offset plan.rate (first_packet plan (run_of plan n) * plan.count) + nominal_offset plan.rate (event_of plan n 0)
unfolding nominal_instant
paced_by plan n = omega arith

pub paced : (plan : TalkPlan) (n : ℕ) → plan.restart ≡ None → arrival_of plan n ≡ nat_abs plan.start + n * plan.count * 1000000000 / plan.rate
paced plan n e =
    let run : run_of plan n ≡ 0 = rw e refl in
    let first : first_packet plan (run_of plan n) ≡ 0 = rw e refl in
    let jumps : run_of plan n * plan.jump ≡ 0 * plan.jump = ap (λ (k : ℕ). k * plan.jump) run in
    let before : nominal_offset plan.rate (first_packet plan (run_of plan n) * plan.count) ≡ 0 =
    ap (λ (k : ℕ). nominal_offset plan.rate (k * plan.count)) first
    ∙ ap (λ (k : ℕ). k / plan.rate) (let z : 0 * plan.count * 1000000000 ≡ 0 = omega arith in z) ∙ zero-div plan.rate in
    let within : nominal_offset plan.rate (event_of plan n 0) ≡ nominal_offset plan.rate (n * plan.count) =
    ap (λ (k : ℕ). nominal_offset plan.rate ((n - k) * plan.count + 0)) first
    ∙ ap (λ (k : ℕ). nominal_offset plan.rate k) (let z : (n - 0) * plan.count + 0 ≡ n * plan.count = rw sub-zero (omega arith) in z) in
    omega (arith, paced_by plan n, jumps, before, within)

pub paced_restarting : (plan : TalkPlan) (packets n : ℕ) → plan.restart ≡ Some packets
    → arrival_of plan n ≡ nat_abs plan.start + n / packets * plan.jump + n / packets * packets * plan.count * 1000000000 / plan.rate + n % packets * plan.count * 1000000000 / plan.rate
paced_restarting plan packets n e =
    let run : run_of plan n ≡ n / packets = rw e refl in
    let first : first_packet plan (run_of plan n) ≡ n / packets * packets = rw e refl in
    let jumps : run_of plan n * plan.jump ≡ n / packets * plan.jump = ap (λ (k : ℕ). k * plan.jump) run in
    let before : nominal_offset plan.rate (first_packet plan (run_of plan n) * plan.count) ≡ nominal_offset plan.rate (n / packets * packets * plan.count) =
    ap (λ (k : ℕ). nominal_offset plan.rate (k * plan.count)) first in
    let inside : n - first_packet plan (run_of plan n) ≡ n % packets = ap (λ (k : ℕ). n - k) first ∙ sym (mod-eq-sub-div-mul n packets) in
    let within : nominal_offset plan.rate (event_of plan n 0) ≡ nominal_offset plan.rate (n % packets * plan.count) =
    ap (λ (k : ℕ). nominal_offset plan.rate (k * plan.count + 0)) inside
    ∙ ap (λ (k : ℕ). nominal_offset plan.rate k) (let z : n % packets * plan.count + 0 ≡ n % packets * plan.count = omega arith in z) in
    omega (arith, paced_by plan n, jumps, before, within)

-- ---- frames sorted by arrival

later : (f g : SentFrame) → int_le f.arrival g.arrival ≡ false → g.arrival ≤ℤ f.arrival
later f g e = grind (arith, ints)

sooner : (f g : SentFrame) → int_le f.arrival g.arrival ≡ true → f.arrival ≤ℤ g.arrival
sooner f g e = grind (arith, ints)

behind : (g f : SentFrame) (frames : List SentFrame) → g.arrival ≤ℤ f.arrival → RiseByArrival (g ∷ frames) → RiseByArrival (g ∷ put_in f frames)
behind g f [] h rise = (h, tt)
behind g f (x ∷ frames) h rise =
    elim (int_le f.arrival x.arrival) as (λ b. int_le f.arrival x.arrival ≡ b → RiseByArrival (g ∷ (if b then f ∷ x ∷ frames else x ∷ put_in f frames))) [
      | true ↦ λ e. (h, (sooner f x e, rise.1))
      | false ↦ λ e. (rise.0, behind x f frames (later f x e) rise.1)
    ] refl

put_rises : (f : SentFrame) (frames : List SentFrame) → RiseByArrival frames → RiseByArrival (put_in f frames)
put_rises f [] rise = tt
put_rises f (x ∷ frames) rise =
    elim (int_le f.arrival x.arrival) as (λ b. int_le f.arrival x.arrival ≡ b → RiseByArrival (if b then f ∷ x ∷ frames else x ∷ put_in f frames)) [
      | true ↦ λ e. (sooner f x e, rise)
      | false ↦ λ e. behind x f frames (later f x e) rise
    ] refl

pub all_rise : (frames : List SentFrame) → RiseByArrival (by_arrival frames)
all_rise [] = tt
all_rise (f ∷ frames) = put_rises f (by_arrival frames) (all_rise frames)

-- ---- captures

-- each record of a plan's frames can be written to a capture
pub records_spelled : (plan : TalkPlan) (input : List ℕ) → IsPlan plan → length input ≤ most_input
    → AllByRecursion (HasSpelling capture_style) (records plan input)
records_spelled plan input p limit =
    let s = stream_of plan input in
    spelled plan s (frames plan input) (plan_keeps plan input p limit) (all_frames s)

pub kept_spelled : (plan : TalkPlan) (input places : List ℕ) → IsPlan plan → length input ≤ most_input
    → AllByRecursion (HasSpelling capture_style) (map record_of (frames_at plan input places))
kept_spelled plan input places p limit =
    let s = stream_of plan input in
    spelled plan s (filter_map (slice_get (frames plan input)) places) (plan_keeps plan input p limit) (frames_in s places)

-- without a clock, the records carry the journal's packets in order
pub all_carry : (plan : TalkPlan) (input : List ℕ) (lead : ℕ) → IsPlan plan → plan.crf ≡ None → length input ≤ most_input → Expects plan lead
    → AllCarry (journal plan input) lead (range_with_len 0 (journal plan input).times.packets) (records plan input)
all_carry plan input lead p none limit expects =
    rw (frames_alone plan input p none limit) (all_carried plan (stream_of plan input) lead (plan_keeps plan input p limit) expects)

-- each record carries a packet of the stream or of its clock
pub every_carried : (plan : TalkPlan) (input : List ℕ) (lead : ℕ) → IsPlan plan → length input ≤ most_input → Expects plan lead
    → AreCarried (journal plan input) lead (frames plan input)
every_carried plan input lead p limit expects =
    let s = stream_of plan input in
    some_carried plan s lead (frames plan input) (plan_keeps plan input p limit) expects (all_frames s)

pub kept_carried : (plan : TalkPlan) (input places : List ℕ) (lead : ℕ) → IsPlan plan → length input ≤ most_input → Expects plan lead
    → AreCarried (journal plan input) lead (frames_at plan input places)
kept_carried plan input places lead p limit expects =
    let s = stream_of plan input in
    some_carried plan s lead (filter_map (slice_get (frames plan input)) places) (plan_keeps plan input p limit) expects (frames_in s places)

-- for audio, `StaysNearBy` is always true
near_as : (kind : TalkKind) (j : Journal) (numbers : List ℕ) → IsAudioKind kind → StaysNearBy kind j numbers
near_as (Aaf format sparse) j numbers kind = tt
near_as Am824 j numbers kind = tt
near_as (H264 last_stamp) j numbers kind = absurd kind

pub audio_near : (plan : TalkPlan) (input : List ℕ) (given : List SentFrame) → IsAudioPlan plan → StaysNear plan input given
audio_near plan input given p = near_as plan.kind (journal plan input).times (packet_numbers given) p.kind

near_by : (kind : TalkKind) (plan : TalkPlan) (input : List ℕ) → plan.kind ≡ kind → IsPlanOf kind plan → length input ≤ most_input
    → StaysNearBy kind (journal plan input).times (packet_numbers (frames plan input))
near_by (Aaf format sparse) plan input e p limit = tt
near_by Am824 plan input e p limit = tt
near_by (H264 false) plan input e p limit = tt
near_by (H264 true) plan input e p limit =
    let s = stream_of plan input in
    let plan_is : IsPlan plan = subst (λ (k : TalkKind). IsPlanOf k plan) (sym e) p in
    rw (frames_alone plan input plan_is p.crf limit, numbers_of s 0 (packets_in s)) (next_near s.journal.times 0 (packets_in s))

pub whole_near : (plan : TalkPlan) (input : List ℕ) → IsPlan plan → length input ≤ most_input → StaysNear plan input (frames plan input)
whole_near plan input p limit = near_by plan.kind plan input refl p limit

-- no packet is sent after it is due
pub stream_in_time : (plan : TalkPlan) (input : List ℕ) (n : ℕ) → IsPlan plan → IsAhead plan.crf plan.lead → length input ≤ most_input
    → n < (journal plan input).times.packets
    → IsSomeAnd (slice_get (stream_frames plan input) n) (λ f. f.arrival ≤ℤ pos ((journal plan input).times.due n))
stream_in_time plan input n p ready limit h =
    let s = stream_of plan input in
    let soon = (plan_keeps plan input p limit).early n ready h in
    rw (at_number s n h) (omega (arith, ints, soon))

pub sent_in_time : (plan : TalkPlan) (input : List ℕ) (n : ℕ) → IsPlan plan → plan.crf ≡ None → length input ≤ most_input
    → n < (journal plan input).times.packets
    → IsSomeAnd (slice_get (frames plan input) n) (λ f. f.arrival ≤ℤ pos ((journal plan input).times.due n))
sent_in_time plan input n p none limit h =
    let ready : IsAhead plan.crf plan.lead = rw none tt in
    rw (frames_alone plan input p none limit) (stream_in_time plan input n p ready limit h)

-- ---- packets

read_by : (plan : TalkPlan) (format : AafFormat) (sparse : Bool) (n : ℕ) (samples : List ℕ) (code : Option ℕ) → IsAudioPlan plan
    → plan.kind ≡ Aaf format sparse → rate_code plan.rate ≡ code → IsSome code
    → plan.id < 2 ^ 64 → length samples ≡ plan.count * frame_size plan.channels format
    → SpellsAaf (aaf_spelling (aaf_packet format sparse plan n samples)) (aaf_packet format sparse plan n samples)
read_by plan format sparse n samples None p kind e some id size = absurd cc
read_by plan format sparse n samples (Some code) p kind e some id size =
    packet_again (record { format = format; sparse = sparse; steady = false; code = code; headers = [] }) plan n samples p (record { kind = kind; code = e })
    id size

pub packet_read : (plan : TalkPlan) (format : AafFormat) (sparse : Bool) (n : ℕ) (samples : List ℕ) → IsAudioPlan plan → plan.kind ≡ Aaf format sparse
    → plan.id < 2 ^ 64
    → length samples ≡ plan.count * frame_size plan.channels format
    → SpellsAaf (aaf_spelling (aaf_packet format sparse plan n samples)) (aaf_packet format sparse plan n samples)
packet_read plan format sparse n samples p kind id size = read_by plan format sparse n samples (rate_code plan.rate) p kind refl (rw kind at p.rate) id size

blocks_by : (plan : TalkPlan) (n : ℕ) (blocks : List ℕ) (fdf : Option ℕ) → IsAudioPlan plan → plan.kind ≡ Am824 → fdf_of plan.rate ≡ fdf → IsSome fdf
    → plan.id < 2 ^ 64
    → length blocks ≡ plan.count * block_size plan.channels → SpellsIec (iec_spelling (iec_packet plan n blocks)) (iec_packet plan n blocks)
blocks_by plan n blocks None p kind e some id size = absurd cc
blocks_by plan n blocks (Some fdf) p kind e some id size =
    blocks_again (record { fdf = fdf; interval = interval_of plan.rate }) plan n blocks p
    (record { kind = kind; code = e; interval = stated_interval plan.rate fdf e }) id size

pub blocks_read : (plan : TalkPlan) (n : ℕ) (blocks : List ℕ) → IsAudioPlan plan → plan.kind ≡ Am824 → plan.id < 2 ^ 64
    → length blocks ≡ plan.count * block_size plan.channels
    → SpellsIec (iec_spelling (iec_packet plan n blocks)) (iec_packet plan n blocks)
blocks_read plan n blocks p kind id size =
    blocks_by plan n blocks (fdf_of plan.rate) p kind refl (subst (λ (kind : TalkKind). HasRate kind plan.rate) kind p.rate) id size
