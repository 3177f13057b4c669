-- The items that a listener makes of packets are within the limits of a schedule.
use Rattle.std.proofs.Common.{◌≡◌, ℕ, ◌+◌, ◌*◌, ◌/◌, ◌%◌, ◌^◌, ◌<◌, ◌≤◌, Bool, true, false, List, length, drop, Option, Some, None, refl, arith}
use Rattle.std.proofs.Math.Nat.{div-le_self}
use Rattle.std.proofs.lemmas.Bool.{ltb-false}
use Rattle.std.specs.Prelude.{◌==◌, unwrap_or, if◌then◌else◌, IfSome}
use Rattle.std.proofs.Math.Nat.{le-mul_of_pos_right, mul-mod_left, mul-pos}
use Rattle.std.proofs.lemmas.Bool.Decides.{nat_tests}
use Rattle.std.proofs.lemmas.List.{length-take, length-drop}
use Rattle.avtp_base.specs.Octets.{bits}
use Rattle.avtp_base.specs.Rows.{first_row, or_else}
use Rattle.avtp_base.specs.declared.refusal.Refusal.{Refusal}
use Rattle.avtp_base.proofs.BitLemmas.{bits-below}
use Rattle.avtp_base.proofs.RowLemmas.{or_else-none, rows_passed}
use Rattle.avtp_header.specs.Header.{kind_refusal}
use Rattle.aaf_format.specs.Aaf.{Aaf, aaf_of, aaf_refusal, aaf_subtype, frame_size, length_rows, rate_of, sample_rows}
use Rattle.aaf_format.proofs.AafLemmas.{aaf_spelled}
use Rattle.iec61883_format.specs.Iec.{Iec, IsSytInterval, block_size, data_size, iec_of, iec_refusal, no_data, rate_of_fdf, syt_interval}
use Rattle.iec61883_format.proofs.IecLemmas.{iec_spelled, iec_writable}
use Rattle.time_unfold.specs.Time.{IsArrival}
use Rattle.time_unfold.specs.declared.head_rule.HeadRule.TheVariants.{Own, Eight}
use Rattle.time_unfold.specs.Limits.{IsRule}
use Rattle.sample_schedule.specs.Limits.{IsItem}
use Rattle.packet_journal.specs.Deliveries.{Delivery}
use Rattle.listener.specs.Items.{aaf_item, block_rule, blocks_of, iec_item, item_of, refused_or, samples_of}

-- ---- packets

rate_fits : (nsr : ℕ) → (1 ≤ unwrap_or (rate_of nsr) 0 → 8000 ≤ unwrap_or (rate_of nsr) 0) × (unwrap_or (rate_of nsr) 0 ≤ 192000)
rate_fits nsr = (λ some. grind (arith, nat_tests), grind (arith, nat_tests))

counted_within : (count frame stated : ℕ) → count ≡ stated / frame → stated < 2 ^ 16 → count ≤ 65535
counted_within count frame stated e below = omega (arith, div-le_self stated frame)

rule_fits : (sparse : Bool) → IsRule (if sparse then Eight else Own)
rule_fits true = tt
rule_fits false = tt

payload_long : (bytes : List ℕ) → aaf_refusal bytes ≡ None → length (aaf_of bytes).payload ≡ bits 20 0 16 bytes
payload_long bytes accepted =
    let kind = or_else-none (kind_refusal aaf_subtype bytes) (or_else (first_row (sample_rows bytes)) (first_row (length_rows bytes))) accepted in
    let rows = or_else-none (first_row (sample_rows bytes)) (first_row (length_rows bytes)) kind.1 in
    let within = rows_passed (length_rows bytes) rows.1 in
    let long : 24 + bits 20 0 16 bytes ≤ length bytes = ltb-false _ _ within.0 in
    omega (arith, length-take (bits 20 0 16 bytes) (drop 24 bytes), length-drop 24 bytes)

whole_frames : (size count frame : ℕ) → count * frame ≡ size → size % count ≡ 0
whole_frames size count frame e = let turned : frame * count ≡ size = omega arith in rw (← turned) (mul-mod_left frame count)

samples_fit : (d : Delivery) → IsArrival d.arrival → aaf_refusal d.packet ≡ None → IsItem (samples_of d (aaf_of d.packet))
samples_fit d arrives accepted =
    let v : Aaf = aaf_of d.packet in
    let spelled = aaf_spelled d.packet accepted in
    record {
      arrival = arrives;
      count = counted_within v.count (frame_size v.channels v.format) (bits 20 0 16 d.packet) refl (bits-below 20 0 16 d.packet);
      frames = λ some. rw (payload_long d.packet accepted) (whole_frames (bits 20 0 16 d.packet) v.count (frame_size v.channels v.format) spelled.count);
      rate_from = (rate_fits v.nsr).0;
      rate_to = (rate_fits v.nsr).1;
      rule = rule_fits v.sparse;
    }

-- ---- data blocks

no_block_rate : (fdf : ℕ) → (1 ≤ unwrap_or (rate_of_fdf fdf) 0 → 8000 ≤ unwrap_or (rate_of_fdf fdf) 0) × (unwrap_or (rate_of_fdf fdf) 0 ≤ 192000)
no_block_rate fdf = (λ some. grind (arith, nat_tests), grind (arith, nat_tests))

rule_by : (dbc : ℕ) (o : Option ℕ) → IfSome o IsSytInterval → IsRule (block_rule dbc o)
rule_by dbc None is = tt
rule_by dbc (Some interval) is = is

interval_known : (fdf : ℕ) → IfSome (syt_interval fdf) IsSytInterval
interval_known fdf = grind (arith, nat_tests)

no_more : (fdf size : ℕ) → data_size fdf size ≤ size
no_more fdf size = by (fdf == no_data)
  where
    by : (b : Bool) → (if b then 0 else size) ≤ size
    by true = omega arith
    by false = omega arith

few_blocks : (count block fdf size : ℕ) → count * block ≡ data_size fdf size → 1 ≤ block → size < 2 ^ 16 → count ≤ 65535
few_blocks count block fdf size e some below = let least = le-mul_of_pos_right count some in let most = no_more fdf size in omega arith

whole_blocks : (fdf count block size : ℕ) → count * block ≡ data_size fdf size → 1 ≤ block → 1 ≤ count → size % count ≡ 0
whole_blocks fdf count block size e some there = by (fdf == no_data) e
  where
    by : (b : Bool) → count * block ≡ (if b then 0 else size) → size % count ≡ 0
    by true none = absurd (let least = mul-pos there some in omega arith)
    by false whole = whole_frames size count block whole

blocks_fit : (d : Delivery) → IsArrival d.arrival → iec_refusal d.packet ≡ None → IsItem (blocks_of d (iec_of d.packet))
blocks_fit d arrives accepted =
    let v : Iec = iec_of d.packet in
    let w = iec_writable d.packet v (iec_spelled d.packet accepted) in
    let stated : bits 20 0 16 d.packet ≡ 8 + length v.payload = w.data_length in
    let block : 1 ≤ block_size v.cip.dbs = omega (arith, w.some_quadlets) in
    record {
      arrival = arrives;
      count = few_blocks v.count (block_size v.cip.dbs) v.cip.fdf (length v.payload) w.count block (omega (arith, stated, bits-below 20 0 16 d.packet));
      frames = whole_blocks v.cip.fdf v.count (block_size v.cip.dbs) (length v.payload) w.count block;
      rate_from = (no_block_rate v.cip.fdf).0;
      rate_to = (no_block_rate v.cip.fdf).1;
      rule = rule_by v.cip.dbc (syt_interval v.cip.fdf) (interval_known v.cip.fdf);
    }

-- ---- items

aaf_fits_by : (d : Delivery) (refusal : Option Refusal) → aaf_refusal d.packet ≡ refusal → IsArrival d.arrival → IsItem (refused_or d refusal (samples_of d (aaf_of d.packet)))
aaf_fits_by d None e arrives = samples_fit d arrives e
aaf_fits_by d (Some refusal) e arrives = arrives

iec_fits_by : (d : Delivery) (refusal : Option Refusal) → iec_refusal d.packet ≡ refusal → IsArrival d.arrival → IsItem (refused_or d refusal (blocks_of d (iec_of d.packet)))
iec_fits_by d None e arrives = blocks_fit d arrives e
iec_fits_by d (Some refusal) e arrives = arrives

kind_fits : (b : Bool) (d : Delivery) → IsArrival d.arrival → IsItem (if b then aaf_item d else iec_item d)
kind_fits true d arrives = aaf_fits_by d (aaf_refusal d.packet) refl arrives
kind_fits false d arrives = iec_fits_by d (iec_refusal d.packet) refl arrives

pub item_fits : (d : Delivery) → IsArrival d.arrival → IsItem (item_of d)
item_fits d arrives = kind_fits (d.subtype == aaf_subtype) d arrives
