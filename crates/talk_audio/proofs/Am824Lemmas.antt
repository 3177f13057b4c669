-- AM824 fulfils `IsFormatOf`.
use Rattle.std.proofs.Common.{◌≡◌, ◌⊎◌, inl, inr, ℕ, zero, suc, ◌+◌, ◌-◌, ◌*◌, ◌%◌, ◌^◌, ◌<◌, ◌≤◌, Bool, true, false, List, [], ◌++◌, length, take, replicate}
use Rattle.std.proofs.Common.{Some, None, refl, subst, sym, ap, ◌∙◌, arith}
use Rattle.std.specs.Prelude.{◌==◌, if◌then◌else◌, nat_lt, flat_map, unwrap_or}
use Rattle.std.specs.Int.{div_ceil}
use Rattle.std.proofs.Math.Nat.{mul-le-mul_right}
use Rattle.std.proofs.lemmas.Bool.{cases_lt}
use Rattle.std.proofs.lemmas.Bool.Decides.{nat_tests}
use Rattle.std.proofs.lemmas.Grind.{div_ceil_times, flat_map-append}
use Rattle.std.proofs.Math.Seq.{take-append_seam}
use Rattle.std.proofs.lemmas.List.{append-nil, length-append, replicate-append-replicate}
use Rattle.std.proofs.lemmas.Nat.{mod_below}
use Rattle.byteorder.specs.Endian.{big_bytes}
use Rattle.byteorder.specs.Numbers.{length-bytes_high_first}
use Rattle.avtp_base.specs.Layout.{Fits}
use Rattle.iec61883_format.specs.Iec.{IsWritableIec, SpellsIec, block_size, data_size, iec_layout, syt_interval, iec_spelling}
use Rattle.iec61883_format.proofs.IecLemmas.{cip_fits, fits_whole, iec_again}
use Rattle.time_unfold.specs.declared.head_rule.Distance.{Distance}
use Rattle.packet_journal.specs.Packets.{IsIecPacket}
use Rattle.talk_audio.specs.declared.am824.Am824Format.{Am824Format}
use Rattle.talk_plan.specs.declared.plan.TalkKind.{TalkKind}
use Rattle.talk_plan.specs.declared.plan.TalkKind.TheVariants.{Am824}
use Rattle.talk_plan.specs.declared.plan.TalkPlan.{TalkPlan}
use Rattle.talk_audio.specs.Audio.{am824, silent_quadlets}
use Rattle.talk_audio.specs.Journal.{audio_times}
use Rattle.talk_audio.specs.Packets.{am824_kind, dbc_of, iec_packet, stamp_of}
use Rattle.talk_plan.specs.Plan.{ExpectsBy, FitsBlocks, FitsPacket, IsNearLead, IsAudioPlan, fdf_of, interval_of}
use Rattle.talk_audio.specs.Streams.{IsAm824}
use Rattle.talk_audio.proofs.DueLemmas.{IsFormatOf}
use Rattle.talk_audio.proofs.DueLemmas.{IsCountedBack, IsFound, IsKindOf}
use Rattle.talk_plan.proofs.HeaderLemmas.{header_fits}
use Rattle.talk_audio.proofs.HeaderLemmas.{header_is, iec_size}
use Rattle.talk_plan.proofs.RateLemmas.{known_fdf}
use Rattle.talk_plan.proofs.RunLemmas.{whole}

pub blocks_fit : (plan : TalkPlan) → IsAudioPlan plan → plan.kind ≡ Am824 → FitsBlocks plan
blocks_fit plan p kind = subst (λ (kind : TalkKind). FitsPacket kind plan) kind p.fits

-- ---- silence

abbrev quadlets : ℕ → List ℕ
quadlets k = flat_map (big_bytes 4) (replicate k 0x40000000)

length-quadlets : (k : ℕ) → length (quadlets k) ≡ 4 * k
length-quadlets zero = refl
length-quadlets (suc k) =
    let here = length-append (big_bytes 4 0x40000000) (quadlets k) in
    omega (arith, here, length-bytes_high_first 4 0x40000000, length-quadlets k)

length-silent : (k : ℕ) → length (silent_quadlets k) ≡ 4 * k
unfolding silent_quadlets
length-silent k = length-quadlets k

split : (k m n : ℕ) → k + m ≡ n → silent_quadlets n ≡ silent_quadlets k ++ silent_quadlets m
unfolding silent_quadlets
split k m n e =
    let parts : replicate k 0x40000000 ++ replicate m 0x40000000 ≡ replicate n 0x40000000 = replicate-append-replicate k m 0x40000000
    ∙ ap (λ (i : ℕ). replicate i 0x40000000) e in
    ap (flat_map (big_bytes 4)) (sym parts) ∙ flat_map-append (big_bytes 4) (replicate k 0x40000000) (replicate m 0x40000000)

some_silent : (size k n : ℕ) → size ≡ 4 * k → k ≤ n → take size (silent_quadlets n) ≡ silent_quadlets k
some_silent size k n e few =
    let whole = split k (n - k) n (omega arith) in
    let long : size ≡ length (silent_quadlets k) = e ∙ sym (length-silent k) in
    rw (whole, long) (take-append_seam (silent_quadlets k) (silent_quadlets (n - k)))

-- the start of `silent_quadlets 369` is a packet of silence
pub packet_of_silence : (f : Am824Format) (plan : TalkPlan) → IsAudioPlan plan → IsAm824 f plan
    → take (plan.count * block_size plan.channels) (silent_quadlets 369) ≡ (am824 plan).silence
packet_of_silence f plan p is =
    let fit = blocks_fit plan p is.kind in
    let size : plan.count * block_size plan.channels ≡ 4 * (plan.count * plan.channels) = omega arith in
    some_silent (plan.count * block_size plan.channels) (plan.count * plan.channels) 369 size (omega (arith, fit.size))

-- ---- the times of AM824

abbrev IsInterval : ℕ → Type 0
IsInterval interval = (interval ≡ 8) ⊎ ((interval ≡ 16) ⊎ (interval ≡ 32))

standard : (fdf interval : ℕ) → fdf ≤ 6 → syt_interval fdf ≡ Some interval → IsInterval interval
standard zero interval few e = inl (sym cc)
standard (suc zero) interval few e = inl (sym cc)
standard (suc (suc zero)) interval few e = inl (sym cc)
standard (suc (suc (suc zero))) interval few e = inr (inl (sym cc))
standard (suc (suc (suc (suc zero)))) interval few e = inr (inl (sym cc))
standard (suc (suc (suc (suc (suc zero))))) interval few e = inr (inr (sym cc))
standard (suc (suc (suc (suc (suc (suc zero)))))) interval few e = inr (inr (sym cc))
standard (suc (suc (suc (suc (suc (suc (suc fdf))))))) interval few e = absurd (omega arith)

interval_is : (f : Am824Format) (plan : TalkPlan) → IsAm824 f plan → interval_of plan.rate ≡ f.interval
interval_is f plan is = rw (is.code, is.interval) refl

between : (x y n count interval : ℕ) → IsInterval interval → x + y ≡ n → count ≤ (interval - n % 256 % interval) % interval → 1 ≤ n % 256 % interval
    → n % 256 % interval ≤ y → y < n % 256 % interval + count → (interval - x % 256 % interval) % interval + n % 256 % interval ≡ y
between x y n count interval (inl e) sum unstamped some from to = rw e (between_8 (rw e at unstamped) (rw e at some) (rw e at from) (rw e at to))
  where
    between_8 : count ≤ (8 - n % 256 % 8) % 8 → 1 ≤ n % 256 % 8 → n % 256 % 8 ≤ y → y < n % 256 % 8 + count → (8 - x % 256 % 8) % 8 + n % 256 % 8 ≡ y
    between_8 unstamped some from to = omega arith
between x y n count interval (inr (inl e)) sum unstamped some from to = rw e (between_16 (rw e at unstamped) (rw e at some) (rw e at from) (rw e at to))
  where
    between_16 : count ≤ (16 - n % 256 % 16) % 16 → 1 ≤ n % 256 % 16 → n % 256 % 16 ≤ y → y < n % 256 % 16 + count → (16 - x % 256 % 16) % 16 + n % 256 % 16 ≡ y
    between_16 unstamped some from to = omega arith
between x y n count interval (inr (inr e)) sum unstamped some from to = rw e (between_32 (rw e at unstamped) (rw e at some) (rw e at from) (rw e at to))
  where
    between_32 : count ≤ (32 - n % 256 % 32) % 32 → 1 ≤ n % 256 % 32 → n % 256 % 32 ≤ y → y < n % 256 % 32 + count → (32 - x % 256 % 32) % 32 + n % 256 % 32 ≡ y
    between_32 unstamped some from to = omega arith

back_by : (plan : TalkPlan) (n interval : ℕ) (far : Distance) (a b : Bool) → IsAudioPlan plan → IsInterval interval → interval_of plan.rate ≡ interval
    → (dbc_of plan n % interval == 0) ≡ a → nat_lt 7 (div_ceil (dbc_of plan n % interval) plan.count) ≡ b
    → plan.count ≤ (interval - dbc_of plan n % interval) % interval → far.packets ≤ n
    → (if a then None else if b then None else Some (record { packets = div_ceil (dbc_of plan n % interval) plan.count; samples = dbc_of plan n % interval }))
    ≡ Some far
    → IsCountedBack (am824_kind plan) plan.count n far
back_by plan n interval far true b p of is e f unstamped back h = absurd cc
back_by plan n interval far false true p of is e f unstamped back h = absurd cc
back_by plan n interval far false false p of is e f unstamped back h =
    let r : ℕ = dbc_of plan n % interval in
    let d : ℕ = div_ceil r plan.count in
    let same : record { packets = d; samples = r } ≡ far = cc in
    let packets : d ≡ far.packets = ap (λ (x : Distance). x.packets) same in
    let some : 1 ≤ r = grind (arith, nat_tests) in
    let few : d ≤ 7 = grind (arith, nat_tests) in
    let times = div_ceil_times r plan.count p.some_count in
    let parts : (n - d) * plan.count + d * plan.count ≡ n * plan.count = whole (n - d) d n plan.count (omega arith) in
    let place = between ((n - d) * plan.count) (d * plan.count) (n * plan.count) plan.count interval of parts unstamped some times.0 times.1 in
    rw (← same, is) (record { few = few; place = place })

back_few : (r interval count : ℕ) → IsInterval interval → 1 ≤ count → interval ≤ 8 * count → count ≤ (interval - r) % interval → r < interval
    → (1 ≤ r) × (r ≤ 7 * count)
back_few r interval count (inl e) some eighth unstamped within = back_few_8 (rw e at eighth) (rw e at unstamped) (rw e at within)
  where
    back_few_8 : 8 ≤ 8 * count → count ≤ (8 - r) % 8 → r < 8 → (1 ≤ r) × (r ≤ 7 * count)
    back_few_8 eighth unstamped within = (omega arith, omega arith)
back_few r interval count (inr (inl e)) some eighth unstamped within = back_few_16 (rw e at eighth) (rw e at unstamped) (rw e at within)
  where
    back_few_16 : 16 ≤ 8 * count → count ≤ (16 - r) % 16 → r < 16 → (1 ≤ r) × (r ≤ 7 * count)
    back_few_16 eighth unstamped within = (omega arith, omega arith)
back_few r interval count (inr (inr e)) some eighth unstamped within = back_few_32 (rw e at eighth) (rw e at unstamped) (rw e at within)
  where
    back_few_32 : 32 ≤ 8 * count → count ≤ (32 - r) % 32 → r < 32 → (1 ≤ r) × (r ≤ 7 * count)
    back_few_32 eighth unstamped within = (omega arith, omega arith)

few_packets : (d r count : ℕ) → 1 ≤ count → r ≤ 7 * count → d * count < r + count → d ≤ 7
few_packets d r count some few times = elim (cases_lt 7 d) [
  | inl more ↦ let least : 8 * count ≤ d * count = mul-le-mul_right count (omega arith) in absurd (omega arith)
  | inr not ↦ not
]

not_zero : (r : ℕ) → 1 ≤ r → (r == 0) ≡ false
not_zero r some = grind (arith, nat_tests)

not_more : (d : ℕ) → d ≤ 7 → nat_lt 7 d ≡ false
not_more d few = grind (arith, nat_tests)

is_below : (i count : ℕ) → i < count → nat_lt i count ≡ true
is_below i count h = grind (arith, nat_tests)

some_interval_of : (interval : ℕ) → IsInterval interval → 0 < interval
some_interval_of interval (inl e) = omega arith
some_interval_of interval (inr (inl e)) = omega arith
some_interval_of interval (inr (inr e)) = omega arith

-- if packet n has no timestamp and n is at least 7, the time of packet n is counted from one of the seven packets
-- before it
blocks_found : (plan : TalkPlan) (n : ℕ) → IsAudioPlan plan → IsInterval (interval_of plan.rate) → interval_of plan.rate ≤ 8 * plan.count
    → plan.count ≤ (interval_of plan.rate - dbc_of plan n % interval_of plan.rate) % interval_of plan.rate → 7 ≤ n → IsFound (am824_kind plan) plan.count n
blocks_found plan n p of eighth unstamped behind =
    let interval : ℕ = interval_of plan.rate in
    let r : ℕ = dbc_of plan n % interval in
    let d : ℕ = div_ceil r plan.count in
    let within : r < interval = mod_below (dbc_of plan n) interval (some_interval_of interval of) in
    let back = back_few r interval plan.count of p.some_count eighth unstamped within in
    let times = div_ceil_times r plan.count p.some_count in
    let few : d ≤ 7 = few_packets d r plan.count p.some_count back.1 times.1 in
    let parts : (n - d) * plan.count + d * plan.count ≡ n * plan.count = whole (n - d) d n plan.count (omega arith) in
    let place = between ((n - d) * plan.count) (d * plan.count) (n * plan.count) plan.count interval of parts unstamped back.0 times.0 times.1 in
    record {
      far = record { packets = d; samples = r };
      is_far = rw (not_zero r back.0, not_more d few) refl;
      few = few;
      stamped = is_below ((interval - dbc_of plan (n - d) % interval) % interval) plan.count (omega (arith, place, times.1));
    }

goes_on : (m c : ℕ) → (m + c) % 256 ≡ (m % 256 + c) % 256
goes_on m c = omega arith

first_block : (plan : TalkPlan) (interval : ℕ) → IsInterval interval → (interval - 0 * plan.count % 256 % interval) % interval ≡ 0
first_block plan interval of = let none : 0 * plan.count ≡ 0 = omega arith in rw none (none_left interval of)
  where
    none_left : (interval : ℕ) → IsInterval interval → (interval - 0 % 256 % interval) % interval ≡ 0
    none_left interval (inl e) = rw e refl
    none_left interval (inr (inl e)) = rw e refl
    none_left interval (inr (inr e)) = rw e refl

pub am824_times : (f : Am824Format) (plan : TalkPlan) → IsAudioPlan plan → IsAm824 f plan → IsKindOf plan (am824_kind plan)
am824_times f plan p is =
    let interval : ℕ = interval_of plan.rate in
    let same = interval_is f plan is in
    let of : IsInterval interval = rw same (standard f.fdf f.interval (known_fdf plan.rate f.fdf is.code).few is.interval) in
    record {
      within = λ n stamped. below ((interval - dbc_of plan n % interval) % interval) plan.count stamped;
      back = λ n far unstamped back h.
          back_by plan n interval far (dbc_of plan n % interval == 0) (nat_lt 7 (div_ceil (dbc_of plan n % interval) plan.count)) p of refl refl refl
          (above ((interval - dbc_of plan n % interval) % interval) plan.count unstamped) back h;
      found = λ n behind unstamped. blocks_found plan n p of (blocks_fit plan p is.kind).some
          (above ((interval - dbc_of plan n % interval) % interval) plan.count unstamped) behind;
      blocks = λ packets. record {
        standard = of;
        first = omega arith;
        next = λ n h. (let next : suc n * plan.count ≡ n * plan.count + plan.count = omega arith in ap (λ (k : ℕ). k % 256) next
            ∙ goes_on (n * plan.count) plan.count);
      };
      of_kind = λ j audio agrees. (audio, agrees);
      whole = λ n fragment. fragment;
      first = first_block plan (interval_of plan.rate) of;
    }
  where
    below : (i count : ℕ) → nat_lt i count ≡ true → i < count
    below i count e = grind (arith, nat_tests)

    above : (i count : ℕ) → nat_lt i count ≡ false → count ≤ i
    above i count e = grind (arith, nat_tests)

fewer_than : (interval i count : ℕ) → 0 < interval → nat_lt (i % interval) count ≡ false → count < interval
fewer_than interval i count some e =
    let least : count ≤ i % interval = grind (arith, nat_tests) in
    let most = mod_below i interval some in
    omega arith

-- a packet without a stamped block has fewer blocks than the interval
fewer : (dbc interval count : ℕ) → IsInterval interval → nat_lt ((interval - dbc % interval) % interval) count ≡ false → count < interval
fewer dbc interval count (inl e) unstamped = rw e (fewer_than 8 (8 - dbc % 8) count (omega arith) (rw e at unstamped))
fewer dbc interval count (inr (inl e)) unstamped = rw e (fewer_than 16 (16 - dbc % 16) count (omega arith) (rw e at unstamped))
fewer dbc interval count (inr (inr e)) unstamped = rw e (fewer_than 32 (32 - dbc % 32) count (omega arith) (rw e at unstamped))

leads_by : (kind : TalkKind) (plan : TalkPlan) (lead : ℕ) → kind ≡ Am824 → ExpectsBy kind plan lead → plan.count < interval_of plan.rate → IsNearLead plan lead
leads_by kind plan lead e expects few = (rw e at expects) few

-- ---- the packets of AM824

fdf_is : (f : Am824Format) (plan : TalkPlan) → IsAm824 f plan → unwrap_or (fdf_of plan.rate) 0 ≡ f.fdf
fdf_is f plan is = rw (is.code) refl

all_data : (fdf size : ℕ) → fdf ≤ 6 → data_size fdf size ≡ size
all_data fdf size few = let other : (fdf == 255) ≡ false = grind (arith, nat_tests) in rw other refl

pub writable : (f : Am824Format) (plan : TalkPlan) (n : ℕ) (blocks : List ℕ) → IsAudioPlan plan → IsAm824 f plan
    → length blocks ≡ plan.count * block_size plan.channels
    → IsWritableIec (iec_packet plan n blocks)
writable f plan n blocks p is size =
    let fdf = fdf_is f plan is in
    let rate = known_fdf plan.rate f.fdf is.code in
    let few : unwrap_or (fdf_of plan.rate) 0 ≤ 6 = omega (arith, fdf, rate.few) in
    let fit = blocks_fit plan p is.kind in
    record {
      subtype = refl;
      channel = omega arith;
      tcode = omega arith;
      sy = omega arith;
      sid = omega arith;
      some_quadlets = p.some_channels;
      quadlets = fit.quadlets;
      fdf = inl few;
      data_length = omega (arith, size);
      count = sym (all_data (unwrap_or (fdf_of plan.rate) 0) (length blocks) few ∙ size);
    }

fits : (f : Am824Format) (plan : TalkPlan) (n : ℕ) (blocks : List ℕ) → IsAudioPlan plan → IsAm824 f plan → plan.id < 2 ^ 64
    → length blocks ≡ plan.count * block_size plan.channels
    → Fits iec_layout (iec_packet plan n blocks)
fits f plan n blocks p is id size =
    let fit = blocks_fit plan p is.kind in
    let fdf = fdf_is f plan is in
    let rate = known_fdf plan.rate f.fdf is.code in
    fits_whole (iec_packet plan n blocks) 0 0 0 (writable f plan n blocks p is size) refl
    (header_fits 0 (stamp_of (am824_kind plan) plan n) plan n (8 + plan.count * block_size plan.channels) (omega arith) id (omega (arith, fit.size)))
    (cip_fits (iec_packet plan n blocks).cip (omega arith) fit.quadlets (omega arith) (omega (arith, fdf, rate.few)) (omega arith))

pub blocks_again : (f : Am824Format) (plan : TalkPlan) (n : ℕ) (blocks : List ℕ) → IsAudioPlan plan → IsAm824 f plan → plan.id < 2 ^ 64
    → length blocks ≡ plan.count * block_size plan.channels
    → SpellsIec (iec_spelling (iec_packet plan n blocks)) (iec_packet plan n blocks)
blocks_again f plan n blocks p is id size =
    let v = iec_packet plan n blocks in
    rw append-nil at (iec_again v [] (writable f plan n blocks p is size) (fits f plan n blocks p is id size))

packet_is : (f : Am824Format) (plan : TalkPlan) (packets n : ℕ) (blocks : List ℕ) → IsAudioPlan plan → IsAm824 f plan → plan.id < 2 ^ 64
    → length blocks ≡ plan.count * block_size plan.channels
    → IsIecPacket (audio_times (am824_kind plan) plan packets) (interval_of plan.rate) (dbc_of plan n) plan.id n (iec_packet plan n blocks)
packet_is f plan packets n blocks p is id size =
    let fdf = fdf_is f plan is in
    record {
      writable = writable f plan n blocks p is size;
      fits = fits f plan n blocks p is id size;
      header = header_is (am824_kind plan) plan packets 0 n (8 + plan.count * block_size plan.channels);
      rate = rw fdf (known_fdf plan.rate f.fdf is.code).named;
      interval_is = rw fdf (is.interval ∙ ap (λ (i : ℕ). Some i) (sym (interval_is f plan is)));
      block = refl;
      count = refl;
    }

-- ---- the format

pub am824_format : (f : Am824Format) (plan : TalkPlan) → IsAudioPlan plan → IsAm824 f plan → IsFormatOf plan (am824 plan) 50
am824_format f plan p is =
    let fit = blocks_fit plan p is.kind in
    let channels = p.some_channels in
    record {
      some = omega arith;
      size = omega (arith, fit.size);
      silence = (let quarter : 4 * (plan.count * plan.channels) ≡ plan.count * block_size plan.channels = omega arith in length-silent
          (plan.count * plan.channels) ∙ quarter);
      kind = am824_times f plan p is;
      bytes = λ n blocks size. omega (arith, iec_size (iec_packet plan n blocks), size);
      packet = λ packets n blocks id size. packet_is f plan packets n blocks p is id size;
      leads = λ lead n expects unstamped.
          leads_by plan.kind plan lead is.kind expects
          (fewer (dbc_of plan n) (interval_of plan.rate) plan.count (rw (interval_is f plan is)
          (standard f.fdf f.interval (known_fdf plan.rate f.fdf is.code).few is.interval)) unstamped);
    }
