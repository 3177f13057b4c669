-- PCM fulfils `IsFormatOf`.
use Rattle.std.proofs.Common.{◌∷◌, ◌-◌, ◌≡◌, ℕ, ◌+◌, ◌*◌, ◌^◌, ◌<◌, ◌≤◌, Bool, true, false, ◌%◌, List, [], ◌++◌, length, take, drop, append_assoc, replicate}
use Rattle.std.proofs.Common.{Some, None, refl, sym, ap, ◌∙◌, arith}
use Rattle.std.specs.Prelude.{◌==◌, if◌then◌else◌, is_some, unwrap_or}
use Rattle.std.proofs.Math.Nat.{mul-pos}
use Rattle.std.proofs.Math.ListN.{drop_of_length-le}
use Rattle.std.proofs.Math.Seq.{drop-append-add, drop-append_seam, take-append-add, take-append_seam}
use Rattle.std.proofs.lemmas.List.{append-nil, length-append, length-drop, length-replicate, length-take-le, take-append-drop, take-append-le, take-replicate}
use Rattle.std.proofs.lemmas.List.{take-take, take_all}
use Rattle.std.proofs.lemmas.Slice.{drop-append-drop}
use Rattle.avtp_base.specs.Layout.{Fits, spelling}
use Rattle.avtp_base.specs.Octets.{flag}
use Rattle.avtp_base.proofs.BitLemmas.{flag-below}
use Rattle.avtp_header.specs.declared.header.StreamHeader.{StreamHeader}
use Rattle.aaf_format.specs.declared.aaf.AafFormat.{AafFormat}
use Rattle.aaf_format.specs.Aaf.{Aaf as Packet, IsWritableAaf, SpellsAaf, aaf_layout, aaf_spelling, frame_size}
use Rattle.aaf_format.proofs.AafLemmas.{aaf_again, fits_whole, width-some}
use Rattle.pcap_frames.specs.Frame.{frame_layout}
use Rattle.time_unfold.specs.declared.head_rule.Distance.{Distance}
use Rattle.stream_journal.specs.Journal.{Journal, rule_of}
use Rattle.stream_journal.specs.Conforming.{is_stamped}
use Rattle.packet_journal.specs.Packets.{IsAafPacket, IsPacket, Pcm}
use Rattle.talk_audio.specs.declared.pcm.PcmFormat.{PcmFormat}
use Rattle.talk_plan.specs.declared.plan.TalkKind.{TalkKind}
use Rattle.talk_plan.specs.declared.plan.TalkKind.TheVariants.{Aaf}
use Rattle.talk_plan.specs.declared.plan.TalkPlan.{TalkPlan}
use Rattle.talk_audio.specs.Audio.{pcm}
use Rattle.talk_audio.specs.Packets.{aaf_bytes, aaf_packet, kind_of, stamp_of}
use Rattle.talk_plan.specs.Ethernet.{ethernet, packet_bytes}
use Rattle.talk_audio.specs.Journal.{audio_times}
use Rattle.talk_plan.specs.Stamps.{stamped_instant}
use Rattle.talk_audio.specs.state.Packets.{front_of, patched}
use Rattle.talk_plan.specs.Plan.{ExpectsBy, IsNearLead, IsAudioPlan, rate_code}
use Rattle.talk_audio.specs.Streams.{HasHeaders, IsPcm, IsSteady}
use Rattle.talk_plan.specs.Timing.{mr_of}
use Rattle.talk_audio.proofs.DueLemmas.{IsFormatOf}
use Rattle.talk_audio.proofs.DueLemmas.{IsCountedBack, IsFound, IsKindOf}
use Rattle.talk_plan.proofs.HeaderLemmas.{header_fits}
use Rattle.talk_audio.proofs.HeaderLemmas.{header_is, aaf_size}
use Rattle.talk_plan.proofs.RateLemmas.{known_rate}
use Rattle.avtp_base.proofs.OnlySpelling.{length-spelling}

pub frame_some : (plan : TalkPlan) (format : AafFormat) → IsAudioPlan plan → 0 < frame_size plan.channels format
frame_some plan format p = mul-pos p.some_channels (width-some format)

pub size_fits : (plan : TalkPlan) (format : AafFormat) (sparse : Bool) → IsAudioPlan plan → plan.kind ≡ Aaf format sparse
    → plan.count * frame_size plan.channels format ≤ 1476
size_fits plan format sparse p kind = rw kind at p.fits

pub zeros : (f : PcmFormat) (plan : TalkPlan) → IsAudioPlan plan → IsPcm f plan
    → take (plan.count * frame_size plan.channels f.format) (replicate 1476 0) ≡ (pcm f.format f.sparse plan).silence
zeros f plan p is = take-replicate (plan.count * frame_size plan.channels f.format) 1476 0 (size_fits plan f.format f.sparse p is.kind)

-- ---- headers

-- replacing the first four bytes and the timestamp of packet 0's header gives packet n's header
over_header : (format : AafFormat) (sparse : Bool) (plan : TalkPlan) (n : ℕ) (samples first : List ℕ) (h : StreamHeader)
    → first ≡ spelling aaf_layout (aaf_packet format sparse plan 0 [])
    → h ≡ (aaf_packet format sparse plan n samples).header
    → patched first 0 (front_of h) h.timestamp ++ samples ≡ aaf_spelling (aaf_packet format sparse plan n samples)
over_header format sparse plan n samples first h first_is h_is =
    let mr = flag-below (mr_of plan n) in
    let tv = flag-below (is_some (stamp_of (kind_of sparse) plan n)) in
    let second : (((8 * 2 + flag (mr_of plan n)) * 4 + 0) * 2 + flag (is_some (stamp_of (kind_of sparse) plan n))) % 256 ≡ 128 + 8 * flag (mr_of plan n) + flag
    (is_some (stamp_of (kind_of sparse) plan n)) = omega arith in
    let third : n % 256 % 256 ≡ n % 256 = omega arith in
    rw (h_is, first_is, second, third) refl

-- the frame of packet n, made from the headers of packet 0's frame
pub over_first : (format : AafFormat) (sparse : Bool) (plan : TalkPlan) (n : ℕ) (samples headers : List ℕ) (h : StreamHeader)
    → HasHeaders headers (aaf_packet format sparse plan 0 [])
    → h ≡ (aaf_packet format sparse plan n samples).header
    → take 18 headers ++ (patched (drop 18 headers) 0 (front_of h) h.timestamp ++ samples) ≡ aaf_bytes format sparse plan n samples
unfolding packet_bytes
over_first format sparse plan n samples headers h has h_is =
    rw (has.frame, over_header format sparse plan n samples (drop 18 headers) h has.packet h_is) refl

-- in a steady stream, packet n's header differs from packet 0's only in the sequence number and the timestamp
steady_header : (format : AafFormat) (plan : TalkPlan) (n : ℕ) (samples first : List ℕ) (instant : ℕ) → plan.restart ≡ None
    → first ≡ spelling aaf_layout (aaf_packet format false plan 0 []) → instant ≡ stamped_instant plan n 0
    → patched first 2 (n % 256 ∷ []) (instant % 2 ^ 32) ++ samples ≡ aaf_spelling (aaf_packet format false plan n samples)
steady_header format plan n samples first instant once first_is stamp =
    let third : n % 256 % 256 ≡ n % 256 = omega arith in
    rw (first_is, stamp, once, third) refl

pub over_steady : (format : AafFormat) (sparse : Bool) (plan : TalkPlan) (n : ℕ) (samples headers : List ℕ) (instant : ℕ) → IsSteady sparse plan
    → HasHeaders headers (aaf_packet format sparse plan 0 [])
    → instant ≡ stamped_instant plan n 0
    → take 18 headers ++ (patched (drop 18 headers) 2 (n % 256 ∷ []) (instant % 2 ^ 32) ++ samples) ≡ aaf_bytes format sparse plan n samples
unfolding packet_bytes
over_steady format true plan n samples headers instant steady has stamp =
    let not : true ≡ false = steady.dense in
    absurd cc
over_steady format false plan n samples headers instant steady has stamp =
    rw (has.frame, steady_header format plan n samples (drop 18 headers) instant steady.once has.packet stamp) refl

-- the Ethernet header of a packet's frame, then the packet's own header
abbrev pub both_headers : Packet → List ℕ
both_headers v = spelling (frame_layout true) (ethernet []) ++ spelling aaf_layout v

parted : (xs ys : List ℕ) (n : ℕ) → length xs ≡ n → (take n (xs ++ ys) ≡ xs) × (drop n (xs ++ ys) ≡ ys)
parted xs ys n long = (rw long at (take-append_seam xs ys), rw long at (drop-append_seam xs ys))

pub has_both : (v : Packet) → HasHeaders (both_headers v) v
has_both v =
    let parts = parted (spelling (frame_layout true) (ethernet [])) (spelling aaf_layout v) 18 (length-spelling (frame_layout true) (ethernet [])) in
    record { frame = parts.0; packet = parts.1 }

patched_is : (h a t : List ℕ) (p q : ℕ) → length h ≡ 24 → p + length a ≡ q → q ≤ 12
    → take 12 (take p h ++ (a ++ drop q h)) ++ (t ++ drop 16 (take p h ++ (a ++ drop q h)))
    ≡ take p h ++ (a ++ (take (12 - q) (drop q h) ++ (t ++ take 8 (drop 16 h))))
patched_is h a t p q lh la few =
    let b = take p h ++ a in
    let rest = drop q h in
    let lb : length b ≡ q = omega (arith, length-append (take p h) a, length-take-le p h (omega (arith, lh, la, few)), la) in
    let whole : take p h ++ (a ++ rest) ≡ b ++ rest = sym (append_assoc (take p h) a rest) in
    let twelve : length b + (12 - q) ≡ 12 = omega (arith, lb, few) in
    let front : take 12 (b ++ rest) ≡ b ++ take (12 - q) rest = rw twelve at (take-append-add b rest (12 - q)) in
    let end : drop 16 (b ++ rest) ≡ take 8 (drop 16 h) = drop-append-drop q h b 16 (omega (arith, few)) lb
    ∙ sym (take_all 8 (drop 16 h) (omega (arith, length-drop 16 h, lh))) in
    rw (whole, front, end) simp append_assoc

pub patched_behind : (o o1 o2 o3 all a t : List ℕ) (p n : ℕ) → length o ≡ 42 → length all ≡ 42 → length a ≡ n → p + n ≤ 12
    → o1 ≡ take 0 o ++ (all ++ drop (0 + 42) o) → o2 ≡ take (18 + p) o1 ++ (a ++ drop (18 + p + n) o1) → o3 ≡ take (18 + 12) o2 ++ (t ++ drop (18 + 12 + 4) o2)
    → o3 ≡ take 18 all ++ (take p (drop 18 all) ++ (a ++ (take (12 - (p + length a)) (drop (p + length a) (drop 18 all)) ++ (t ++ take 8 (drop 16 (drop 18 all))))))
patched_behind o o1 o2 o3 all a t p n lo lall la few h1 h2 h3 =
    let e = take 18 all in
    let h = drop 18 all in
    let x = take p h ++ (a ++ drop (p + n) h) in
    let le : length e ≡ 18 = length-take-le 18 all (omega (arith, lall)) in
    let first : o1 ≡ e ++ h = h1 ∙ rw (drop_of_length-le o {i = 42} (omega (arith, lo))) (append-nil all) ∙ sym (take-append-drop 18 all) in
    let before : take (18 + p) (e ++ h) ≡ e ++ take p h = rw le at (take-append-add e h p) in
    let after : drop (18 + (p + n)) (e ++ h) ≡ drop (p + n) h = rw le at (drop-append-add e h (p + n)) in
    let both : 18 + p + n ≡ 18 + (p + n) = omega arith in
    let second : o2 ≡ e ++ x = h2 ∙ rw (first, before, both, after) (append_assoc e (take p h) (a ++ drop (p + n) h)) in
    let front : take 30 (e ++ x) ≡ e ++ take 12 x = rw le at (take-append-add e x 12) in
    let end : drop 34 (e ++ x) ≡ drop 16 x = rw le at (drop-append-add e x 16) in
    h3 ∙ rw (second, front, end, la) (append_assoc e (take 12 x) (t ++ drop 16 x)
    ∙ ap (λ (y : List ℕ). e ++ y) (patched_is h a t p (p + n) (omega (arith, length-drop 18 all, lall)) (omega (arith, la)) few))

-- if `samples` has 16 to 32 bytes, writing its first 16 bytes and its last 16 bytes writes all of it
pub in_parts : (o o1 o2 samples first last : List ℕ) (k : ℕ) → length o ≡ length samples → k ≤ 16 → k + 16 ≡ length samples → first ≡ take 16 samples
    → last ≡ drop k samples
    → o1 ≡ take 0 o ++ (first ++ drop (0 + 16) o) → o2 ≡ take k o1 ++ (last ++ drop (k + 16) o1)
    → o2 ≡ samples
in_parts o o1 o2 samples first last k lo few size first_is last_is h1 h2 =
    let long : length (take 16 samples) ≡ 16 = length-take-le 16 samples (omega (arith, size)) in
    let o1_is : o1 ≡ take 16 samples ++ drop 16 o = rw first_is at h1 in
    let front : take k (take 16 samples ++ drop 16 o) ≡ take k samples = take-append-le k (take 16 samples) (drop 16 o) (omega (arith, long, few))
    ∙ take-take k 16 samples few in
    let behind : drop (k + 16) (take 16 samples ++ drop 16 o) ≡ [] = drop_of_length-le (take 16 samples ++ drop 16 o) {i = k + 16}
    (omega (arith, length-append (take 16 samples) (drop 16 o), long, length-drop 16 o, lo, size)) in
    h2 ∙ rw (o1_is, front, behind, last_is, append-nil (drop k samples)) (take-append-drop k samples)

-- ---- the times of PCM

eighth_back : (plan : TalkPlan) (n : ℕ) (far : Distance) (b : Bool) → (n % 8 == 0) ≡ b
    → (if b then None else Some (record { packets = n % 8; samples = n % 8 * plan.count })) ≡ Some far → IsCountedBack (kind_of true) plan.count n far
eighth_back plan n far true e f = absurd cc
eighth_back plan n far false e f =
    let same : record { packets = n % 8; samples = n % 8 * plan.count } ≡ far = cc in
    rw (← same) (record { few = omega arith; place = omega arith })

eighth_found : (plan : TalkPlan) (n : ℕ) → (n % 8 == 0) ≡ false → IsFound (kind_of true) plan.count n
eighth_found plan n e =
    let none : (n - n % 8) % 8 ≡ 0 = omega arith in
    record {
      far = record { packets = n % 8; samples = n % 8 * plan.count };
      is_far = rw e refl;
      few = omega arith;
      stamped = rw none refl;
    }

pub pcm_kind : (plan : TalkPlan) (sparse : Bool) → IsAudioPlan plan → IsKindOf plan (kind_of sparse)
pcm_kind plan false p = record {
  within = λ n stamped. p.some_count;
  back = λ n far unstamped behind far_is. absurd cc;
  found = λ n behind unstamped. absurd cc;
  blocks = λ packets. tt;
  of_kind = λ j audio agrees. (audio, agrees);
  whole = λ n fragment. fragment;
  first = refl;
}
pcm_kind plan true p = record {
  within = λ n stamped. p.some_count;
  back = λ n far unstamped behind far_is. eighth_back plan n far (n % 8 == 0) refl far_is;
  found = λ n behind unstamped. eighth_found plan n unstamped;
  blocks = λ packets. tt;
  of_kind = λ j audio agrees. (audio, agrees);
  whole = λ n fragment. fragment;
  first = refl;
}

leads_by : (kind : TalkKind) (format : AafFormat) (sparse : Bool) (plan : TalkPlan) (lead n : ℕ) → kind ≡ Aaf format sparse → ExpectsBy kind plan lead
    → is_stamped (rule_of (kind_of sparse) n) n plan.count ≡ false → IsNearLead plan lead
leads_by kind format false plan lead n e expects unstamped = absurd cc
leads_by kind format true plan lead n e expects unstamped = rw e at expects

-- ---- the packets of PCM

code_is : (plan : TalkPlan) (code : ℕ) → rate_code plan.rate ≡ Some code → unwrap_or (rate_code plan.rate) 0 ≡ code
code_is plan code e = rw e refl

pub writable : (f : PcmFormat) (plan : TalkPlan) (n : ℕ) (samples : List ℕ) → IsAudioPlan plan → IsPcm f plan
    → length samples ≡ plan.count * frame_size plan.channels f.format
    → IsWritableAaf (aaf_packet f.format f.sparse plan n samples)
writable f plan n samples p is size =
    let code = code_is plan f.code is.code in
    let rate = known_rate plan.rate f.code is.code in
    record {
      subtype = refl;
      nsr = omega (arith, code, rate.few);
      some_channels = p.some_channels;
      channels = omega (arith, p.channels);
      depth = omega arith;
      evt = omega arith;
      data_length = sym size;
      count = sym size;
    }

pub fits : (f : PcmFormat) (plan : TalkPlan) (n : ℕ) (samples : List ℕ) → IsAudioPlan plan → IsPcm f plan → plan.id < 2 ^ 64
    → length samples ≡ plan.count * frame_size plan.channels f.format
    → Fits aaf_layout (aaf_packet f.format f.sparse plan n samples)
fits f plan n samples p is id size =
    let most = size_fits plan f.format f.sparse p is.kind in
    fits_whole (aaf_packet f.format f.sparse plan n samples) 0 0 (writable f plan n samples p is size)
    (header_fits 2 (stamp_of (kind_of f.sparse) plan n) plan n (plan.count * frame_size plan.channels f.format) (omega arith) id (omega arith))

packet_is : (f : PcmFormat) (plan : TalkPlan) (packets n : ℕ) (samples : List ℕ) → IsAudioPlan plan → IsPcm f plan → plan.id < 2 ^ 64
    → length samples ≡ plan.count * frame_size plan.channels f.format
    → IsAafPacket (audio_times (kind_of f.sparse) plan packets) f.sparse plan.id n (aaf_packet f.format f.sparse plan n samples)
packet_is f plan packets n samples p is id size = record {
  writable = writable f plan n samples p is size;
  fits = fits f plan n samples p is id size;
  header = header_is (kind_of f.sparse) plan packets 2 n (plan.count * frame_size plan.channels f.format);
  sparse = refl;
  rate = rw (code_is plan f.code is.code) (known_rate plan.rate f.code is.code).named;
  count = refl;
}

of_mode : (sparse : Bool) (j : Journal) (stream n : ℕ) (v : Packet) → IsAafPacket j sparse stream n v → IsPacket (kind_of sparse) j stream n (Pcm v)
of_mode false j stream n v is = is
of_mode true j stream n v is = is

pub packet_again : (f : PcmFormat) (plan : TalkPlan) (n : ℕ) (samples : List ℕ) → IsAudioPlan plan → IsPcm f plan → plan.id < 2 ^ 64
    → length samples ≡ plan.count * frame_size plan.channels f.format
    → SpellsAaf (aaf_spelling (aaf_packet f.format f.sparse plan n samples)) (aaf_packet f.format f.sparse plan n samples)
packet_again f plan n samples p is id size =
    let v = aaf_packet f.format f.sparse plan n samples in
    rw append-nil at (aaf_again v [] (writable f plan n samples p is size) (fits f plan n samples p is id size))

-- ---- the format

pub pcm_format : (f : PcmFormat) (plan : TalkPlan) → IsAudioPlan plan → IsPcm f plan → IsFormatOf plan (pcm f.format f.sparse plan) 42
pcm_format f plan p is =
    let most = size_fits plan f.format f.sparse p is.kind in
    record {
      some = frame_some plan f.format p;
      size = omega arith;
      silence = length-replicate (plan.count * frame_size plan.channels f.format) 0;
      kind = pcm_kind plan f.sparse p;
      bytes = λ n samples size. omega (arith, aaf_size (aaf_packet f.format f.sparse plan n samples), size);
      packet = λ packets n samples id size. of_mode f.sparse (audio_times (kind_of f.sparse) plan packets) plan.id n _
          (packet_is f plan packets n samples p is id size);
      leads = λ lead n expects unstamped. leads_by plan.kind f.format f.sparse plan lead n is.kind expects unstamped;
    }
