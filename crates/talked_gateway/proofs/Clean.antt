-- A scan finds no fault in PCM of 24 bits that a talker sent.
use Rattle.std.proofs.Common.{◌≡◌, ℕ, suc, ◌+◌, ◌<◌, ◌≤◌, Bool, true, false, pos, List, [], ◌∷◌, Option, Some, None, IsSome, refl, sym, ap, subst, ◌∙◌, eq-eqb, arith}
use Rattle.std.specs.Prelude.{◌==◌, ◌&&◌, ◌||◌, IfSome, cond, filter, is_none, map, nat_lt}
use Rattle.std.specs.List.{enumerate_from}
use Rattle.std.proofs.lemmas.Bool.Decides.{nat_tests}
use Rattle.avtp_base.specs.declared.refusal.Refusal.{Refusal}
use Rattle.avtp_base.specs.Layout.{Fits}
use Rattle.avtp_header.specs.Header.{peeked_of}
use Rattle.aaf_format.specs.declared.aaf.AafFormat.TheVariants.{Int24}
use Rattle.aaf_format.specs.Aaf.{Aaf as AafPacket, IsWritableAaf, SpellsAaf, aaf_layout, aaf_of, aaf_refusal, aaf_spelling, aaf_subtype, plain_aaf, rate_of}
use Rattle.aaf_format.proofs.AafLemmas.{aaf_again, one_packet as one_aaf}
use Rattle.pcap_frames.specs.Capture.{Record}
use Rattle.packet_journal.specs.Deliveries.{belongs, delivery, is_delivered, packet_in, stream_kinds}
use Rattle.packet_journal.specs.Delivered.{AreFrom, Delivers, OfClock, OfStream, Origin, Spells}
use Rattle.packet_journal.specs.Packets.{IsConforming, PacketJournal, Pcm}
use Rattle.listener.specs.Streams.{stream_packet}
use Rattle.am824_gateway.specs.declared.scan.Shape.{Shape}
use Rattle.am824_gateway.specs.declared.scan.To.TheVariants.{Am824}
use Rattle.am824_gateway.specs.Content.{content, has_24_bits, packet_content, pcm_content}
use Rattle.am824_gateway.specs.Scan.{content_fault, fault_from, first_fault, shape_after}
use Rattle.gateway_laws.proofs.Scanned.{no_row, of_pcm}
use Rattle.talk_plan.specs.declared.plan.TalkKind.{TalkKind}
use Rattle.talk_plan.specs.declared.plan.TalkKind.TheVariants.{Aaf, Am824 as TalkAm824, H264}
use Rattle.talk_plan.specs.declared.plan.TalkPlan.{TalkPlan}
use Rattle.talk_plan.specs.Plan.{fdf_of}
use Rattle.talk_audio.specs.Audio.{audio_by, pcm as pcm_audio}
use Rattle.talk_audio.specs.Journal.{samples_in}
use Rattle.talk_audio.specs.Packets.{aaf_packet}
use Rattle.talker.specs.Journal.{journal, stream_by}

-- ---- the packets of the plan

-- Packet n of the plan is PCM of 24 bits, with the plan's rate, count and channels.
record IsWhole (plan : TalkPlan) (p : PacketJournal) (n : ℕ) : Type 0 where
  v : AafPacket
  is : p.packet n ≡ Pcm v
  writable : IsWritableAaf v
  fits : Fits aaf_layout v
  rate : rate_of v.nsr ≡ Some plan.rate
  count : v.count ≡ plan.count
  whole : (has_24_bits v.format && (v.depth == 0 || v.depth == 24)) ≡ true
  channels : v.channels ≡ plan.channels

whole_by : (sparse : Bool) (plan : TalkPlan) (input : List ℕ) (n : ℕ) → IsConforming (pos 0) (stream_by (audio_by (Aaf Int24 sparse) plan) plan input).journal → n < (stream_by (audio_by (Aaf Int24 sparse) plan) plan input).journal.times.packets
    → IsWhole plan (stream_by (audio_by (Aaf Int24 sparse) plan) plan input).journal n
whole_by false plan input n conforms known =
    let is = conforms.packets n known in
    record { v = aaf_packet Int24 false plan n (samples_in (pcm_audio Int24 false plan) plan input n); is = refl; writable = is.writable; fits = is.fits; rate = is.rate; count = is.count; whole = refl; channels = refl }
whole_by true plan input n conforms known =
    let is = conforms.packets n known in
    record { v = aaf_packet Int24 true plan n (samples_in (pcm_audio Int24 true plan) plan input n); is = refl; writable = is.writable; fits = is.fits; rate = is.rate; count = is.count; whole = refl; channels = refl }

silent_by : (kind : TalkKind) (plan : TalkPlan) (input : List ℕ) → plan.crf ≡ None → (stream_by (audio_by kind plan) plan input).journal.times.clock.packets ≡ 0
silent_by (Aaf format sparse) plan input none = rw none refl
silent_by TalkAm824 plan input none = rw none refl
silent_by (H264 last_stamp) plan input none = rw none refl

-- ---- what a scan reads of a copy

content_of_copy : (stream : ℕ) (bytes : List ℕ) (v : AafPacket) → belongs stream_kinds stream bytes ≡ true → IsWritableAaf v → Fits aaf_layout v → Spells (aaf_spelling v) (packet_in bytes) → content stream bytes ≡ pcm_content None (plain_aaf v)
content_of_copy stream bytes v here writable fits s =
    let read : SpellsAaf (packet_in bytes) (plain_aaf v) = rw s.whole (aaf_again v s.trail writable fits) in
    let same : plain_aaf v ≡ aaf_of (packet_in bytes) = one_aaf (packet_in bytes) (plain_aaf v) read in
    let subtype : (peeked_of (packet_in bytes)).subtype ≡ aaf_subtype = read.fields.0.0 ∙ writable.subtype in
    let belonging : content stream bytes ≡ packet_content (stream_packet bytes) = rw here refl in
    belonging
    ∙ (of_pcm (peeked_of (packet_in bytes)).subtype (packet_in bytes) subtype
    ∙ (ap (λ (o : Option Refusal). pcm_content o (aaf_of (packet_in bytes))) read.accepted ∙ ap (pcm_content None) (sym same)))

named : (o : Option ℕ) → IsSome o → is_none o ≡ false
named None some = absurd cc
named (Some code) some = refl

-- A PCM packet of the plan has no fault, whether it is the stream's first packet or follows other packets of the plan.
module _ (plan : TalkPlan) (rate : IsSome (fdf_of plan.rate)) (most : plan.channels ≤ 256) (count : 1 ≤ plan.count) where
  shape : Shape
  shape = record { rate = plan.rate; channels = plan.channels }

  same_rate : (plan.rate == plan.rate) ≡ true
  same_rate = eq-eqb plan.rate plan.rate refl

  same_channels : (plan.channels == plan.channels) ≡ true
  same_channels = eq-eqb plan.channels plan.channels refl

  few_channels : nat_lt 256 plan.channels ≡ false
  few_channels = grind (arith, nat_tests)

  some_samples : (plan.count == 0) ≡ false
  some_samples = grind (arith, nat_tests)

  no_fault : (p : PacketJournal) (n : ℕ) (first : Option Shape) → (w : IsWhole plan p n) → IfSome first (λ s. s ≡ record { rate = plan.rate; channels = plan.channels })
      → content_fault Am824 first (pcm_content None (plain_aaf w.v)) ≡ None
  no_fault p n None w known = rw (w.rate, w.count, some_samples) (no_row _ _ _ _ _ true w.whole (named (fdf_of plan.rate) rate) same_rate (rw w.channels few_channels) (rw w.channels same_channels) refl)
  no_fault p n (Some s) w known = rw (known, w.rate, w.count, some_samples) (no_row _ _ _ _ _ true w.whole (named (fdf_of plan.rate) rate) same_rate (rw w.channels few_channels) (rw w.channels same_channels) refl)

  one_shape : (p : PacketJournal) (n : ℕ) (first : Option Shape) → (w : IsWhole plan p n) → IfSome first (λ s. s ≡ record { rate = plan.rate; channels = plan.channels })
      → IfSome (shape_after first (pcm_content None (plain_aaf w.v))) (λ s. s ≡ record { rate = plan.rate; channels = plan.channels })
  one_shape p n None w known = rw (w.rate, w.count, some_samples, w.channels) refl
  one_shape p n (Some s) w known = known

  -- ---- the records of a capture

  module _ (p : PacketJournal) (lead : ℕ) (whole : (n : ℕ) → n < p.times.packets → IsWhole plan p n) (silent : p.times.clock.packets ≡ 0) where
    step : (origins : List Origin) (first : Option Shape) (i frame : ℕ) (r : Record) (rs : List Record) (b : Bool) → belongs stream_kinds p.stream r.bytes ≡ b
        → IfSome first (λ s. s ≡ record { rate = plan.rate; channels = plan.channels })
        → AreFrom p lead origins (map (λ (x : ℕ × Record). delivery x.0 x.1) (cond (b || false) ((i, r) ∷ filter (λ (x : ℕ × Record). is_delivered p.stream None x.1.bytes) (enumerate_from (i + 1) rs)) (filter (λ (x : ℕ × Record). is_delivered p.stream None x.1.bytes) (enumerate_from (i + 1) rs))))
        → ((origins : List Origin) (first : Option Shape) → IfSome first (λ s. s ≡ record { rate = plan.rate; channels = plan.channels })
        → AreFrom p lead origins (map (λ (x : ℕ × Record). delivery x.0 x.1) (filter (λ (x : ℕ × Record). is_delivered p.stream None x.1.bytes) (enumerate_from (i + 1) rs))) → fault_from Am824 p.stream first (suc frame) rs ≡ None)
        → fault_from Am824 p.stream first frame (r ∷ rs) ≡ None
    step origins None i frame r rs false here known from rest = rw here (rest origins None known from)
    step origins (Some s) i frame r rs false here known from rest = rw here (rest origins (Some s) known from)
    step [] first i frame r rs true here known from rest = absurd from
    step (OfClock m ∷ origins) first i frame r rs true here known from rest = absurd (let none = from.0.known in omega (arith, none, silent))
    step (OfStream n ∷ origins) first i frame r rs true here known from rest =
        let copy = from.0 in
        let w = whole n copy.delivered.known in
        let spelled : Spells (aaf_spelling w.v) (packet_in r.bytes) = rw w.is at copy.spelled in
        let same = content_of_copy p.stream r.bytes w.v here w.writable w.fits spelled in
        rw (same, no_fault p n first w known) (rest origins (shape_after first (pcm_content None (plain_aaf w.v))) (one_shape p n first w known) from.1)

    clean_from : (origins : List Origin) (first : Option Shape) (i frame : ℕ) (rs : List Record) → IfSome first (λ s. s ≡ record { rate = plan.rate; channels = plan.channels })
        → AreFrom p lead origins (map (λ (x : ℕ × Record). delivery x.0 x.1) (filter (λ (x : ℕ × Record). is_delivered p.stream None x.1.bytes) (enumerate_from i rs))) → fault_from Am824 p.stream first frame rs ≡ None
    clean_from origins first i frame [] known from = refl
    clean_from origins first i frame (r ∷ rs) known from =
        step origins first i frame r rs (belongs stream_kinds p.stream r.bytes) refl known from (λ others next known' from'. clean_from others next (i + 1) (suc frame) rs known' from')

    clean : (records : List Record) → Delivers p None lead records → first_fault Am824 p.stream records ≡ None
    clean records delivers = clean_from delivers.origins None 1 1 records tt delivers.copies

pub talked_clean : (sparse : Bool) (plan : TalkPlan) (input : List ℕ) (lead : ℕ) (records : List Record) → plan.kind ≡ Aaf Int24 sparse → plan.crf ≡ None → IsSome (fdf_of plan.rate) → plan.channels ≤ 256 → 1 ≤ plan.count
    → IsConforming (pos 0) (journal plan input) → Delivers (journal plan input) None lead records → first_fault Am824 (journal plan input).stream records ≡ None
talked_clean sparse plan input lead records kind none rate most count conforms delivers =
    let same : journal plan input ≡ (stream_by (audio_by (Aaf Int24 sparse) plan) plan input).journal = ap (λ (k : TalkKind). (stream_by (audio_by k plan) plan input).journal) kind in
    let whole = subst (λ (p : PacketJournal). (n : ℕ) → n < p.times.packets → IsWhole plan p n) (sym same)
    (λ (n : ℕ) known. whole_by sparse plan input n (subst (IsConforming (pos 0)) same conforms) known) in
    clean plan rate most count (journal plan input) lead whole (silent_by plan.kind plan input none) records delivers
