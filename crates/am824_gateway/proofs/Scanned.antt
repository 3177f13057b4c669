-- If records have no fault, the shape that a scan finds in them can be converted.
use Rattle.std.proofs.Common.{◌≡◌, ℕ, zero, suc, ◌≤◌, Bool, true, false, List, [], ◌∷◌, Option, Some, None, refl, arith}
use Rattle.std.specs.Prelude.{⊤, ◌==◌, ◌||◌, IfSome, if◌then◌else◌, is_none, nat_lt, not}
use Rattle.std.proofs.lemmas.Bool.{ltb-false}
use Rattle.avtp_base.specs.declared.refusal.Refusal.{Refusal}
use Rattle.avtp_base.specs.Octets.{bits}
use Rattle.avtp_base.specs.Rows.{first_row, or_else}
use Rattle.avtp_base.proofs.RowLemmas.{or_else-none, rows_passed}
use Rattle.avtp_header.specs.Header.{kind_refusal}
use Rattle.aaf_format.specs.Aaf.{aaf_of, aaf_refusal, aaf_subtype, length_rows, rate_of, sample_rows}
use Rattle.cvf_format.specs.Cvf.{cvf_subtype}
use Rattle.iec61883_format.specs.Iec.{iec_of, iec_refusal, rate_of_fdf}
use Rattle.iec61883_format.proofs.IecLemmas.{iec_spelled}
use Rattle.pcap_frames.specs.Capture.{Record}
use Rattle.packet_journal.specs.Deliveries.{belongs, stream_kinds}
use Rattle.talk_plan.specs.Plan.{fdf_of}
use Rattle.listener.specs.Streams.{PacketOfStream, stream_packet}
use Rattle.am824_gateway.specs.declared.content.Content.{Content}
use Rattle.am824_gateway.specs.declared.content.Content.TheVariants.{Silent, Video, Audio}
use Rattle.am824_gateway.specs.declared.content.Samples.{Samples}
use Rattle.am824_gateway.specs.declared.scan.ScanFault.TheVariants.{Kind, Format, Rate, Channels, Label}
use Rattle.am824_gateway.specs.declared.scan.Shape.{Shape}
use Rattle.am824_gateway.specs.declared.scan.To.{To}
use Rattle.am824_gateway.specs.Content.{am824, am824_content, content, packet_content, pcm, pcm_content, samples_or_silent}
use Rattle.am824_gateway.specs.Scan.{IsShape, content_fault, fault_from, fault_rows, first_fault, first_of, row, same_format, shape_after, shape_from, shape_in, shape_of}
use Rattle.am824_gateway.proofs.ScanLemmas.{passed}

-- ---- samples have a channel

-- if the content is samples, they have at least one channel
abbrev pub IsCounted : Content → Type 0
IsCounted Silent = ⊤
IsCounted Video = ⊤
IsCounted (Audio s) = 1 ≤ s.channels

not_none : (n : ℕ) → (n == 0) ≡ false → 1 ≤ n
not_none zero e = absurd cc
not_none (suc n) e = omega arith

pcm_channels : (packet : List ℕ) → aaf_refusal packet ≡ None → 1 ≤ (aaf_of packet).channels
pcm_channels packet e =
    let kind = or_else-none (kind_refusal aaf_subtype packet) (or_else (first_row (sample_rows packet)) (first_row (length_rows packet))) e in
    let rows = or_else-none (first_row (sample_rows packet)) (first_row (length_rows packet)) kind.1 in
    let passes = rows_passed (sample_rows packet) rows.0 in
    not_none (bits 17 6 10 packet) passes.1.1.0

counted_if : (count rate : ℕ) (samples : ℕ → Samples) → 1 ≤ (samples rate).channels → (none : Bool) → IsCounted (if none then Silent else Audio (samples rate))
counted_if count rate samples some true = tt
counted_if count rate samples some false = some

counted_samples : (count : ℕ) (rate : Option ℕ) (samples : ℕ → Samples) → ((r : ℕ) → 1 ≤ (samples r).channels) → IsCounted (samples_or_silent count rate samples)
counted_samples count None samples some = tt
counted_samples count (Some rate) samples some = counted_if count rate samples (some rate) (count == 0)

pcm_counted : (packet : List ℕ) (o : Option Refusal) → aaf_refusal packet ≡ o → IsCounted (pcm_content o (aaf_of packet))
pcm_counted packet (Some refusal) e = tt
pcm_counted packet None e = counted_samples (aaf_of packet).count (rate_of (aaf_of packet).nsr) (pcm (aaf_of packet)) (λ r. pcm_channels packet e)

am824_counted : (packet : List ℕ) (o : Option Refusal) → iec_refusal packet ≡ o → IsCounted (am824_content o (iec_of packet))
am824_counted packet (Some refusal) e = tt
am824_counted packet None e =
    let some = (iec_spelled packet e).some_quadlets in
    counted_samples (iec_of packet).count (rate_of_fdf (iec_of packet).cip.fdf) (am824 (iec_of packet)) (λ r. omega (arith, some))

counted_packet : (p : PacketOfStream) → IsCounted (packet_content p)
counted_packet p = by (p.subtype == cvf_subtype) (p.subtype == aaf_subtype) where
  by : (video pcm : Bool) → IsCounted (if video then Video else if pcm then pcm_content (aaf_refusal p.bytes) (aaf_of p.bytes) else am824_content (iec_refusal p.bytes) (iec_of p.bytes))
  by true pcm = tt
  by false true = pcm_counted p.bytes (aaf_refusal p.bytes) refl
  by false false = am824_counted p.bytes (iec_refusal p.bytes) refl

pub counted : (stream : ℕ) (bytes : List ℕ) → IsCounted (content stream bytes)
counted stream bytes = by (belongs stream_kinds stream bytes) where
  by : (here : Bool) → IsCounted (if here then packet_content (stream_packet bytes) else Silent)
  by true = counted_packet (stream_packet bytes)
  by false = tt

-- ---- the shape

first_fits : (to : To) (s : Samples) → 1 ≤ s.channels → first_of (fault_rows to (shape_of s) s) ≡ None → IsShape (shape_of s)
first_fits to s some e = by (same_format s.format to) (not s.whole) (fdf_of s.rate) refl (not (s.rate == s.rate)) (nat_lt 256 s.channels) refl (not (s.channels == s.channels)) (not s.linear) e where
  by : (a b : Bool) (fdf : Option ℕ) → fdf_of s.rate ≡ fdf → (c most : Bool) → nat_lt 256 s.channels ≡ most → (d f : Bool)
      → first_of (row Kind a ∷ row Format b ∷ row Rate (is_none fdf || c) ∷ row Channels (most || d) ∷ row Label f ∷ []) ≡ None → IsShape (shape_of s)
  by true b fdf is c most fits d f h = absurd cc
  by false true fdf is c most fits d f h = absurd cc
  by false false None is c most fits d f h = absurd cc
  by false false (Some code) is true most fits d f h = absurd cc
  by false false (Some code) is false true fits d f h = absurd cc
  by false false (Some code) is false false fits d f h = record { rate = rw is refl; some = some; most = ltb-false _ _ fits }

fits_after : (to : To) (first : Option Shape) (c : Content) → IfSome first IsShape → IsCounted c → content_fault to first c ≡ None → IfSome (shape_after first c) IsShape
fits_after to (Some first) c fits some e = fits
fits_after to None Silent fits some e = tt
fits_after to None Video fits some e = tt
fits_after to None (Audio s) fits some e = first_fits to s some e

fits_from : (to : To) (stream : ℕ) (first : Option Shape) (frame : ℕ) (records : List Record) → IfSome first IsShape → fault_from to stream first frame records ≡ None → IfSome (shape_from stream first records) IsShape
fits_from to stream first frame [] fits e = fits
fits_from to stream first frame (r ∷ records) fits e =
    let c : Content = content stream r.bytes in
    let both = passed frame (content_fault to first c) (fault_from to stream (shape_after first c) (suc frame) records) e in
    fits_from to stream (shape_after first c) (suc frame) records (fits_after to first c fits (counted stream r.bytes) both.0) both.1

pub scanned_fits : (to : To) (stream : ℕ) (records : List Record) → first_fault to stream records ≡ None → IfSome (shape_in stream records) IsShape
scanned_fits to stream records none = fits_from to stream None 1 records tt none
