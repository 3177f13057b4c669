-- What listeners present from a gateway's capture, and what `check` finds in it.
use Rattle.std.proofs.Common.{◌≡◌, ℕ, ◌%◌, ◌^◌, ◌<◌, ◌≤◌, Bool, true, false, inl, inr, nat_abs, List, [], ◌∷◌, ◌++◌, length, map, Option, Some, None, refl, sym, ap, subst, ◌∙◌, arith, append_assoc}
use Rattle.std.specs.Prelude.{◌&&◌, flat_map, nat_lt, IfSome}
use Rattle.std.specs.List.{AllByRecursion}
use Rattle.std.proofs.Math.Nat.{mod-one}
use Rattle.std.proofs.lemmas.Bool.Decides.{nat_tests}
use Rattle.std.proofs.lemmas.List.{map-append}
use Rattle.avtp_base.specs.declared.refusal.Refusal.{Refusal}
use Rattle.avtp_base.specs.Octets.{bits}
use Rattle.avtp_base.specs.Rows.{or_else}
use Rattle.aaf_format.specs.Aaf.{Aaf as AafPacket, aaf_of, aaf_refusal, aaf_subtype}
use Rattle.iec61883_format.specs.Iec.{Iec, IsSytInterval, iec_of, iec_refusal, iec_subtype}
use Rattle.pcap_frames.specs.Capture.{HasSpelling, Record, first_refusal, whole_records}
use Rattle.pcap_frames.proofs.Written.{written_records, written_refusal}
use Rattle.packet_journal.specs.Deliveries.{packet_in}
use Rattle.avtp_packet.specs.Packet.{AnyPacket, OfAaf, OfIec, kind_of, kind_refusal, packet_of, packet_refusal, subtype_refusal}
use Rattle.sequence_track.specs.declared.seen.Seen.{Seen}
use Rattle.talk_plan.specs.Plan.{interval_of}
use Rattle.talker.specs.Frames.{SentFrame, capture_of, capture_style, record_of}
use Rattle.sample_schedule.specs.Batches.{Presented}
use Rattle.listener.specs.declared.plan.ListenPlan.{ListenPlan}
use Rattle.listener.specs.Heard.{schedule_plan, shown_of}
use Rattle.listener.specs.Laws.{presented_of}
use Rattle.clock_track.specs.Rows.{clock_spot}
use Rattle.am824_gateway.specs.declared.scan.Shape.{Shape}
use Rattle.am824_gateway.specs.declared.scan.To.{To}
use Rattle.am824_gateway.specs.declared.scan.To.TheVariants.{Aaf, Am824}
use Rattle.am824_gateway.specs.Laws.{Cut, HasRisingInstants, IsFrame, cut_frame, cut_instant, cuts_after}
use Rattle.am824_gateway.specs.Packets.{gateway_frames}
use Rattle.am824_gateway.specs.Pieces.{nothing_given}
use Rattle.am824_gateway.specs.Scan.{IsShape}
use Rattle.am824_gateway.proofs.CutLemmas.{all_fit, frames_are_cuts}
use Rattle.am824_gateway.proofs.GatewayLemmas.{begun, in_time}
use Rattle.gateway_laws.specs.Carried.{samples_heard}
use Rattle.gateway_laws.specs.Heard.{BeginsInTime, packets_heard}
use Rattle.gateway_laws.specs.Kept.{FindsNothingAfter, Hears, IsNotedAs, Keeps, Presents}
use Rattle.gateway_laws.specs.Noted.{cut_seen}
use Rattle.gateway_laws.proofs.Carried.{gateway_heard}
use Rattle.gateway_laws.proofs.Delivered.{empty_schedule, is_schedule}
use Rattle.gateway_laws.proofs.Heard.{IsSound, all_sound, first_stamped, heard_carry, interval_known}
use Rattle.gateway_laws.proofs.Noted.{none_found}
use Rattle.gateway_laws.proofs.Read.{IsCarried, aaf_read, all_carried, cut_aaf, cut_am824, iec_read, is_named, of_stream}
use Rattle.gateway_laws.proofs.Stamped.{stamped_presented}

-- ---- the capture

one_spelled : (to : To) (shape : Shape) (id : ℕ) (c : Cut) → IsCarried to shape c → IsFrame (cut_frame to shape id c) → HasSpelling capture_style (record_of (cut_frame to shape id c))
one_spelled to shape id c fine short = record {
  begun = begun (cut_instant c);
  ended = in_time c.batch c.piece fine.within.in_time;
  whole = mod-one (nat_abs (cut_frame to shape id c).arrival);
  orig_len = omega (arith, short);
  limit = omega (arith, short);
}

all_spelled : (to : To) (shape : Shape) (id : ℕ) (cs : List Cut) → AllByRecursion (IsCarried to shape) cs → AllByRecursion IsFrame (map (cut_frame to shape id) cs) → AllByRecursion (HasSpelling capture_style) (map record_of (map (cut_frame to shape id) cs))
all_spelled to shape id [] all short = tt
all_spelled to shape id (c ∷ cs) all short = (one_spelled to shape id c all.0 short.0, all_spelled to shape id cs all.1 short.1)

-- ---- what `check` notes

never_off : (b : Bool) → (b && false) ≡ false
never_off true = refl
never_off false = refl

-- These bytes are read as `packet`, and are accepted.
record IsPlain (pdu : List ℕ) (packet : AnyPacket) : Type 0 where
  packet_is : packet_of pdu ≡ packet
  accepted : packet_refusal pdu ≡ None

plain_aaf : (pdu : List ℕ) (v : AafPacket) → 12 ≤ length pdu → bits 0 0 8 pdu ≡ aaf_subtype → aaf_refusal pdu ≡ None → aaf_of pdu ≡ v → IsPlain pdu (OfAaf v)
unfolding kind_of kind_refusal
plain_aaf pdu v long kind accepted is =
    let some : nat_lt (length pdu) 1 ≡ false = grind (arith, nat_tests) in
    let none : subtype_refusal pdu ≡ None = rw some refl in
    record {
      packet_is = ap (λ (s : ℕ). kind_of s pdu) kind ∙ ap OfAaf is;
      accepted = ap (λ (o : Option Refusal). or_else o (kind_refusal (bits 0 0 8 pdu) pdu)) none ∙ (ap (λ (s : ℕ). kind_refusal s pdu) kind ∙ accepted);
    }

plain_iec : (pdu : List ℕ) (v : Iec) → 12 ≤ length pdu → bits 0 0 8 pdu ≡ iec_subtype → iec_refusal pdu ≡ None → iec_of pdu ≡ v → IsPlain pdu (OfIec v)
unfolding kind_of kind_refusal
plain_iec pdu v long kind accepted is =
    let some : nat_lt (length pdu) 1 ≡ false = grind (arith, nat_tests) in
    let none : subtype_refusal pdu ≡ None = rw some refl in
    record {
      packet_is = ap (λ (s : ℕ). kind_of s pdu) kind ∙ ap OfIec is;
      accepted = ap (λ (o : Option Refusal). or_else o (kind_refusal (bits 0 0 8 pdu) pdu)) none ∙ (ap (λ (s : ℕ). kind_refusal s pdu) kind ∙ accepted);
    }

noted : (to : To) (shape : Shape) (id : ℕ) (c : Cut) → IsShape shape → id < 2 ^ 64 → IsCarried to shape c → IsSound (interval_of shape.rate) c → IsNotedAs (cut_frame to shape id c).bytes (cut_seen to id c)
noted Aaf shape id c is small fine sound =
    let read = aaf_read shape id c is small fine in
    let seen = of_stream Aaf shape id c is small fine in
    let there = read.holds.packet_is in
    let plain = plain_aaf (packet_in (cut_frame Aaf shape id c).bytes) (cut_aaf shape id c) seen.long seen.kind (rw there read.accepted) (rw there read.is) in
    record {
      frame = seen.accepted;
      ethertype = seen.ethertype;
      packet = plain.accepted;
      stream = rw (plain.packet_is) refl;
      reserved = rw (plain.packet_is) refl;
      stamp = rw (plain.packet_is) (never_off (nat_lt 0 c.piece.count));
    }
noted Am824 shape id c is small fine sound =
    let read = iec_read shape id c is small fine in
    let seen = of_stream Am824 shape id c is small fine in
    let there = read.holds.packet_is in
    let plain = plain_iec (packet_in (cut_frame Am824 shape id c).bytes) (cut_am824 shape id c) seen.long seen.kind (rw there read.accepted) (rw there read.is) in
    let named = (is_named shape is).interval in
    let first = first_stamped Am824 shape c.piece (interval_known shape is) sound.block in
    let some = sound.some in
    let there : nat_lt 0 c.piece.count ≡ true = grind (arith, nat_tests) in
    record {
      frame = seen.accepted;
      ethertype = seen.ethertype;
      packet = plain.accepted;
      stream = rw (plain.packet_is) refl;
      reserved = rw (plain.packet_is) refl;
      stamp = rw (plain.packet_is, named, first, there) refl;
    }

checked_from : (to : To) (shape : Shape) (id : ℕ) (batches : List Presented) (earlier cs : List Cut) → IsShape shape → id < 2 ^ 64 → cuts_after to shape nothing_given batches ≡ earlier ++ cs
    → AllByRecursion (IsCarried to shape) cs → AllByRecursion (IsSound (interval_of shape.rate)) cs → FindsNothingAfter (map (cut_seen to id) earlier) (map record_of (map (cut_frame to shape id) cs))
checked_from to shape id batches earlier [] is small e fine sound = tt
checked_from to shape id batches earlier (c ∷ cs) is small e fine sound =
    let rest = checked_from to shape id batches (earlier ++ c ∷ []) cs is small (e ∙ sym (append_assoc earlier (c ∷ []) cs)) fine.1 sound.1 in (
      cut_seen to id c,
      noted to shape id c is small fine.0 sound.0,
      none_found to shape id nothing_given batches earlier cs c e,
      subst (λ (notes : List Seen). FindsNothingAfter notes (map record_of (map (cut_frame to shape id) cs))) (map-append (cut_seen to id) earlier (c ∷ [])) rest,
    )

-- ---- the whole capture and what is presented

pub all_rising : (batches : List Presented) → AllByRecursion BeginsInTime batches → AllByRecursion HasRisingInstants batches
all_rising [] all = tt
all_rising (b ∷ bs) all = (all.0.rising, all_rising bs all.1)

pub no_rest : (interval : ℕ) → IsSytInterval interval → 0 % interval ≡ 0
no_rest interval (inl e) = rw e refl
no_rest interval (inr (inl e)) = rw e refl
no_rest interval (inr (inr e)) = rw e refl

-- the samples that are presented from the frames of all pieces are exactly those of the batches that were not skipped
heard_of_cuts : (to : To) (shape : Shape) (id : ℕ) (batches : List Presented) (records : List Record) (plan : ListenPlan) → IsShape shape → id < 2 ^ 64 → AllByRecursion BeginsInTime batches
    → records ≡ map record_of (map (cut_frame to shape id) (cuts_after to shape nothing_given batches)) → Hears id plan records → Presents to (Some shape) batches (presented_of (shown_of plan records))
heard_of_cuts to shape id batches records plan is small begins e hears =
    let cuts : List Cut = cuts_after to shape nothing_given batches in
    let fine = all_carried to shape nothing_given batches is (omega arith) in
    let schedule = is_schedule to shape id cuts plan is small fine (subst (Hears id plan) e hears) in
    let carry = heard_carry to shape nothing_given 1 batches is (no_rest (interval_of shape.rate) (interval_known shape is)) begins in
    ap (λ (rs : List Record). flat_map (samples_heard to shape) (presented_of (shown_of plan rs))) e
    ∙ (ap (flat_map (samples_heard to shape)) schedule.batches
    ∙ gateway_heard clock_spot (schedule_plan plan) to shape nothing_given batches (packets_heard to shape 1 cuts) schedule.without is (all_rising batches begins) carry schedule.room)

kept_shape : (to : To) (shape : Shape) (id : ℕ) (batches : List Presented) → IsShape shape → id < 2 ^ 64 → AllByRecursion BeginsInTime batches → Keeps to (Some shape) id batches (capture_of (gateway_frames to (Some shape) id batches))
kept_shape to shape id batches is small begins =
    let cuts : List Cut = cuts_after to shape nothing_given batches in
    let frames = frames_are_cuts to shape id nothing_given batches in
    let fine = all_carried to shape nothing_given batches is (omega arith) in
    let sound = all_sound to shape nothing_given batches (interval_known shape is) (no_rest (interval_of shape.rate) (interval_known shape is)) begins in
    let short = subst (AllByRecursion IsFrame) frames (all_fit to shape id nothing_given batches is) in
    let spelled = all_spelled to shape id cuts fine short in
    let records = ap (λ (fs : List SentFrame). whole_records (capture_of fs)) frames ∙ written_records capture_style (map record_of (map (cut_frame to shape id) cuts)) spelled in
    record {
      records = records ∙ sym (ap (map record_of) frames);
      whole = ap (λ (fs : List SentFrame). first_refusal (capture_of fs)) frames ∙ written_refusal capture_style (map record_of (map (cut_frame to shape id) cuts)) spelled;
      heard = λ plan hears. heard_of_cuts to shape id batches (whole_records (capture_of (gateway_frames to (Some shape) id batches))) plan is small begins records hears;
      checked = subst (FindsNothingAfter []) (sym records) (checked_from to shape id batches [] cuts is small refl fine sound);
    }

kept_none : (to : To) (id : ℕ) (batches : List Presented) → Keeps to None id batches (capture_of [])
kept_none to id batches =
    let records = written_records capture_style [] tt in
    record {
      records = records;
      whole = written_refusal capture_style [] tt;
      heard = λ plan hears.
          let schedule = empty_schedule id plan (subst (Hears id plan) records hears) in
          ap (λ (rs : List Record). presented_of (shown_of plan rs)) records
          ∙ (schedule.batches ∙ stamped_presented clock_spot (schedule_plan plan) [] [] schedule.without tt tt schedule.room);
      checked = subst (FindsNothingAfter []) (sym records) tt;
    }

pub all_kept : (to : To) (shape : Option Shape) (id : ℕ) (batches : List Presented) → IfSome shape IsShape → id < 2 ^ 64 → AllByRecursion BeginsInTime batches → Keeps to shape id batches (capture_of (gateway_frames to shape id batches))
all_kept to None id batches is small begins = kept_none to id batches
all_kept to (Some shape) id batches is small begins = kept_shape to shape id batches is small begins
