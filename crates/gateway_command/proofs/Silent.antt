-- What `check` prints of a capture without findings.
use Rattle.std.proofs.Common.{◌≡◌, ℕ, List, Option, Some, Bool, true, if◌then◌else◌, refl, ap, ◌∙◌, [], ◌+◌, ◌∷◌, ◌++◌, length, sym, subst}
use Rattle.std.specs.Prelude.{◌==◌}
use Rattle.std.specs.Option.{option_map}
use Rattle.avtp_base.specs.declared.refusal.Refusal.{Refusal}
use Rattle.pcap_frames.specs.Frame.{frame_of}
use Rattle.packet_journal.specs.Deliveries.{avtp_ethertype, packet_in}
use Rattle.avtp_packet.specs.declared.packet_stream.PacketStream.{PacketStream}
use Rattle.avtp_packet.specs.Packet.{packet_of, packet_refusal}
use Rattle.avtp_packet.specs.PacketStream.{stream_of}
use Rattle.sequence_track.specs.declared.seen.Seen.{Seen}
use Rattle.gateway_laws.specs.Kept.{IsNotedAs, FindsNothingAfter}
use Rattle.sequence_track.specs.declared.seen.Findings.{Findings}
use Rattle.sequence_track.specs.Findings.{findings}
use Rattle.gateway_laws.specs.Noted.{nothing_found}
use Rattle.pcap_frames.specs.Capture.{Record}
use Rattle.run_report.specs.Frame.{inside}
use Rattle.run_report.specs.Lines.{after, of_each}
use Rattle.check_command.specs.declared.checked.Checked.TheVariants.{Marked, Passed}
use Rattle.check_command.specs.Check.{checked_frame, checked_packet, checked_record, checked_stream, malformed_or, found_lines, check_lines, notes_of, noted}
use Rattle.check_command.specs.declared.checked.Checked.{Checked}
use Rattle.check_command.proofs.CheckedTo.{notes_more}

-- a record whose packet is noted is checked as `Marked`
is_marked : (bytes : List ℕ) (seen : Seen) → IsNotedAs bytes seen → checked_record bytes ≡ Marked seen
unfolding checked_record checked_frame checked_packet
is_marked bytes seen is =
    let stream : PacketStream = record { subtype = seen.subtype; id = seen.id; sv = true; seq = seen.seq; mr = seen.mr } in
    let pdu : List ℕ = packet_in bytes in
    let kind : ((frame_of bytes).ethertype == avtp_ethertype) ≡ true = rw is.ethertype refl in
    let marked : checked_stream (Some stream) (packet_of pdu) ≡ Marked seen = rw (is.reserved, is.stamp) refl in
    ap (λ (r : Option Refusal). malformed_or r (if (frame_of bytes).ethertype == avtp_ethertype then malformed_or (option_map (inside (frame_of bytes).start) (packet_refusal pdu)) (checked_stream (stream_of (packet_of pdu)) (packet_of pdu)) else Passed)) is.frame
    ∙ ap (λ (b : Bool). if b then malformed_or (option_map (inside (frame_of bytes).start) (packet_refusal pdu)) (checked_stream (stream_of (packet_of pdu)) (packet_of pdu)) else Passed) kind
    ∙ ap (λ (r : Option Refusal). malformed_or (option_map (inside (frame_of bytes).start) r) (checked_stream (stream_of (packet_of pdu)) (packet_of pdu))) is.packet
    ∙ ap (λ (s : Option PacketStream). checked_stream s (packet_of pdu)) is.stream
    ∙ marked

-- a packet without findings has no line
no_lines : (number : ℕ) (notes : List Seen) (seen : Seen) (f : Findings) → findings notes seen ≡ f → f ≡ nothing_found → found_lines number notes (Marked seen) ≡ []
no_lines number notes seen f is none = let same : findings notes seen ≡ nothing_found = is ∙ none in rw same refl

silent_after : (earlier records : List Record) → FindsNothingAfter (notes_of earlier) records → after check_lines earlier records ≡ []
unfolding after
silent_after earlier [] finds = refl
silent_after earlier (r ∷ records) (seen, is, none, rest) =
    let marked : checked_record r.bytes ≡ Marked seen = is_marked r.bytes seen is in
    let notes : notes_of (earlier ++ r ∷ []) ≡ notes_of earlier ++ seen ∷ [] = notes_more earlier r ∙ ap (λ (c : Checked). notes_of earlier ++ noted c) marked in
    let here : check_lines earlier r ≡ [] = ap (λ (c : Checked). found_lines (length earlier + 1) (notes_of earlier) c) marked ∙ no_lines (length earlier + 1) (notes_of earlier) seen (findings (notes_of earlier) seen) refl none in
    let later = silent_after (earlier ++ r ∷ []) records (subst (λ (ns : List Seen). FindsNothingAfter ns records) (sym notes) rest) in
    ap (λ (ls : List (List ℕ)). ls ++ after check_lines (earlier ++ r ∷ []) records) here ∙ later

pub silent : (records : List Record) → FindsNothingAfter [] records → of_each check_lines records ≡ []
silent records finds = silent_after [] records finds
