-- A listener shows the same items whether it is given the records of the deliveries or the bytes of their capture.
-- `KeepsHeadline` is true of what the listener shows, and each delivery is counted once.
use Rattle.std.proofs.Common.{◌≡◌, ℕ, ◌+◌, pos, ◌≤◌, arith, false, List, length, refl, sym, ap, subst, ◌∙◌, None}
use Rattle.std.specs.Prelude.{◌==◌}
use Rattle.std.proofs.lemmas.List.{length-map}
use Rattle.clock_track.specs.Rows.{clock_spot}
use Rattle.pcap_frames.specs.Capture.{Record, first_refusal, whole_records}
use Rattle.pcap_frames.proofs.Written.{written_records, written_refusal}
use Rattle.packet_journal.specs.Delivered.{AreFrom}
use Rattle.packet_journal.specs.Deliveries.{deliveries}
use Rattle.packet_journal.proofs.Carried.{all_delivered, carried_belongs}
use Rattle.packet_journal.proofs.Copies.{CvfAgain}
use Rattle.listener.specs.Headline.{KeepsHeadline}
use Rattle.listener.specs.Heard.{entries_in, heard_of, schedule_plan, shown_of}
use Rattle.listener.specs.Laws.{HearsTalker}
use Rattle.listener.proofs.Counted.{counts-add-up}
use Rattle.listener.proofs.TrueHeadline.{headline}
use Rattle.listener.proofs.TrueItems.{deliveries_copied}
use Rattle.listener.proofs.TrueList.{others}
use Rattle.talker.specs.Frames.{capture_style}
use Rattle.soak_run.specs.Network.{deliveries_of}
use Rattle.soak_run.specs.declared.counts.SoakCounts.{SoakCounts}
use Rattle.soak_run.specs.Captured.{captured, soak_capture, soak_listener, soak_records, soak_stream}
use Rattle.soak_run.specs.Outcomes.{outcomes, soak_counts, soak_shown, total}
use Rattle.soak_run.proofs.CaptureLemmas.{all_carried, all_near, all_spelled, audio_stream, conforms, numbers_of, stream_id}
use Rattle.soak_run.proofs.ItemLemmas.{each_delivered, entries_sound, no_fragments}
use Rattle.soak_run.proofs.OutcomeLemmas.{shown_so, total_all}

-- ---- their capture

pub reads_back : (packets : ℕ) → packets ≤ 1000000 → whole_records (soak_capture packets) ≡ soak_records packets
reads_back packets few = written_records capture_style (soak_records packets) (all_spelled packets few)

pub reads_whole : (packets : ℕ) → packets ≤ 1000000 → first_refusal (soak_capture packets) ≡ None
reads_whole packets few = written_refusal capture_style (soak_records packets) (all_spelled packets few)

pub shown_of_bytes : (packets : ℕ) → packets ≤ 1000000 → (heard_of soak_listener (soak_capture packets)).shown ≡ soak_shown packets
shown_of_bytes packets few = ap (λ (l : List Record). shown_of soak_listener l) (reads_back packets few)

pub counts_of_bytes : (packets : ℕ) (counts : SoakCounts) → packets ≤ 1000000 → counts ≡ soak_counts packets
    → counts ≡ outcomes (length (deliveries_of packets)) (heard_of soak_listener (soak_capture packets)).shown
unfolding soak_counts
counts_of_bytes packets counts few is = is ∙ ap (outcomes (length (deliveries_of packets))) (sym (shown_of_bytes packets few))

-- ---- the headline

pub hears : CvfAgain → (packets : ℕ) → packets ≤ 1000000 → HearsTalker (pos 0) (soak_stream packets).journal soak_listener (soak_records packets)
hears again packets few = record {
  conforming = conforms packets few;
  stream = stream_id packets;
  clock = tt;
  delivered = all_delivered again (pos 0) (soak_stream packets).journal None 2000000 (numbers_of packets) (soak_records packets) (conforms packets few) (all_carried packets few)
      (all_near packets (numbers_of packets) few);
}

pub keeps_headline : CvfAgain → (packets : ℕ) → packets ≤ 1000000 → KeepsHeadline (pos 0) (soak_stream packets).journal soak_listener (soak_records packets) (soak_shown packets)
keeps_headline again packets few = headline (pos 0) (soak_stream packets).journal soak_listener (soak_records packets) (hears again packets few)

-- ---- the counts add up

-- the stream has no clock
no_clock : (packets : ℕ) → (soak_stream packets).journal.times.clock.packets ≡ 0
unfolding soak_stream
no_clock packets = refl

some_samples : (packets : ℕ) → ((soak_stream packets).journal.times.count == 0) ≡ false
unfolding soak_stream
some_samples packets = refl

some_rate : (packets : ℕ) → ((soak_stream packets).journal.times.rate == 0) ≡ false
unfolding soak_stream
some_rate packets = refl

records_long : (packets : ℕ) → length (soak_records packets) ≡ length (deliveries_of packets)
unfolding soak_records
records_long packets = length-map (deliveries_of packets) (captured (soak_stream packets))

counted_by : (shown fragments packets : ℕ) → fragments ≡ 0 → shown + fragments ≡ packets → shown ≡ packets
counted_by shown fragments packets none sum = omega (arith, none, sum)

pub add_up : CvfAgain → (packets : ℕ) → packets ≤ 1000000 → total (soak_counts packets) ≡ (soak_counts packets).delivered
unfolding soak_counts
add_up again packets few =
    let p = (soak_stream packets).journal in
    let records = soak_records packets in
    let heard = hears again packets few in
    let copies = subst (λ (s : ℕ). AreFrom p 2000000 heard.delivered.origins (deliveries s None records)) (sym heard.stream) heard.delivered.copies in
    let none = others (pos 0) p soak_listener records heard (audio_stream packets) in
    let copied = deliveries_copied p None 2000000 soak_listener.stream heard.delivered.origins records copies in
    let sound = entries_sound (pos 0) p 2000000 (deliveries soak_listener.stream None records) heard.conforming (audio_stream packets) (no_clock packets) (some_samples packets) (some_rate packets) none copied in
    let whole = counts-add-up soak_listener records in
    let fragments = no_fragments (deliveries soak_listener.stream None records) none in
    total_all (length (deliveries_of packets)) (soak_shown packets) (shown_so clock_spot (schedule_plan soak_listener) (entries_in soak_listener records) refl sound)
    ∙ counted_by _ _ _ fragments whole
    ∙ ap (λ (s : ℕ). length (deliveries s None records)) heard.stream
    ∙ each_delivered p 2000000 (numbers_of packets) records (all_carried packets few) (λ n r. carried_belongs again (pos 0) p 2000000 n r (conforms packets few))
    ∙ records_long packets

pub counts_total : (packets : ℕ) (counts : SoakCounts) → total (soak_counts packets) ≡ (soak_counts packets).delivered → counts ≡ soak_counts packets → total counts ≡ counts.delivered
counts_total packets counts sum is = ap total is ∙ sum ∙ sym (ap (λ (c : SoakCounts). c.delivered) is)
