-- What a listener takes of a delivery is the delivery's record.
use Rattle.std.proofs.Common.{◌≡◌, ℕ, ℤ, ◌<◌, ◌≤◌, List, length, map, Some, sym, ap, subst, ◌∙◌}
use Rattle.std.specs.Prelude.{All, slice_get}
use Rattle.std.proofs.lemmas.List.Elements.{All-from_recursion, All-weaker}
use Rattle.pcap_frames.specs.Capture.{Record}
use Rattle.listener.specs.Heard.{shown_of}
use Rattle.talker.specs.Frames.{SentFrame, frame_of, numbered_frames}
use Rattle.talker.specs.Journal.{Stream, stream_of}
use Rattle.soak_run.specs.Network.{deliveries_of, soak_plan}
use Rattle.talker.specs.Talking.{Talking}
use Rattle.talker.proofs.StreamLemmas.{at_number, count_of}
use Rattle.soak_run.specs.declared.counts.SoakCounts.{SoakCounts}
use Rattle.soak_run.specs.Captured.{captured, soak_input, soak_listener, soak_records, soak_stream}
use Rattle.soak_run.specs.state.Hearing.{IsDeliverable}
use Rattle.soak_run.specs.Outcomes.{outcomes, soak_counts}
use Rattle.soak_run.proofs.DeliveryLemmas.{IsCopy, are_copies, copy_time}
use Rattle.soak_run.proofs.StreamSizes.{frames_of_stream}

inside : (a b : SentFrame) → Some a ≡ Some b → a ≡ b
inside a b e = cc

-- A talker lends a frame for a delivery. If that frame is captured when the delivery arrives, the result is the
-- delivery's record.
pub taken : (s : Stream) (d : ℤ × ℕ) (sent : SentFrame) (arrival : ℤ) (long : ℕ) → d.1 < length (numbered_frames s) → slice_get (numbered_frames s) d.1 ≡ Some sent → arrival ≡ d.0 → long ≡ length sent.bytes
    → ◌≡◌ {A = Record} (record { arrival = arrival; orig_len = long; bytes = sent.bytes }) (captured s d)
taken s d sent arrival long known at a e =
    let same : sent ≡ frame_of s d.1 = inside sent (frame_of s d.1) (sym at ∙ at_number s d.1 (subst (λ (n : ℕ). d.1 < n) (count_of s) known)) in
    let R : ℤ → ℕ → List ℕ → Record = λ t n bytes. record { arrival = t; orig_len = n; bytes = bytes } in
    ap (λ (t : ℤ). R t long sent.bytes) a
    ∙ ap (λ (n : ℕ). R d.0 n sent.bytes) e
    ∙ ap (λ (f : SentFrame). R d.0 (length f.bytes) f.bytes) same

-- the talker of the stream, before it has given a packet
abbrev soak_talker : List ℕ → Talking
soak_talker input = record { plan = soak_plan; input = input; given = 0 }

one_deliverable : (packets : ℕ) (d : ℤ × ℕ) → packets ≤ 1000000 → IsCopy packets d → IsDeliverable (soak_talker (soak_input packets)) d
one_deliverable packets d few is = record {
  known = subst (λ (n : ℕ). d.1 < n) (sym (frames_of_stream packets)) is.known;
  time = copy_time packets d few is;
}

pub all_deliverable : (packets : ℕ) (input : List ℕ) (talker : Talking) (ds : List (ℤ × ℕ)) → packets ≤ 1000000 → input ≡ soak_input packets → talker ≡ soak_talker input → ds ≡ deliveries_of packets → All (IsDeliverable talker) ds
all_deliverable packets input talker ds few input_is talker_is ds_is =
    let is : talker ≡ soak_talker (soak_input packets) = talker_is ∙ ap soak_talker input_is in
    subst (λ (t : Talking). All (IsDeliverable t) ds) (sym is)
    (subst (All (IsDeliverable (soak_talker (soak_input packets)))) (sym ds_is)
    (All-weaker (IsCopy packets) (IsDeliverable (soak_talker (soak_input packets))) (λ d. one_deliverable packets d few) (deliveries_of packets)
    (All-from_recursion (IsCopy packets) (deliveries_of packets) (are_copies packets))))

-- the counts of all deliveries are `soak_counts`
pub counted_all : (packets : ℕ) (input : List ℕ) (talker : Talking) (ds : List (ℤ × ℕ)) (counts : SoakCounts) → input ≡ soak_input packets → talker ≡ soak_talker input → ds ≡ deliveries_of packets
    → counts ≡ outcomes (length ds) (shown_of soak_listener (map (captured (stream_of talker.plan talker.input)) ds)) → counts ≡ soak_counts packets
unfolding soak_counts soak_records soak_stream
counted_all packets input talker ds counts input_is talker_is ds_is is =
    is
    ∙ ap (λ (l : List (ℤ × ℕ)). outcomes (length l) (shown_of soak_listener (map (captured (stream_of talker.plan talker.input)) l))) ds_is
    ∙ ap (λ (t : Talking). outcomes (length (deliveries_of packets)) (shown_of soak_listener (map (captured (stream_of t.plan t.input)) (deliveries_of packets)))) (talker_is ∙ ap soak_talker input_is)
