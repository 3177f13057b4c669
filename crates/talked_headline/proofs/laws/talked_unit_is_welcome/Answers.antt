use Rattle.std.proofs.Common.{◌≡◌, ℕ, ◌+◌, ◌-◌, ◌<◌, ◌++◌, ◌∷◌, List, Some, map, length, pos, ap, ◌∙◌, subst, arith}
use Rattle.std.specs.Prelude.{slice_get}
use Rattle.std.proofs.lemmas.List.{length-map, map-append}
use Rattle.pcap_frames.specs.Capture.{Record}
use Rattle.stream_journal.specs.Conforming.{IsOfKind}
use Rattle.stream_journal.specs.Journal.{Kind}
use Rattle.packet_journal.specs.Carried.{Carries}
use Rattle.packet_journal.specs.Deliveries.{delivery}
use Rattle.listener.specs.Items.{unit_by}
use Rattle.talker.specs.Frames.{SentFrame, frames, frames_at, record_of}
use Rattle.talker.specs.Journal.{journal}
use Rattle.talked_headline.specs.Premises.{captured, part_sent}
use Rattle.std.specs.List.{range_with_len}
use Rattle.talked_headline.proofs.Fragments.{all_belong, all_copies, few_packets, first_before, first_deliveries, frames_of, numbered, numbered_long, parts_are, same_byte, unit_size}
use Rattle.talked_headline.proofs.Talked.{carries_at, early_frame, first_kept, stream_is, video_expects, video_plan}
use Rattle.talked_headline.proofs.laws.talked_unit_is_welcome.Goals as goal

pub returns : goal.returns
returns c plan input places listen from n l room =
    let p = journal plan input in
    let talked = video_plan plan l.last_stamp l.kind l.talked in
    let kind = parts_are plan input l.last_stamp l.kind in
    let taken = range_with_len from (n - from) ++ n ∷ places in
    let all = captured plan input taken in
    let low = first_before (part_sent input) from n room.packets in
    let conforming = c.journal_conforms.ensures.conforms plan input talked l.stream_id l.limit in
    let carry = c.capture_delivers.ensures.carries plan input listen.lead talked l.talked.crf l.limit (video_expects plan l.last_stamp listen.lead l.kind) in
    let early = λ (k : ℕ) (known : k < p.times.packets). early_frame plan input k (c.packets_are_sent_in_time.ensures.alone plan input k talked l.talked.crf l.limit known) in
    let carries = λ (k : ℕ) (f : SentFrame) (known : k < p.times.packets) (there : slice_get (frames plan input) k ≡ Some f). carries_at p listen.lead 0 p.times.packets k k (frames plan input) f (omega arith) carry known there in
    let known_all = room.known in
    let front = frames_of plan input listen.lead from (n - from) (λ i lt.
    let known : i < p.times.packets = omega (arith, lt, low, known_all) in
    let found = early i known in
    (found.0, (found.1.there, carries i found.0 known found.1.there))) in
    let found = early n room.known in
    let r = record_of found.0 in
    let rs = map record_of front.sent in
    let rest = map record_of (frames_at plan input places) in
    let records : all ≡ rs ++ r ∷ rest =
    c.losses_are_delivered.ensures.records plan input taken talked l.limit
    ∙ (ap (λ (fs : List SentFrame). map record_of fs) (front.same (n ∷ places) ∙ ap (λ (fs : List SentFrame). front.sent ++ fs) (first_kept plan input places n found.0 found.1.there))
    ∙ map-append record_of front.sent (found.0 ∷ frames_at plan input places)) in
    let reads = λ (k : ℕ) (s : Record) (h : Carries p listen.lead k s). c.carried_packet_is_delivered.ensures.belongs (pos 0) p listen.lead k s conforming h in
    let copies = λ (k frame : ℕ) (s : Record) (h : Carries p listen.lead k s). c.carried_packet_is_delivered.ensures.copy p listen.lead k frame s h in
    let last_carries = carries n found.0 room.known found.1.there in
    let listed = first_deliveries listen.stream p.stream listen.clock all rs r rest (l.stream ∙ stream_is plan input) records (all_belong p listen.lead from (n - from) rs reads front.carry) (reads n r last_carries) in
    let earlier = numbered 1 rs in
    let last = delivery (1 + length rs) r in
    let long : length earlier ≡ n - from = numbered_long 1 rs ∙ (length-map front.sent record_of ∙ front.long) in
    let is = subst (λ (k : Kind). IsOfKind k p.times) kind conforming.times.kind in
    let few = few_packets plan input l.last_stamp from n l.kind is room.known room.packets in (
      unit_by earlier last,
      c.first_fragments_are_welcome.ensures (pos 0) p listen all from n (part_sent input) earlier last listed.0 (c.talked_video_is_heard.ensures plan input taken listen l) kind listed.1
          (record {
            to = omega (arith, long, low);
            packets = room.packets;
            earlier_copies = all_copies p listen.lead from (n - from) 1 rs copies front.carry;
            last_copy = copies n (1 + length rs) r last_carries;
            same_byte = λ k above below. same_byte plan input l.last_stamp from n k l.kind room.packets above below;
            size = unit_size plan input l.last_stamp from n l.kind few;
            few = omega (arith, long, few);
          })
          found.1.early room.some room.fits,
    )
