use Rattle.std.proofs.Common.{List, ℕ, map, pos, subst, sym}
use Rattle.pcap_frames.proofs.Written.{written_records}
use Rattle.stream_journal.specs.Delivered.{AreNear}
use Rattle.talker.specs.Frames.{capture_style, frames_at, packet_numbers, record_of}
use Rattle.talker.specs.Journal.{journal}
use Rattle.talker.proofs.LawLemmas.{audio_near, kept_carried, kept_spelled}
use Rattle.talker.proofs.TalkLemmas.{audio_plan, plan_keeps}
use Rattle.talker.proofs.laws.losses_are_delivered.Goals as goal

pub returns-clause-records : goal.returns-clause-records
returns-clause-records c = λ plan input places p limit. written_records capture_style (map record_of (frames_at plan input places))
    (kept_spelled plan input places p limit)

pub returns-clause-delivers_all : goal.returns-clause-delivers_all
returns-clause-delivers_all c = λ plan input places clock lead p id limit expects near.
    let records = map record_of (frames_at plan input places) in
    let is = plan_keeps plan input p limit in
    let carried = kept_carried plan input places lead p limit expects in
    rw (written_records capture_style records (kept_spelled plan input places p limit))
    (c.records_of_both_are_delivered.ensures (pos 0) (journal plan input) clock lead carried.origins records
    (is.conforms id) carried.carry
    (subst (λ (numbers : List ℕ). AreNear (journal plan input).times numbers) (sym carried.numbers)
    (is.near (packet_numbers (frames_at plan input places)) near)))

pub returns-clause-delivers : goal.returns-clause-delivers
returns-clause-delivers c = λ plan input places clock lead p id limit expects.
    returns-clause-delivers_all c plan input places clock lead (audio_plan plan p) id limit expects
    (audio_near plan input (frames_at plan input places) p)
