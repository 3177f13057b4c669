use Rattle.pcap_frames.proofs.Written.{written_is, written_records, written_refusal}
use Rattle.talker.specs.Frames.{capture_style, records}
use Rattle.talker.proofs.LawLemmas.{records_spelled}
use Rattle.talker.proofs.laws.capture_reads_back.Goals as goal

pub returns-clause-capture : goal.returns-clause-capture
returns-clause-capture c = λ plan input p limit. written_is capture_style (records plan input) (records_spelled plan input p limit)

pub returns-clause-records : goal.returns-clause-records
returns-clause-records c = λ plan input p limit. written_records capture_style (records plan input) (records_spelled plan input p limit)

pub returns-clause-refusal : goal.returns-clause-refusal
returns-clause-refusal c = λ plan input p limit. written_refusal capture_style (records plan input) (records_spelled plan input p limit)
