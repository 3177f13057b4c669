use Rattle.pcap_frames.proofs.Written.{written_is, written_records, written_refusal}
use Rattle.pcap_frames.proofs.law.capture_again.Goals as goal

pub returns : goal.returns
returns c = λ style records fits. record {
  capture = written_is style records fits;
  records = written_records style records fits;
  refusal = written_refusal style records fits;
}
