use Rattle.pcap_frames.proofs.One.{holds_one, style_one}
use Rattle.pcap_frames.proofs.Whole.{holds_whole}
use Rattle.pcap_frames.proofs.law.one_capture.Goals as goal

pub returns : goal.returns
returns c = λ bytes. record {
  some = holds_whole bytes;
  one_list = λ records others x y h k. (holds_one bytes records others x y h k).0;
  one_refusal = λ records others x y h k. (holds_one bytes records others x y h k).1;
  one_style = style_one bytes;
}
