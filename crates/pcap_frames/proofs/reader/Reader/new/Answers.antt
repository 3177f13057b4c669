use Rattle.pcap_frames.proofs.Steps.{read_nothing}
use Rattle.pcap_frames.proofs.reader.Reader.new.Goals as goal

pub returns-in-Ok-clause-read : goal.returns-in-Ok-clause-read
returns-in-Ok-clause-read c = read_nothing _ c.in-Ok.ensures.items
