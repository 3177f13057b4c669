use Rattle.talker.proofs.LawLemmas.{sent_in_time, stream_in_time}
use Rattle.talker.proofs.laws.packets_are_sent_in_time.Goals as goal

pub returns-clause-alone : goal.returns-clause-alone
returns-clause-alone c = sent_in_time

pub returns-clause-stream : goal.returns-clause-stream
returns-clause-stream c = stream_in_time
