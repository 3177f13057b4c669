use Rattle.pcap_frames.specs.Reading.{shown}
use Rattle.agree_command.proofs.SideBySide.{takes_by}
use Rattle.agree_command.proofs.comparing.take_record.Goals as goal

pub returns-in-Ok : goal.returns-in-Ok
returns-in-Ok c = (shown c.record.result, c.record.ensures.exact, takes_by c.args.which (shown c.record.result) c.args.pair.now c.take_record.new.self c.in-Ok.ensures.stands_a c.in-Ok.ensures.stands_b c.in-Ok.ensures.taken)
