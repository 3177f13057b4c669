use Rattle.pcap_frames.specs.Reading.{shown}
use Rattle.capture_hearing.proofs.HearingTo.{goes_ended, goes_no_memory, goes_record, sound_ended, sound_record}
use Rattle.capture_hearing.proofs.hearing.Hearing.read_record.Goals as goal

pub returns-in-Ok-clause-on : goal.returns-in-Ok-clause-on
returns-in-Ok-clause-on g c = goes_record c.requires.reading.1 c.args.self.now.sound (shown c.record.result) c.in-None.ensures c.in-Ok.ensures c.record.ensures.exact

pub returns-in-Err-clause-on : goal.returns-in-Err-clause-on
returns-in-Err-clause-on g c = goes_no_memory c.requires.reading.1 c.args.self.now.sound c.in-None.ensures c.in-Err.ensures.same

pub returns-in-Some-clause-on : goal.returns-in-Some-clause-on
returns-in-Some-clause-on g c = goes_ended c.requires.reading.1 c.args.self.now.sound c.in-Some.end c.in-Some.ensures c.close_at.ensures

pub invariant_of-self : goal.invariant_of-self
invariant_of-self g c = record { sound = sound_record c.requires.reading.1 c.args.self.now.sound (shown c.record.result) c.in-None.ensures c.in-Ok.ensures }

pub invariant_of-self-in-Some : goal.invariant_of-self-in-Some
invariant_of-self-in-Some g c = record { sound = sound_ended c.in-Some.end c.args.self.now.sound c.close_at.ensures }
