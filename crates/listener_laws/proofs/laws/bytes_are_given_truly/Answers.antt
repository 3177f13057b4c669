use Rattle.pcap_frames.specs.Capture.{whole_records}
use Rattle.listener_laws.proofs.laws.bytes_are_given_truly.Goals as goal

pub returns-clause-ended : goal.returns-clause-ended
returns-clause-ended c shift p fed bytes = c.records_are_given_truly.ensures.ended shift p fed.listener (whole_records bytes)

pub returns-clause-due : goal.returns-clause-due
returns-clause-due c shift p fed bytes others = c.records_are_given_truly.ensures.due shift p fed.listener (whole_records bytes) others
