use Rattle.listener.specs.Heard.{shown_of}
use Rattle.talked_presented.proofs.Counts.{count_flagged, count_presented}
use Rattle.talked_presented.proofs.laws.presented_are_counted.Goals as goal

pub returns-clause-presented : goal.returns-clause-presented
returns-clause-presented c = λ by p packets plan records are. count_presented by p packets (shown_of plan records) are

pub returns-clause-flagged : goal.returns-clause-flagged
returns-clause-flagged c = λ by p packets plan records are. count_flagged by p packets (shown_of plan records) are
