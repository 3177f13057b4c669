use Rattle.talked_headline.proofs.Talked.{video_plan}
use Rattle.talked_presented.proofs.VideoHeard.{any_heard, unit_fits, whole_heard}
use Rattle.talked_presented.proofs.laws.defaults_hear_units.Goals as goal

pub returns-clause-whole : goal.returns-clause-whole
returns-clause-whole c = whole_heard

pub returns-clause-stamped : goal.returns-clause-stamped
returns-clause-stamped c = any_heard

pub returns-clause-room : goal.returns-clause-room
returns-clause-room c plan input from n h known unit =
    unit_fits plan input from n h (c.journal_conforms.ensures.conforms plan input (video_plan plan h.last_stamp h.kind h.talked) h.stream_id h.limit) known unit
