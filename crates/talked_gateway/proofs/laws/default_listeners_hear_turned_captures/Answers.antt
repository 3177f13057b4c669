use Rattle.listener.specs.Heard.{shown_of}
use Rattle.listener.specs.Laws.{presented_of}
use Rattle.talker.proofs.TalkLemmas.{audio_plan}
use Rattle.talked_headline.specs.Premises.{captured}
use Rattle.am824_gateway.proofs.Scanned.{scanned_fits}
use Rattle.am824_gateway.specs.Scan.{shape_in}
use Rattle.gateway_laws.proofs.Room.{has_room}
use Rattle.gateway_laws.proofs.Timely.{shown_in_time}
use Rattle.talked_gateway.proofs.Skipped.{shown_apart}
use Rattle.talked_gateway.proofs.Spread.{packets_spread}
use Rattle.talked_gateway.proofs.laws.default_listeners_hear_turned_captures.Goals as goal

pub returns : goal.returns
returns c to plan input places listen id hearing l none clean small default =
    let records = captured plan input places in
    let shape = shape_in listen.stream records in
    let batches = presented_of (shown_of listen records) in
    let conforms = c.journal_conforms.ensures.conforms plan input (audio_plan plan l.talked) l.id l.limit in
    let apart = shown_apart plan input listen records l.talked l.limit conforms none (c.talked_keeps_headline.ensures plan input places listen l) in
    has_room to shape id batches hearing (scanned_fits to listen.stream records clean) small (shown_in_time listen records) (packets_spread to shape batches apart) default
