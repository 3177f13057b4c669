use Rattle.std.proofs.Common.{◌-◌, ◌∷◌, ◌++◌, pos}
use Rattle.std.specs.List.{range_with_len}
use Rattle.listener.specs.Items.{unit_by}
use Rattle.listener_laws.specs.Anywhere.{unit_place}
use Rattle.talker.specs.Journal.{journal}
use Rattle.talked_headline.specs.Premises.{captured, part_sent}
use Rattle.talked_headline.proofs.Fragments.{parts_are}
use Rattle.talked_headline.proofs.Talked.{video_plan}
use Rattle.talked_presented.proofs.Anywhere.{caught_video}
use Rattle.talked_presented.proofs.UnitsAnywhere.{all_known, unit_due}
use Rattle.talked_presented.proofs.laws.talked_unit_anywhere_is_welcome.Goals as goal

pub returns : goal.returns
returns c plan input front after from n listen h =
    let l = h.talk in
    let p = journal plan input in
    let places = front ++ (range_with_len from (n - from) ++ n ∷ after) in
    let heard = c.talked_video_is_heard.ensures plan input places listen l in
    let w = caught_video plan input places listen l (all_known plan input front after from n listen h) heard (c.losses_are_delivered.ensures.records plan input places (video_plan plan l.last_stamp l.kind l.talked) l.limit) (record {
      stream = λ k r. c.carried_packet_is_delivered.ensures.belongs (pos 0) p listen.lead k r heard.conforming;
      copy = λ k frame r. c.carried_packet_is_delivered.ensures.copy p listen.lead k frame r;
      clock = λ m r. c.carried_clock_packet_is_delivered.ensures.belongs (pos 0) p m r heard.conforming;
      clock_copy = λ m frame r. c.carried_clock_packet_is_delivered.ensures.copy p m frame r;
    }) in
    let unit = unit_due plan input front after from n listen h heard.conforming w in (
      unit_place unit.before unit.last,
      (
        unit_by unit.before unit.last,
        c.units_anywhere_are_welcome.ensures (pos 0) p listen (captured plan input places) (part_sent input) from n unit.before unit.last heard (parts_are plan input l.last_stamp l.kind) unit.due,
      ),
    )
