use Rattle.std.proofs.Common.{List, ℕ, pos, subst, sym}
use Rattle.stream_journal.specs.Delivered.{AreNear}
use Rattle.talker.specs.Frames.{frames, packet_numbers, records}
use Rattle.talker.specs.Journal.{journal}
use Rattle.talker.proofs.LawLemmas.{all_carry, every_carried, whole_near}
use Rattle.talker.proofs.TalkLemmas.{plan_keeps}
use Rattle.talker.proofs.laws.capture_delivers.Goals as goal

pub returns-clause-carries : goal.returns-clause-carries
returns-clause-carries c = λ plan input lead p none limit expects. all_carry plan input lead p none limit expects

pub returns-clause-delivers : goal.returns-clause-delivers
returns-clause-delivers c = λ plan input clock lead p id limit expects.
    let is = plan_keeps plan input p limit in
    let carried = every_carried plan input lead p limit expects in
    let near = is.near (packet_numbers (frames plan input)) (whole_near plan input p limit) in
    c.records_of_both_are_delivered.ensures (pos 0) (journal plan input) clock lead carried.origins (records plan input)
    (is.conforms id) carried.carry (subst (λ (numbers : List ℕ). AreNear (journal plan input).times numbers) (sym carried.numbers) near)
