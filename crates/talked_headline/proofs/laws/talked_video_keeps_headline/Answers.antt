use Rattle.std.proofs.Common.{pos}
use Rattle.talker.specs.Journal.{journal}
use Rattle.talked_headline.specs.Premises.{captured}
use Rattle.talked_headline.proofs.laws.talked_video_keeps_headline.Goals as goal

pub returns : goal.returns
returns c plan input places listen l =
    c.headline_holds.ensures (pos 0) (journal plan input) listen (captured plan input places) (c.talked_video_is_heard.ensures plan input places listen l)
