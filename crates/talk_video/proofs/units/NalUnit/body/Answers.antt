use Rattle.std.proofs.Common.{◌-◌, sym, ◌∙◌}
use Rattle.talk_video.proofs.VideoParts.{short_rest}
use Rattle.talk_video.proofs.units.NalUnit.body.Goals as goal

pub returns-in-Single-clause-short : goal.returns-in-Single-clause-short
returns-in-Single-clause-short c =
    let unit = c.args.self.now in
    short_rest c.args.bytes.now unit.from unit.to (c.args.n - unit.first) (sym c.part.ensures ∙ c.in-Single.is)
