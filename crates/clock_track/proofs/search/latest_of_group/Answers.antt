-- Proves the case in which the bounds of the group show that none of its pairs covers the instant.
use Rattle.std.proofs.Common.{sym}
use Rattle.clock_track.specs.Views.{row_of}
use Rattle.clock_track.proofs.Outside.{group-none}
use Rattle.clock_track.proofs.search.latest_of_group.Goals as goal

pub returns-then-is_past_group : goal.returns-then-is_past_group
returns-then-is_past_group c =
    sym (group-none c.args.row.now.shift (row_of c.args.row.now.points) c.args.groups.now c.args.group c.args.end c.args.query.now.rate c.args.query.now.lead c.args.query.now.instant c.args.query.now.leads
    c.requires.groups c.requires.group.0 c.requires.group.1 c.requires.group.2 (c.is_past_group.ensures c.if-is_past_group.true))
