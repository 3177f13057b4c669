use Rattle.std.proofs.Common.{sym}
use Rattle.std.proofs.lemmas.List.{drop-drop}
use Rattle.avtp_text.proofs.line.Line.keep_last.Goals as goal

pub returns : goal.returns
returns c = rw (c.saturating_sub.ensures, c.len.ensures, ← c.self.view_is) (sym (drop-drop _ c.self.inside.start c.self.inside.scratch))
