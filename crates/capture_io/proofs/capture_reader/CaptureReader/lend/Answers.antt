use Rattle.std.proofs.Common.{◌∙◌, Some, ap}
use Rattle.capture_io.proofs.Lending.{classic_lends, classic_next, ng_lends, ng_next}
use Rattle.capture_io.proofs.capture_reader.CaptureReader.lend.Goals as goal

pub lend-requires : goal.lend-requires
lend-requires c =
    let next = rw (← c.self.view_is) at c.requires in
    classic_next _ _ _ _ _ (c.in-Some.is ∙ ap Some c.in-Classic.is) next

pub lend-requires-in-Pcapng : goal.lend-requires-in-Pcapng
lend-requires-in-Pcapng c =
    let next = rw (← c.self.view_is) at c.requires in
    ng_next _ _ _ _ _ (c.in-Some.is ∙ ap Some c.in-Pcapng.is) next

pub returns-in-Classic : goal.returns-in-Classic
returns-in-Classic c = rw (← c.self.view_is) (classic_lends _ _ _ _ _ _ (c.in-Some.is ∙ ap Some c.in-Classic.is) c.lend.ensures)

pub returns-in-Pcapng : goal.returns-in-Pcapng
returns-in-Pcapng c = rw (← c.self.view_is) (ng_lends _ _ _ _ _ _ (c.in-Some.is ∙ ap Some c.in-Pcapng.is) c.lend-in-Pcapng.ensures)
