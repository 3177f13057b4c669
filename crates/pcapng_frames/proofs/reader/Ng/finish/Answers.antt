use Rattle.std.proofs.Common.{◌∙◌, refl, sym}
use Rattle.pcapng_frames.proofs.Rest.{ends_now, ends_so, end_refused}
use Rattle.pcapng_frames.proofs.reader.Ng.finish.Goals as goal

pub returns-in-Some : goal.returns-in-Some
returns-in-Some c = rw (← c.self.view_is) (ends_now _ _ _ (end_refused _ _ c.in-Some.is) refl (rw c.in-Some.is refl))

pub returns-in-None-missing : goal.returns-in-None-missing
returns-in-None-missing c =
    let lack = rw (← c.self.view_is) at c.missing.ensures in
    rw (← c.self.view_is) (ends_now _ _ _ (ends_so c.self.inside.cursor c.self.inside.interfaces c.self.inside.part.items _ _ _ _ c.in-None.is c.self.invariant.reading c.self.invariant.head) (sym c.in-None-missing.is ∙ lack) (rw c.in-None.is tt))

pub returns-in-Some-missing : goal.returns-in-Some-missing
returns-in-Some-missing c =
    let lack = rw (← c.self.view_is) at c.missing.ensures in
    rw (← c.self.view_is) (ends_now _ _ _ (ends_so c.self.inside.cursor c.self.inside.interfaces c.self.inside.part.items _ _ _ _ c.in-None.is c.self.invariant.reading c.self.invariant.head) (sym c.in-Some-missing.is ∙ lack) (rw c.in-None.is tt))
