use Rattle.std.proofs.Common.{◌∙◌, Some, ap, arith, refl}
use Rattle.capture_io.specs.declared.capture_reader.Format.TheVariants.{Classic, Pcapng}
use Rattle.capture_io.proofs.Lending.{classic_next, classic_passes, front_as, ng_next, ng_passes, taken_as}
use Rattle.capture_io.proofs.capture_reader.CaptureReader.pass.Goals as goal

pub pass-requires-clause-next : goal.pass-requires-clause-next
pass-requires-clause-next c =
    let next = rw (← c.self.view_is) at c.requires.next in
    classic_next _ _ _ _ _ (c.in-Some.is ∙ ap Some c.in-Classic.is) next

pub pass-requires-clause-bounded : goal.pass-requires-clause-bounded
pass-requires-clause-bounded c =
    let room = rw (← c.self.view_is) at c.requires.bounded in
    omega (arith, room, taken_as c.self.inside.format Classic c.self.inside.front.items c.self.inside.classic c.self.inside.ng (c.in-Some.is ∙ ap Some c.in-Classic.is))

pub pass-requires-in-Pcapng-clause-next : goal.pass-requires-in-Pcapng-clause-next
pass-requires-in-Pcapng-clause-next c =
    let next = rw (← c.self.view_is) at c.requires.next in
    ng_next _ _ _ _ _ (c.in-Some.is ∙ ap Some c.in-Pcapng.is) next

pub pass-requires-in-Pcapng-clause-bounded : goal.pass-requires-in-Pcapng-clause-bounded
pass-requires-in-Pcapng-clause-bounded c =
    let room = rw (← c.self.view_is) at c.requires.bounded in
    omega (arith, room, taken_as c.self.inside.format Pcapng c.self.inside.front.items c.self.inside.classic c.self.inside.ng (c.in-Some.is ∙ ap Some c.in-Pcapng.is))

pub invariant_of-self : goal.invariant_of-self
invariant_of-self c = (c.self.invariant.0, front_as _ Classic _ _ _ _ _ (c.in-Some.is ∙ ap Some c.in-Classic.is) c.self.invariant.1 refl)

pub invariant_of-self-in-Pcapng : goal.invariant_of-self-in-Pcapng
invariant_of-self-in-Pcapng c = (c.self.invariant.0, front_as _ Pcapng _ _ _ _ _ (c.in-Some.is ∙ ap Some c.in-Pcapng.is) c.self.invariant.1 refl)

pub returns-in-Classic : goal.returns-in-Classic
returns-in-Classic c =
    let next = rw (← c.self.view_is) at c.requires.next in
    rw (← c.self.view_is) (classic_passes _ _ _ _ _ _ (c.in-Some.is ∙ ap Some c.in-Classic.is) next c.pass.ensures.exact)

pub returns-in-Pcapng : goal.returns-in-Pcapng
returns-in-Pcapng c =
    let next = rw (← c.self.view_is) at c.requires.next in
    rw (← c.self.view_is) (ng_passes _ _ _ _ _ _ (c.in-Some.is ∙ ap Some c.in-Pcapng.is) next c.pass-in-Pcapng.ensures.exact)
