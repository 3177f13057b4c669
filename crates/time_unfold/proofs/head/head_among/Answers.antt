-- The last `room` stamps of the list are searched.
use Rattle.std.proofs.Common.{◌-◌, Option, arith, length, drop, sym, subst}
use Rattle.std.proofs.lemmas.List.{length-drop, take_all}
use Rattle.time_unfold.specs.declared.stamp.Stamp.{Stamp}
use Rattle.time_unfold.specs.Stamps.{IsFound, last_of}
use Rattle.time_unfold.proofs.Found.{find_last-found}
use Rattle.time_unfold.proofs.head.head_among.Goals as goal

pub returns-clause-last : goal.returns-clause-last
returns-clause-last c =
    let first = c.saturating_sub-first.result in
    let whole = take_all (length c.args.stamps.now - first) (drop first c.args.stamps.now) (let n = length-drop first c.args.stamps.now in omega arith) in
    let value = rw (whole, c.saturating_sub-first.ensures) at c.last_fit.ensures.value in
    subst (λ (r : Option Stamp). IsFound c.args.want.now (last_of c.args.room c.args.stamps.now) r) (sym value)
    (find_last-found c.args.want.now (last_of c.args.room c.args.stamps.now))
