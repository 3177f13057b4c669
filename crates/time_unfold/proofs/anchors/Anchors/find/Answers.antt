-- In the list of stamps, the newer stamps are after the older ones.
use Rattle.std.proofs.Common.{◌≡◌, ◌++◌, All, List, sym, ap, ◌∙◌, subst}
use Rattle.time_unfold.specs.declared.stamp.Stamp.{Stamp}
use Rattle.time_unfold.specs.declared.stamp.Want.{Want}
use Rattle.time_unfold.specs.Anchors.{KeepsLast, LastStamps}
use Rattle.time_unfold.specs.Limits.{IsStamp}
use Rattle.time_unfold.specs.Stamps.{find_last, fits, found}
use Rattle.time_unfold.proofs.Found.{All-back, find_last-before, find_last-behind}
use Rattle.time_unfold.proofs.anchors.Anchors.find.Goals as goal

-- `found` says which of all noted stamps is wanted; a search of the kept stamps finds this stamp
held : (state : LastStamps) (want : Want) (parts stamps : List Stamp) → parts ≡ state.stamps → KeepsLast state stamps → find_last (fits want) parts ≡ found state.room want stamps
held state want parts stamps e keeps = ap (λ (l : List Stamp). find_last (fits want) l) (e ∙ keeps)

pub last_fit-requires-clause-stamps : goal.last_fit-requires-clause-stamps
last_fit-requires-clause-stamps c =
    All-back IsStamp c.as_slices.result.0.now c.as_slices.result.1.now (subst (λ (l : List Stamp). All IsStamp l) (sym c.as_slices.ensures) c.self.invariant.1)

pub returns-in-Some-clause-value : goal.returns-in-Some-clause-value
returns-in-Some-clause-value c stamps keeps =
    let all = c.as_slices.ensures ∙ ap (λ (s : LastStamps). s.stamps) c.self.view_is in
    sym (find_last-behind (fits c.args.want.now) c.as_slices.result.0.now c.as_slices.result.1.now c.in-Some.stamp (sym c.last_fit.ensures.value ∙ c.in-Some.is))
    ∙ held c.args.self.now c.args.want.now (c.as_slices.result.0.now ++ c.as_slices.result.1.now) stamps all keeps

pub returns-in-None-clause-value : goal.returns-in-None-clause-value
returns-in-None-clause-value c stamps keeps =
    let all = c.as_slices.ensures ∙ ap (λ (s : LastStamps). s.stamps) c.self.view_is in
    c.last_fit-in-None.ensures.value
    ∙ sym (find_last-before (fits c.args.want.now) c.as_slices.result.0.now c.as_slices.result.1.now (sym c.last_fit.ensures.value ∙ c.in-None.is))
    ∙ held c.args.self.now c.args.want.now (c.as_slices.result.0.now ++ c.as_slices.result.1.now) stamps all keeps
