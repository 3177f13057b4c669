use Rattle.std.proofs.Common.{None, Some, rules, refl, sym, subst, ap, ◌∙◌}
use Rattle.avtp_base.specs.Faults.{FailsAt}
use Rattle.capture_io.specs.declared.end.End.{End}
use Rattle.capture_io.specs.Ends.{CountsFault, end_at}
use Rattle.capture_io.specs.Source.{EndsAfter, Sourcing, HasFed, held_in, remains_of}
use Rattle.capture_io.proofs.Giving.{ended_so, refused_end, stop_counted, stopped}
use Rattle.capture_io.proofs.Leaving.{reads_still}
use Rattle.capture_io.proofs.feed.Feed.step.Goals as goal

pub returns-then-is_empty : goal.returns-then-is_empty
returns-then-is_empty g c =
    let before = (g.F.Shelf.state c.args.shelf.now).reading_faults in
    let after = (g.F.Shelf.state c.read.new.shelf).reading_faults in
    let free = ap held_in c.self.view_is ∙ c.requires.1 in
    let count = c.in_ok-stop.ensures.counted in
    let how = c.end.ensures ∙ ap (end_at c.in_ok-stop.stop) c.err.ensures.value in
    ended_so c.end.result refl (λ limit bytes records fed.
    let here = subst (λ (s : Sourcing). HasFed limit bytes (remains_of (g.F.Shelf.state c.args.shelf.now) s) s records) (sym c.self.view_is) fed in
    let is = c.in_ok-stop.ensures.stopped limit bytes here.prefix here.taken in
    subst (λ (e : End). EndsAfter limit bytes (FailsAt before after) e records) (sym how) (stopped limit bytes _ _ records _ _ _ here free is (c.finish.ensures here.prefix records here.read)))
    (subst (λ (e : End). CountsFault None (Some e) before after) (sym how) (stop_counted before after _ _ count)) (search rules)

pub returns-in-Err : goal.returns-in-Err
returns-in-Err g c =
    ended_so _ refl (λ limit bytes records fed.
    let here = subst (λ (s : Sourcing). HasFed limit bytes (remains_of (g.F.Shelf.state c.args.shelf.now) s) s records) (sym c.self.view_is) fed in
    refused_end limit bytes _ _ records _ c.in-Err.refusal c.waiting-2.result.now here c.waiting-2.ensures c.in-Err.ensures.refused) refl (reads_still _ _ _ (search rules) c.requires.0)
