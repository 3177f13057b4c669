use Rattle.std.proofs.Common.{◌≡◌, subst, rules}
use Prim.{search}
use Rattle.run_report.specs.Yield.{HandsOn}
use Rattle.capture_io.specs.Source.{Sourcing}
use Rattle.listener.specs.Listening.{ListenState}
use Rattle.capture_hearing.specs.declared.hearing.Stage.{Stage}
use Rattle.listen_command.specs.state.Listen.{HearsItems}
use Rattle.listen_command.proofs.command.hear_items.Goals as goal

-- a fact about what the two sides hold is also one about what the function was given
of_parts : {D F S T : Type 0} {d d' : D} {f f' : F} {s s' : Sourcing} {l l' : ListenState} {g g' : Stage} {o o' : S} {t t' : T} (P : D → F → Sourcing → ListenState → Stage → S → T → Type 0)
    → d ≡ d' → f ≡ f' → s ≡ s' → l ≡ l' → g ≡ g' → o ≡ o' → t ≡ t' → P d f s l g o t → P d' f' s' l' g' o' t'
of_parts {d = d} {d'} {f} {f'} {s} {s'} {l} {l'} {g} {g'} {o} {o'} {t} {t'} P is-d is-f is-s is-l is-g is-o is-t p =
    subst (λ x. P d' f' s' l' g' o' x) is-t (subst (λ x. P d' f' s' l' g' x t) is-o (subst (λ x. P d' f' s' l' x o t) is-g (subst (λ x. P d' f' s' x g o t) is-l
    (subst (λ x. P d' f' x l g o t) is-s (subst (λ x. P d' x s l g o t) is-f (subst (λ x. P x f s l g o t) is-d p))))))

pub returns : goal.returns
returns g c =
    of_parts
    (λ (rack : g.row.D.Denot) (shelf : g.row.F.Denot) source listener stage (out : g.row.S.Denot) text.
    HearsItems (HandsOn g.D.Devices.handed c.args.rack.now rack) (g.F.Shelf.state c.args.context.shelf.now) (g.F.Shelf.state shelf)
    c.args.hearing.now.source source c.args.hearing.now.listener listener stage
    (g.S.Sink.state c.args.context.out.now) (g.S.Sink.state out) c.args.context.text.now text c.present_all.result)
    (search rules) (search rules) (search rules) (search rules) (search rules) (search rules) (search rules) c.present_all.ensures.hears
