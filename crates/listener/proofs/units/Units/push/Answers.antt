use Rattle.std.proofs.Common.{◌≡◌, ◌++◌, ◌∷◌, [], ℕ, ℤ, List, refl, sym, ap, ◌∙◌, subst, arith}
use Rattle.cvf_format.specs.Assembly.{StandsFor, fragment_of}
use Rattle.cvf_format.specs.Cvf.{cvf_shape}
use Rattle.cvf_format.specs.declared.piece.Piece.{Piece}
use Rattle.cvf_format.specs.WholeOrBroken.{Fragment, packet, piece, reason, whole_unit}
use Rattle.time_unfold.specs.Time.{unfolded}
use Rattle.listener.specs.Gathering.{Gathered}
use Rattle.listener.specs.state.Gathering.{Pushes, own_item}
use Rattle.listener.specs.Units.{fragment_in}
use Rattle.listener.specs.state.Views.{delivery_shape}
use Rattle.listener.proofs.Gathered.{sound_push}
use Rattle.listener.proofs.units.Units.push.Goals as goal

same : (c : goal.Joined-self-own_item) → fragment_of c.mark_of-mark.result c.stamp_of-stamp.result c.args.view.now ≡ fragment_in (delivery_shape c.args.delivery.now) (cvf_shape c.args.view.now)
same c = rw (c.mark_of-mark.ensures, c.stamp_of-stamp.ensures) refl

pushes : (c : goal.Joined-self-own_item) (old : Gathered) → old.assembly ≡ c.self.inside.assembler
    → Pushes (delivery_shape c.args.delivery.now) (cvf_shape c.args.view.now) old (record { assembly = c.push-pushed.new.self; why = c.push-pushed.result.why; taken = 0; own = c.own_item.result })
pushes c old is =
    let d = delivery_shape c.args.delivery.now in
    let instant : ℤ = unfolded c.args.view.now.header.timestamp c.args.delivery.now.arrival in
    record {
      stands = λ es s.
          subst (λ (f : Fragment). StandsFor c.push-pushed.new.self (es ++ packet f ∷ [])) (same c) (c.push-pushed.ensures.stands es (subst (λ a. StandsFor a es) is s));
      why = λ es s. c.push-pushed.ensures.why es (subst (λ a. StandsFor a es) is s) ∙ ap (λ (f : Fragment). reason (es ++ packet f ∷ [])) (same c);
      taken = refl;
      own = λ es s.
          let here = subst (λ a. StandsFor a es) is s in
          c.own_item.ensures.own
          ∙ (ap (λ (u : List ℕ). own_item d instant u c.push-pushed.result.piece) (c.unit.ensures _ (c.push-pushed.ensures.stands es here) ∙ ap (λ (f : Fragment). whole_unit (es ++ packet f ∷ [])) (same c))
          ∙ ap (λ (p : Piece). own_item d instant (whole_unit (es ++ packet (fragment_in d (cvf_shape c.args.view.now)) ∷ [])) p) (c.push-pushed.ensures.piece es here ∙ ap (λ (f : Fragment). piece (es ++ packet f ∷ [])) (same c)));
    }

pub invariant_of-self : goal.invariant_of-self
invariant_of-self c = (
  sound_push (delivery_shape c.args.delivery.now) (cvf_shape c.args.view.now) _ (record { assembly = c.push-pushed.new.self; why = c.push-pushed.result.why; taken = 0; own = c.own_item.result })
      c.self.invariant.0 c.args.delivery.now.timely c.own_item.ensures.item (pushes c _ refl),
  c.push-pushed.ensures.marks,
  omega arith,
)

pub returns : goal.returns
returns c = pushes c c.args.self.now (ap (λ (u : Gathered). u.assembly) (sym c.self.view_is))
