-- What the receiver's side did, step by step.
use Rattle.std.proofs.Common.{◌≡◌, ℕ, List, [], ◌++◌, refl, sym, ap, subst, ◌∙◌, arith, append_assoc, append-nil, length-append, Option, Some, None, IsSome}
use Rattle.rtrb.specs.Ring.{sent, SameProducer}
use Rattle.sample_schedule.specs.declared.shown.Shown.{Shown}
use Rattle.presenter_ring.specs.declared.front.Front.{Front}
use Rattle.presenter_ring.specs.declared.receiver.Pull.{Pull}
use Rattle.presenter_ring.specs.Fronts.{hand_of, ended_of}
use Rattle.presenter_ring.specs.state.Fronts.{HasFed}

pub SameProducer-then : (a b c : Front) → SameProducer a.producer b.producer → SameProducer b.producer c.producer → SameProducer a.producer c.producer
SameProducer-then a b c p q = ((cc, cc, cc, cc), cc)

module _ {R : Type 0} (gave : R → R → List Shown → Type 0) (left : R → ℕ) (ended : R → Option Pull) where
  pub HasFed-none : (r : R) (a : Front) → (ended_of a ≡ None → ended r ≡ None) → HasFed gave left ended r r a a
  HasFed-none r a live = record {
    given = [];
    pushed = [];
    gives = λ begun items h. subst (gave begun r) (sym (append-nil items)) h;
    leaves = omega arith;
    in_order = append-nil (hand_of a);
    sends = sym (append-nil (sent a.producer));
    same_ring = ((refl, refl, refl, refl), refl);
    counted = omega arith;
    ends = λ h. h ∙ sym (live h);
    stays = λ h. (refl, refl);
  }

  ends-then : (r r' r'' : R) (b c : Front) → ended_of b ≡ ended r' → (ended_of b ≡ None → ended_of c ≡ ended r'')
      → (IsSome (ended_of b) → (ended_of c ≡ ended_of b) × (r'' ≡ r')) → ended_of c ≡ ended r''
  ends-then r r' r'' b c is ends stays =
      elim (ended_of b) as (λ (e : Option Pull). ended_of b ≡ e → ended_of c ≡ ended r'') [
        | None ↦ λ h. ends h
        | Some p ↦ λ h. let kept = stays (rw h refl) in kept.0 ∙ is ∙ ap ended (sym kept.1)
      ] refl

  pub HasFed-then : (r r' r'' : R) (a b c : Front) → HasFed gave left ended r r' a b → HasFed gave left ended r' r'' b c → HasFed gave left ended r r'' a c
  HasFed-then r r' r'' a b c p q = record {
    given = p.given ++ q.given;
    pushed = p.pushed ++ q.pushed;
    gives = λ begun items h. subst (gave begun r'') (append_assoc items p.given q.given) (q.gives begun (items ++ p.given) (p.gives begun items h));
    leaves = omega (arith, p.leaves, q.leaves, length-append p.given q.given);
    in_order =
        sym (append_assoc (hand_of a) p.given q.given) ∙ ap (λ xs. xs ++ q.given) p.in_order ∙ append_assoc p.pushed (hand_of b) q.given
        ∙ ap (λ xs. p.pushed ++ xs) q.in_order ∙ sym (append_assoc p.pushed q.pushed (hand_of c));
    sends = q.sends ∙ ap (λ xs. xs ++ q.pushed) p.sends ∙ append_assoc (sent a.producer) p.pushed q.pushed;
    same_ring = SameProducer-then a b c p.same_ring q.same_ring;
    counted = omega (arith, p.counted, q.counted, length-append p.given q.given);
    ends = λ h. ends-then r r' r'' b c (p.ends h) q.ends q.stays;
    stays = λ h.
        let first = p.stays h in
        let second = q.stays (subst IsSome (sym first.0) h) in
        (second.0 ∙ first.0, second.1 ∙ first.1);
  }
