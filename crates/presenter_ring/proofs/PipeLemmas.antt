-- What a round did, derived from what its two sides did.
use Rattle.std.proofs.Common.{◌≡◌, ℕ, ◌+◌, ◌<◌, ◌≤◌, List, [], ◌++◌, length, refl, sym, ap, subst, ◌∙◌, arith, append_assoc, append-nil, length-append, Option, Some, None, IsSome, option_map}
use Rattle.std.proofs.lemmas.List.{append_cancel_left}
use Rattle.rtrb.specs.Ring.{sent, received, known_items}
use Rattle.sample_schedule.specs.declared.shown.Shown.{Shown}
use Rattle.presenter_ring.specs.declared.ending.Ending.{Ending}
use Rattle.presenter_ring.specs.declared.pipe.Pipe.{Pipe}
use Rattle.presenter_ring.specs.declared.receiver.Pull.{Pull}
use Rattle.presenter_ring.specs.Pulls.{pull_of}
use Rattle.presenter_ring.specs.Fronts.{hand_of}
use Rattle.presenter_ring.specs.state.Fronts.{HasFed}
use Rattle.presenter_ring.specs.state.Backs.{HasPresented}
use Rattle.presenter_ring.specs.Pipes.{ring_of, waiting_in, ended_with, known_free_of, pushed_by, popped_by, work, HasMoved, IsDrained, IsRound}
use Rattle.presenter_ring.specs.state.Pipes.{IsStill, HasStepped, EmptiesHand}

in_ring : (received known popped known' sent pushed : List Shown) → received ++ known ≡ sent → (received ++ popped) ++ known' ≡ sent ++ pushed → known ++ pushed ≡ popped ++ known'
in_ring received known popped known' sent pushed old new =
    append_cancel_left received (known ++ pushed) (popped ++ known')
    (sym (append_assoc received known pushed) ∙ ap (λ xs. xs ++ pushed) old ∙ sym new ∙ append_assoc received popped known')

-- the ring holds, in order, the items that were pushed and not popped; this is true of every pipe
abbrev pub Fifo : Pipe → Type 0
Fifo pipe = popped_by pipe ++ ring_of pipe ≡ pushed_by pipe

module _ {R P : Type 0} (gave : R → R → List Shown → Type 0) (left : R → ℕ) (ended : R → Option Pull) (handed : P → P → List Shown → Type 0) where
  ring_then : (r r' : R) (p p' : P) (a b : Pipe) → Fifo a → Fifo b → (fed : HasFed gave left ended r r' a.front b.front) → (shown : HasPresented handed p p' a.back b.back)
      → ring_of a ++ fed.pushed ≡ shown.presented ++ ring_of b
  ring_then r r' p p' a b old new fed shown =
      in_ring (popped_by a) (ring_of a) shown.presented (ring_of b) (pushed_by a) fed.pushed old
      (ap (λ xs. xs ++ ring_of b) (sym shown.receives) ∙ new ∙ fed.sends)

  waits_then : (r r' : R) (p p' : P) (a b : Pipe) → Fifo a → Fifo b → (fed : HasFed gave left ended r r' a.front b.front) → (shown : HasPresented handed p p' a.back b.back)
      → waiting_in a ++ fed.given ≡ shown.presented ++ waiting_in b
  waits_then r r' p p' a b old new fed shown =
      append_assoc (ring_of a) (hand_of a.front) fed.given ∙ ap (λ xs. ring_of a ++ xs) fed.in_order
      ∙ sym (append_assoc (ring_of a) fed.pushed (hand_of b.front)) ∙ ap (λ xs. xs ++ hand_of b.front) (ring_then r r' p p' a b old new fed shown)
      ∙ append_assoc shown.presented (ring_of b) (hand_of b.front)

  works_then : (r r' : R) (p p' : P) (a b : Pipe) → Fifo a → Fifo b → (fed : HasFed gave left ended r r' a.front b.front) → (shown : HasPresented handed p p' a.back b.back)
      → work (left r') b + (length (pushed_by b) + length shown.presented) ≤ work (left r) a + length (pushed_by a)
  works_then r r' p p' a b old new fed shown =
      let hands : length (hand_of a.front) + length fed.given ≡ length fed.pushed + length (hand_of b.front) =
      sym (length-append (hand_of a.front) fed.given) ∙ ap length fed.in_order ∙ length-append fed.pushed (hand_of b.front) in
      let rings : length (ring_of a) + length fed.pushed ≡ length shown.presented + length (ring_of b) =
      sym (length-append (ring_of a) fed.pushed) ∙ ap length (ring_then r r' p p' a b old new fed shown) ∙ length-append shown.presented (ring_of b) in
      let sends : length (pushed_by b) ≡ length (pushed_by a) + length fed.pushed = ap length fed.sends ∙ length-append (pushed_by a) fed.pushed in
      omega (arith, hands, rings, sends, fed.leaves)

  pub moved_by_turns : (r r' : R) (p p' : P) (a b : Pipe) → Fifo a → Fifo b → HasFed gave left ended r r' a.front b.front → HasPresented handed p p' a.back b.back
      → HasStepped a b → IsRound gave left handed r r' p p' a b
  moved_by_turns r r' p p' a b old new fed shown stepped = record {
    moved = record {
      given = fed.given;
      presented = shown.presented;
      gives = fed.gives;
      hands = shown.hands;
      in_order = waits_then r r' p p' a b old new fed shown;
      counted = fed.counted;
      leaves = fed.leaves;
      works = works_then r r' p p' a b old new fed shown;
    };
    through_ring = λ free. shown.receives;
    steps = λ more. omega (arith, stepped, ap length shown.receives, length-append (popped_by a) shown.presented);
  }

  -- a round in which an item was pushed or popped reduces the work
  pub less_by_turns : (r r' : R) (p p' : P) (a b : Pipe) → Fifo a → Fifo b → HasFed gave left ended r r' a.front b.front → HasPresented handed p p' a.back b.back
      → HasStepped a b → work (left r') b < work (left r) a
  less_by_turns r r' p p' a b old new fed shown stepped =
      omega (arith, works_then r r' p p' a b old new fed shown, stepped, ap length shown.receives, length-append (popped_by a) shown.presented)

  -- if nothing moved although a slot was known to be free, no item is in `hand`
  not_past : (a b : Pipe) → IsStill a b → 0 < known_free_of a → hand_of b.front ≡ []
  not_past a b still free =
      let stuck = still.stuck in
      elim b.front.hand as (λ (o : Option Shown). b.front.hand ≡ o → hand_of b.front ≡ []) [
        | None ↦ λ e. rw e refl
        | Some shown ↦ λ e. let none : known_free_of a ≡ 0 = rw e at stuck in absurd (omega arith)
      ] refl

  past_works : (r r' : R) (p p' : P) (a b c : Pipe) → Fifo a → Fifo b → (fed : HasFed gave left ended r r' a.front b.front) → (shown : HasPresented handed p p' a.back b.back)
      → IsStill a b → EmptiesHand b c
      → work (left r') c + (length (pushed_by c) + length (shown.presented ++ hand_of b.front)) ≤ work (left r) a + length (pushed_by a)
  past_works r r' p p' a b c old new fed shown still kept =
      let before = works_then r r' p p' a b old new fed shown in
      let ring_c : length (ring_of c) ≡ 0 = ap length (ap (λ back. known_items back.consumer) kept.back ∙ still.empty) in
      let ring_b : length (ring_of b) ≡ 0 = ap length still.empty in
      let hand_c : length (hand_of c.front) ≡ 0 = ap length kept.emptied in
      let pushed : length (pushed_by c) ≡ length (pushed_by b) = ap (λ producer. length (sent producer)) kept.producer in
      omega (arith, before, ring_c, ring_b, hand_c, pushed, length-append shown.presented (hand_of b.front))

  -- if nothing moved and no item was in `hand`, the receiver has ended and no item waits
  drained_past : (a b c : Pipe) → IsStill a b → EmptiesHand b c → b.front.hand ≡ None → IsDrained c
  drained_past a b c still kept none =
      let ended : IsSome (ended_with b) = rw none at still.stuck in
      let same : ended_with c ≡ ended_with b = ap (λ (o : Option Ending). option_map pull_of o) kept.ended in
      record {
        ended = subst IsSome (sym same) ended;
        empty = ap (λ xs. xs ++ hand_of c.front) (ap (λ back. known_items back.consumer) kept.back ∙ still.empty) ∙ kept.emptied;
      }

  -- if nothing moved and the pipe is not drained, an item was in `hand`
  steps_past : (a b c : Pipe) → IsStill a b → EmptiesHand b c → (IsDrained c → ⊥) → length (hand_of b.front) ≡ 1
  steps_past a b c still kept more =
      elim b.front.hand as (λ (o : Option Shown). b.front.hand ≡ o → length (hand_of b.front) ≡ 1) [
        | None ↦ λ e. absurd (more (drained_past a b c still kept e))
        | Some shown ↦ λ e. rw e refl
      ] refl

  -- presenting the item in `hand` directly, without the ring, reduces the work
  pub less_past : (r r' : R) (p p' : P) (a b c : Pipe) → Fifo a → Fifo b → HasFed gave left ended r r' a.front b.front → HasPresented handed p p' a.back b.back
      → IsStill a b → EmptiesHand b c → length (hand_of b.front) ≡ 1 → work (left r') c < work (left r) a
  less_past r r' p p' a b c old new fed shown still kept one =
      let bound = past_works r r' p p' a b c old new fed shown still kept in
      let pushed : length (pushed_by c) ≡ length (pushed_by a) = ap (λ producer. length (sent producer)) kept.producer ∙ ap length still.none_pushed in
      omega (arith, bound, pushed, one, length-append shown.presented (hand_of b.front))

  pub moved_past : (r r' : R) (p p' p'' : P) (a b c : Pipe) → Fifo a → Fifo b → HasFed gave left ended r r' a.front b.front → HasPresented handed p p' a.back b.back
      → IsStill a b → ((begun : P) (items : List Shown) → handed begun p' items → handed begun p'' (items ++ hand_of b.front)) → EmptiesHand b c
      → IsRound gave left handed r r' p p'' a c
  moved_past r r' p p' p'' a b c old new fed shown still hands kept =
      let hand = hand_of b.front in
      let ring : ring_of c ≡ [] = ap (λ back. known_items back.consumer) kept.back ∙ still.empty in
      let waits : waiting_in c ≡ [] = ap (λ xs. xs ++ hand_of c.front) ring ∙ kept.emptied in
      let last : waiting_in b ≡ hand = ap (λ xs. xs ++ hand) still.empty in
      record {
        moved = record {
          given = fed.given;
          presented = shown.presented ++ hand;
          gives = fed.gives;
          hands = λ begun items h. subst (handed begun p'') (append_assoc items shown.presented hand) (hands begun (items ++ shown.presented) (shown.hands begun items h));
          in_order =
              waits_then r r' p p' a b old new fed shown ∙ ap (λ xs. shown.presented ++ xs) last ∙ sym (append-nil (shown.presented ++ hand))
              ∙ ap (λ xs. (shown.presented ++ hand) ++ xs) (sym waits);
          counted = kept.given ∙ fed.counted;
          leaves = fed.leaves;
          works = past_works r r' p p' a b c old new fed shown still kept;
        };
        through_ring = λ free.
            let none = not_past a b still free in
            ap (λ back. received back.consumer) kept.back ∙ shown.receives
            ∙ ap (λ xs. popped_by a ++ xs) (sym (ap (λ xs. shown.presented ++ xs) none ∙ append-nil shown.presented));
        steps = λ more.
            let one = steps_past a b c still kept more in
            let pushed : length (pushed_by c) ≡ length (pushed_by a) = ap (λ producer. length (sent producer)) kept.producer ∙ ap length still.none_pushed in
            omega (arith, one, pushed, length-append shown.presented hand);
      }

module _ {R P : Type 0} (gave : R → R → List Shown → Type 0) (left : R → ℕ) (handed : P → P → List Shown → Type 0) where
  pub HasMoved-none : (r : R) (p : P) (a : Pipe) → HasMoved gave left handed r r p p a a
  HasMoved-none r p a = record {
    given = [];
    presented = [];
    gives = λ begun items h. subst (gave begun r) (sym (append-nil items)) h;
    hands = λ begun items h. subst (handed begun p) (sym (append-nil items)) h;
    in_order = append-nil (waiting_in a);
    counted = omega arith;
    leaves = omega arith;
    works = omega arith;
  }

  pub HasMoved-then : (r r' r'' : R) (p p' p'' : P) (a b c : Pipe) → HasMoved gave left handed r r' p p' a b → HasMoved gave left handed r' r'' p' p'' b c
      → HasMoved gave left handed r r'' p p'' a c
  HasMoved-then r r' r'' p p' p'' a b c x y = record {
    given = x.given ++ y.given;
    presented = x.presented ++ y.presented;
    gives = λ begun items h. subst (gave begun r'') (append_assoc items x.given y.given) (y.gives begun (items ++ x.given) (x.gives begun items h));
    hands = λ begun items h. subst (handed begun p'') (append_assoc items x.presented y.presented) (y.hands begun (items ++ x.presented) (x.hands begun items h));
    in_order =
        sym (append_assoc (waiting_in a) x.given y.given) ∙ ap (λ xs. xs ++ y.given) x.in_order ∙ append_assoc x.presented (waiting_in b) y.given
        ∙ ap (λ xs. x.presented ++ xs) y.in_order ∙ sym (append_assoc x.presented y.presented (waiting_in c));
    counted = omega (arith, x.counted, y.counted, length-append x.given y.given);
    leaves = omega (arith, x.leaves, y.leaves, length-append x.given y.given);
    works = omega (arith, x.works, y.works, length-append x.presented y.presented);
  }

  pub runs_on : (r r' : R) (p p' : P) (a b : Pipe) (shown taken : List Shown) → (m : HasMoved gave left handed r r' p p' a b)
      → shown ++ waiting_in a ≡ taken → (shown ++ m.presented) ++ waiting_in b ≡ taken ++ m.given
  runs_on r r' p p' a b shown taken m h =
      append_assoc shown m.presented (waiting_in b) ∙ ap (λ xs. shown ++ xs) (sym m.in_order)
      ∙ sym (append_assoc shown (waiting_in a) m.given) ∙ ap (λ xs. xs ++ m.given) h
