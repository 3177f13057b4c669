-- The deliveries of a packet, copy by copy.
use Rattle.std.proofs.Common.{◌≡◌, ℕ, ℤ, pos, zero, suc, ◌+◌, ◌^◌, ◌<◌, List, [], ◌∷◌, ◌++◌, map, sym, ap, ◌∙◌, arith, append_assoc}
use Rattle.std.specs.List.{range_with_len, flat_map}
use Rattle.std.proofs.lemmas.List.{append-nil}
use Rattle.std.proofs.lemmas.Grind.{flat_map-append}
use Rattle.std.proofs.lemmas.List.FromFn.{map-range_with_len_more}
use Rattle.soak_run.specs.Generator.{drawn, first_state, next_state, state_after}
use Rattle.soak_run.specs.Network.{all_copies, copies, copies_by, copies_of, copy_of, delay_by, draws_before, soak_plan}
use Rattle.talk_plan.specs.Timing.{arrival_of, nominal_instant}

-- `count` copies of packet `number` were added to the deliveries `old`
pub record Delivering (seed number count noise : ℕ) (old new : List (ℤ × ℕ)) : Type 0 where
  pub state : noise ≡ state_after seed (draws_before seed number + 1 + count)
  pub copies : new ≡ old ++ map (copy_of seed number) (range_with_len 0 count)

state-more : (seed draws more noise next : ℕ) → suc draws ≡ more → noise ≡ state_after seed draws → next ≡ next_state noise → next ≡ state_after seed more
unfolding state_after
state-more seed draws more noise next e s n = n ∙ ap next_state s ∙ ap (state_after seed) e

-- when only the number for the packet itself has been drawn, no copy of the packet is delivered yet
pub delivering-none : (seed number noise next : ℕ) (old : List (ℤ × ℕ)) → noise ≡ state_after seed (draws_before seed number) → next ≡ next_state noise
    → Delivering seed number 0 next old old
delivering-none seed number noise next old s n = record {
  state = state-more seed (draws_before seed number) (draws_before seed number + 1 + 0) noise next (omega arith) s n;
  copies = sym (append-nil old);
}

-- after one more number is drawn, one more copy is delivered
pub delivering-more : (seed number count noise next : ℕ) (arrival : ℤ) (old new : List (ℤ × ℕ)) → Delivering seed number count noise old new → next ≡ next_state noise
    → arrival ≡ pos (arrival_of soak_plan number + delay_by (drawn next)) → Delivering seed number (count + 1) next old (new ++ (arrival, number) ∷ [])
delivering-more seed number count noise next arrival old new so n a = record {
  state = state-more seed (draws_before seed number + 1 + count) (draws_before seed number + 1 + (count + 1)) noise next (omega arith) so.state n;
  copies =
      ap (λ (l : List (ℤ × ℕ)). l ++ (arrival, number) ∷ []) so.copies
      ∙ append_assoc old (map (copy_of seed number) (range_with_len 0 count)) ((arrival, number) ∷ [])
      ∙ ap (λ (l : List (ℤ × ℕ)). old ++ l)
      (ap (λ (c : ℤ × ℕ). map (copy_of seed number) (range_with_len 0 count) ++ c ∷ []) here ∙ sym (map-range_with_len_more (copy_of seed number) 0 count count (omega arith)));
}
  where
    here : (arrival, number) ≡ copy_of seed number count
    here = ap (λ (x : ℤ). (x, number)) (a ∙ ap (λ (x : ℕ). pos (arrival_of soak_plan number + delay_by (drawn x))) (n ∙ ap next_state so.state))

-- the number that was drawn for the packet itself says how many copies of the packet are delivered
pub delivering-all : (seed number count noise first start : ℕ) (old new : List (ℤ × ℕ)) → Delivering seed number count noise old new
    → start ≡ state_after seed (draws_before seed number) → first ≡ next_state start → count ≡ copies_by (drawn first) → count ≡ copies_of seed number
delivering-all seed number count noise first start old new so s f e = e ∙ ap (λ (x : ℕ). copies_by (drawn x)) (f ∙ ap next_state s)

pub drawn-all : (seed number count noise : ℕ) (old new : List (ℤ × ℕ)) → Delivering seed number count noise old new → count ≡ copies_of seed number
    → noise ≡ state_after seed (draws_before seed (suc number))
unfolding draws_before
drawn-all seed number count noise old new so e = so.state ∙ ap (λ (n : ℕ). state_after seed (draws_before seed number + 1 + n)) e

pub copied-all : (seed number count noise : ℕ) (old new : List (ℤ × ℕ)) → Delivering seed number count noise old new → count ≡ copies_of seed number
    → new ≡ old ++ copies seed number
copied-all seed number count noise old new so e = so.copies ∙ ap (λ (n : ℕ). old ++ map (copy_of seed number) (range_with_len 0 n)) e

-- each packet is sent before 2^42 ns
pub sent_soon : (n : ℕ) → n < 1000000 → arrival_of soak_plan n < 2 ^ 42
unfolding nominal_instant
sent_soon n few = omega arith

-- ---- packet by packet

pub range-more : (from n next : ℕ) → from + n ≡ next → range_with_len from (suc n) ≡ range_with_len from n ++ next ∷ []
range-more from zero next e = let same : from ≡ next = omega arith in ap (λ (x : ℕ). x ∷ []) same
range-more from (suc n) next e = ap (λ (l : List ℕ). from ∷ l) (range-more (from + 1) n next (omega arith))

-- before the first packet no number was drawn
pub none-drawn : (seed noise : ℕ) → noise ≡ first_state seed → noise ≡ state_after seed (draws_before seed 0)
unfolding state_after draws_before
none-drawn seed noise e = e

-- the copies of the first `n + 1` packets are those of the first n packets, followed by those of packet n
pub copies-more : (seed n : ℕ) → all_copies seed (suc n) ≡ all_copies seed n ++ copies seed n
copies-more seed n =
    ap (λ (l : List ℕ). flat_map (copies seed) l) (range-more 0 n n (omega arith))
    ∙ flat_map-append (copies seed) (range_with_len 0 n) (n ∷ [])
    ∙ ap (λ (l : List (ℤ × ℕ)). all_copies seed n ++ l) (append-nil (copies seed n))
