-- The numbers of the failing calls that are left after some calls.
use Rattle.std.proofs.Common.{◌≡◌, ℕ, ◌+◌, ◌-◌, ◌<◌, ◌≤◌, ◌⊎◌, inl, inr, List, [], ◌∷◌, refl, ap, ◌∙◌, zero, suc, Contains, All, arith}
use Rattle.std.proofs.lemmas.List.Elements.{Contains-append_left, Contains-append_right, Contains-append_cases, Contains-push, All-head, All-tail}
use Rattle.std.proofs.lemmas.Bool.{cases_lt}
use Rattle.std.proofs.lemmas.Bool.Decides.{nat_tests}
use Rattle.device_rack.specs.Devices.{later}

gone : (k n : ℕ) (ns : List ℕ) → n ≤ k → later k (n ∷ ns) ≡ later k ns
gone k n ns h = grind (arith, nat_tests)

stays : (k n : ℕ) (ns : List ℕ) → k < n → later k (n ∷ ns) ≡ (n - k) ∷ later k ns
stays k n ns h = grind (arith, nat_tests)

none : (x : ℕ) → Contains [] x → ⊥
none x (i, below, is) = omega arith

first_or_other : (n : ℕ) (ns : List ℕ) (x : ℕ) → Contains (n ∷ ns) x → (n ≡ x) ⊎ Contains ns x
first_or_other n ns x has =
    elim (Contains-append_cases (n ∷ []) ns x has) [
      | inl (zero, below, is) ↦ inl is
      | inl (suc i, below, is) ↦ absurd (omega arith)
      | inr there ↦ inr there
    ]

pub later-again : (k : ℕ) (ns : List ℕ) → later 1 (later k ns) ≡ later (k + 1) ns
later-again k [] = refl
later-again k (n ∷ ns) =
    elim (cases_lt k n) [
      | inl h ↦
          elim (cases_lt (k + 1) n) [
            | inl more ↦ rw (stays k n ns h, stays 1 (n - k) (later k ns) (omega arith), stays (k + 1) n ns more, later-again k ns) (ap (λ m. m ∷ later (k + 1) ns) (omega arith))
            | inr last ↦ rw (stays k n ns h, gone 1 (n - k) (later k ns) (omega arith), gone (k + 1) n ns last) (later-again k ns)
          ]
      | inr h ↦ rw (gone k n ns h, gone (k + 1) n ns (omega arith)) (later-again k ns)
    ]

pub next_is_told : (k : ℕ) (ns : List ℕ) → Contains ns (k + 1) → Contains (later k ns) 1
next_is_told k [] has = absurd (none (k + 1) has)
next_is_told k (n ∷ ns) has =
    elim (first_or_other n ns (k + 1) has) [
      | inl is ↦
          let one : n - k ≡ 1 = omega arith in
          rw (stays k n ns (omega arith), one) (Contains-append_left (1 ∷ []) (later k ns) 1 (Contains-push [] 1))
      | inr there ↦
          let told = next_is_told k ns there in
          elim (cases_lt k n) [
            | inl more ↦ rw (stays k n ns more) (Contains-append_right ((n - k) ∷ []) (later k ns) 1 told)
            | inr past ↦ rw (gone k n ns past) told
          ]
    ]

pub told_is_next : (k : ℕ) (ns : List ℕ) → Contains (later k ns) 1 → Contains ns (k + 1)
told_is_next k [] told = absurd (none 1 told)
told_is_next k (n ∷ ns) told =
    elim (cases_lt k n) [
      | inl more ↦
          elim (first_or_other (n - k) (later k ns) 1 (rw (stays k n ns more) at told)) [
            | inl is ↦
                let same : n ≡ k + 1 = omega arith in
                rw same (Contains-append_left ((k + 1) ∷ []) ns (k + 1) (Contains-push [] (k + 1)))
            | inr there ↦ Contains-append_right (n ∷ []) ns (k + 1) (told_is_next k ns there)
          ]
      | inr past ↦ Contains-append_right (n ∷ []) ns (k + 1) (told_is_next k ns (rw (gone k n ns past) at told))
    ]

-- if no number exceeds `k`, no failing call is left after `k` calls
pub later-last : (k : ℕ) (ns : List ℕ) → All (λ n. n ≤ k) ns → later k ns ≡ []
later-last k [] all = refl
later-last k (n ∷ ns) all = gone k n ns (All-head (λ n. n ≤ k) n ns all) ∙ later-last k ns (All-tail (λ n. n ≤ k) n ns all)

pub none_is_told : (k : ℕ) (ns : List ℕ) → All (λ n. n ≤ k) ns → Contains (later k ns) 1 → ⊥
none_is_told k ns all told = none 1 (rw (later-last k ns all) at told)
