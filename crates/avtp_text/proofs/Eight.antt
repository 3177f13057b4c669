-- Eight bytes that are written one after the other.
use Rattle.std.proofs.Common.{◌≡◌, ℕ, List, [], ◌∷◌, length, set, arith, refl}

pub written : (xs : List ℕ) (a b c d e f g h : ℕ) → length xs ≡ 8
    → set (set (set (set (set (set (set (set xs 0 a) 1 b) 2 c) 3 d) 4 e) 5 f) 6 g) 7 h ≡ a ∷ b ∷ c ∷ d ∷ e ∷ f ∷ g ∷ h ∷ []
written [] a b c d e f g h len = absurd (omega (arith, len))
written (_ ∷ []) a b c d e f g h len = absurd (omega (arith, len))
written (_ ∷ _ ∷ []) a b c d e f g h len = absurd (omega (arith, len))
written (_ ∷ _ ∷ _ ∷ []) a b c d e f g h len = absurd (omega (arith, len))
written (_ ∷ _ ∷ _ ∷ _ ∷ []) a b c d e f g h len = absurd (omega (arith, len))
written (_ ∷ _ ∷ _ ∷ _ ∷ _ ∷ []) a b c d e f g h len = absurd (omega (arith, len))
written (_ ∷ _ ∷ _ ∷ _ ∷ _ ∷ _ ∷ []) a b c d e f g h len = absurd (omega (arith, len))
written (_ ∷ _ ∷ _ ∷ _ ∷ _ ∷ _ ∷ _ ∷ []) a b c d e f g h len = absurd (omega (arith, len))
written (_ ∷ _ ∷ _ ∷ _ ∷ _ ∷ _ ∷ _ ∷ _ ∷ []) a b c d e f g h len = refl
written (_ ∷ _ ∷ _ ∷ _ ∷ _ ∷ _ ∷ _ ∷ _ ∷ _ ∷ rest) a b c d e f g h len = absurd (omega (arith, len))
