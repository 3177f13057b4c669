-- Silence in pieces of whole quadlets.
use Rattle.std.proofs.Common.{◌≡◌, ℕ, zero, suc, ◌+◌, ◌*◌, ◌==◌, ◌<◌, ◌≤◌, List, [], ◌∷◌, ◌++◌, length, map, take, set, cond, refl, sym, ap, ap₂, ◌∙◌, arith}
use Rattle.std.specs.List.{range_with_len}
use Rattle.std.proofs.lemmas.List.{take_more_set}
use Rattle.std.proofs.lemmas.List.FromFn.{map-range_with_len_more, take-map-range_with_len}
use Rattle.std.proofs.Math.Nat.{mul-add-mod_self_left}
use Rattle.device_rack.specs.declared.silent_bytes.Silence.{Silence}
use Rattle.device_rack.specs.declared.silent_bytes.Silence.TheVariants.{Zero, Am824}
use Rattle.device_rack.specs.RawOutput.{silence_of, silent_byte}

-- silence repeats with each quadlet
silent_byte-again : (silence : Silence) (q j : ℕ) → silent_byte silence (4 * q + j) ≡ silent_byte silence j
silent_byte-again Zero q j = refl
silent_byte-again Am824 q j = ap (λ (r : ℕ). cond (r == 0) 0x40 0) (mul-add-mod_self_left 4 q j)

range-append : (f : ℕ → ℕ) (a n k : ℕ) → map f (range_with_len a (n + k)) ≡ map f (range_with_len a n) ++ map f (range_with_len (a + n) k)
range-append f a zero k = let here : a + 0 ≡ a = omega arith in let all : 0 + k ≡ k = omega arith in rw (here, all) refl
range-append f a (suc n) k =
    let next : a + 1 + n ≡ a + suc n = omega arith in
    let count : suc n + k ≡ suc (n + k) = omega arith in
    ap (λ (m : ℕ). map f (range_with_len a m)) count
    ∙ ap (λ (xs : List ℕ). f a ∷ xs) (range-append f (a + 1) n k ∙ ap (λ (b : ℕ). map f (range_with_len (a + 1) n) ++ map f (range_with_len b k)) next)

range-same : (f : ℕ → ℕ) (a b k : ℕ) → ((j : ℕ) → f (a + j) ≡ f (b + j)) → map f (range_with_len a k) ≡ map f (range_with_len b k)
range-same f a b zero same = refl
range-same f a b (suc k) same =
    let first : f a ≡ f b = same_first (same 0) in
    ap₂ (λ (x : ℕ) (xs : List ℕ). x ∷ xs) first (range-same f (a + 1) (b + 1) k (λ j. same_next j (same (suc j))))
  where
    same_first : f (a + 0) ≡ f (b + 0) → f a ≡ f b
    same_first e = let l : a + 0 ≡ a = omega arith in let r : b + 0 ≡ b = omega arith in rw (l, r) at e

    same_next : (j : ℕ) → f (a + suc j) ≡ f (b + suc j) → f (a + 1 + j) ≡ f (b + 1 + j)
    same_next j e = let l : a + 1 + j ≡ a + suc j = omega arith in let r : b + 1 + j ≡ b + suc j = omega arith in rw (l, r) e

silence_more : (silence : Silence) (q k : ℕ) → silence_of silence (4 * q) ++ silence_of silence k ≡ silence_of silence (4 * q + k)
silence_more silence q k =
    let start : 0 + 4 * q ≡ 4 * q = omega arith in
    sym (range-append (silent_byte silence) 0 (4 * q) k
    ∙ ap (λ (b : ℕ). silence_of silence (4 * q) ++ map (silent_byte silence) (range_with_len b k)) start
    ∙ ap (λ (xs : List ℕ). silence_of silence (4 * q) ++ xs) (range-same (silent_byte silence) (4 * q) 0 k (λ j. let start : 0 + j ≡ j = omega arith in rw start (silent_byte-again silence q j))))

pub pieces_more : (silence : Silence) (pieces k : ℕ) → silence_of silence (pieces * 1024) ++ silence_of silence k ≡ silence_of silence (pieces * 1024 + k)
pieces_more silence pieces k =
    let quadlets : pieces * 1024 ≡ 4 * (256 * pieces) = omega arith in
    rw quadlets (silence_more silence (256 * pieces) k)

pub silence_front : (silence : Silence) (n k : ℕ) → k ≤ n → take k (silence_of silence n) ≡ silence_of silence k
silence_front silence n k within = take-map-range_with_len (silent_byte silence) 0 n k within

pub silence_next : (silence : Silence) (bytes : List ℕ) (j : ℕ) → j < length bytes → take j bytes ≡ silence_of silence j
    → take (j + 1) (set bytes j (silent_byte silence j)) ≡ silence_of silence (j + 1)
silence_next silence bytes j below so_far =
    take_more_set bytes j (silent_byte silence j) below ∙ ap (λ (xs : List ℕ). xs ++ silent_byte silence j ∷ []) so_far
    ∙ sym (map-range_with_len_more (silent_byte silence) 0 j j (omega arith))

pub piece_and_more : (silence : Silence) (pieces rest count : ℕ) → count ≡ pieces * 1024 + 1024 + rest
    → (silence_of silence (pieces * 1024) ++ silence_of silence 1024) ++ silence_of silence rest ≡ silence_of silence count
piece_and_more silence pieces rest count is =
    let next : pieces * 1024 + 1024 ≡ (pieces + 1) * 1024 = omega arith in
    ap (λ (xs : List ℕ). xs ++ silence_of silence rest) (pieces_more silence pieces 1024 ∙ ap (silence_of silence) next)
    ∙ pieces_more silence (pieces + 1) rest ∙ ap (silence_of silence) (omega arith)
