-- What an object outside the program shows of the bytes that it holds. An object need not show the bytes that it holds.
-- If the object stops showing the bytes, it never shows them again. A statement about the bytes applies only if the
-- bytes are shown both before and after the call.
use Rattle.std.specs.Prelude.{◌≡◌, ℕ, List, ◌++◌, take, ⊤, Option, None, Some, Result, MatchResult, option_map}

-- the bytes are unchanged, if they are shown
abbrev pub Keeps : Option (List ℕ) → Option (List ℕ) → Type 0
Keeps None None = ⊤
Keeps None (Some ys) = ⊥
Keeps (Some xs) None = ⊤
Keeps (Some xs) (Some ys) = ys ≡ xs

-- `bs` was appended to the bytes, if they are shown
abbrev pub Appends : Option (List ℕ) → Option (List ℕ) → List ℕ → Type 0
Appends None None bs = ⊤
Appends None (Some ys) bs = ⊥
Appends (Some xs) None bs = ⊤
Appends (Some xs) (Some ys) bs = ys ≡ xs ++ bs

-- If the result is `Ok(n)`, the write appended the first n bytes of the piece. At `Err` the write appended nothing.
abbrev pub WriteAppends : {E : Type 0} → Option (List ℕ) → Option (List ℕ) → Result ℕ E → List ℕ → Type 0
WriteAppends old new r piece = MatchResult r (λ n. Appends old new (take n piece)) (λ _. Keeps old new)

-- the bytes followed by `bs`, if the bytes are shown
abbrev pub append_known : Option (List ℕ) → List ℕ → Option (List ℕ)
append_known told bs = option_map (λ xs. xs ++ bs) told
