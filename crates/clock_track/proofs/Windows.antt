-- The last packets that give points.
use Rattle.std.proofs.Common.{◌≡◌, ◌⊎◌, inl, inr, ℕ, ◌+◌, ◌-◌, ◌≤◌, Bool, true, false, List, [], ◌∷◌, ◌++◌, All, length, take, drop, refl, sym, ap, ◌∙◌, arith}
use Rattle.std.specs.Prelude.{if◌then◌else◌}
use Rattle.std.proofs.Math.Seq.{drop-append_seam}
use Rattle.std.proofs.lemmas.List.{drop-append-le, drop-drop, length-append, length-drop, take-append-drop, take_all}
use Rattle.std.proofs.lemmas.List.Elements.{All-drop, All-head, All-tail, filter-append, filter_passes}
use Rattle.clock_track.specs.declared.clock_row.ClockRow.{ClockRow}
use Rattle.clock_track.specs.Rows.{used, window}

split : (rows : List ClockRow) (start : ℕ) → used rows ≡ used (take start rows) ++ used (drop start rows)
split rows start = ap used (sym (take-append-drop start rows)) ∙ filter-append (λ row. row.usable) (take start rows) (drop start rows)

last-all : (xs : List ClockRow) → length xs ≤ 64 → drop (length xs - 64) xs ≡ xs
last-all xs few = let none : length xs - 64 ≡ 0 = omega arith in rw none refl

last-part : (xs ys : List ClockRow) → length ys ≡ 64 → drop (length (xs ++ ys) - 64) (xs ++ ys) ≡ ys
last-part xs ys e =
    let sum = length-append xs ys in
    let n : length (xs ++ ys) - 64 ≡ length xs = omega arith in
    rw n (drop-append_seam xs ys)

window-by : (rows : List ClockRow) (start : ℕ) → length (used (drop start rows)) ≤ 64 → (start ≡ 0) ⊎ (length (used (drop start rows)) ≡ 64) → used (drop start rows) ≡ window rows
window-by rows start few (inl e) =
    let all : drop start rows ≡ rows = rw e refl in
    let small : length (used rows) ≤ 64 = rw all at few in
    ap used all ∙ sym (last-all (used rows) small)
window-by rows start few (inr e) =
    sym (last-part (used (take start rows)) (used (drop start rows)) e) ∙ ap (λ (l : List ClockRow). drop (length l - 64) l) (sym (split rows start))

rest-whole : (rows : List ClockRow) (start : ℕ) → take (length rows - start) (drop start rows) ≡ drop start rows
rest-whole rows start = let n = length-drop start rows in take_all (length rows - start) (drop start rows) (omega arith)

-- At most 64 of the rows from index `start` on give points. If `start` is 0, or if 64 of the rows from `start` on give
-- points, the window consists of the rows from `start` on that give points.
pub recent-window : (rows : List ClockRow) (start : ℕ) → length (used (drop start rows)) ≤ 64 → (start ≡ 0) ⊎ (length (used (drop start rows)) ≡ 64)
    → used (take (length rows - start) (drop start rows)) ≡ window rows
recent-window rows start few end = ap used (rest-whole rows start) ∙ window-by rows start few end

-- ---- one more packet

fewer : (xs : List ClockRow) (n : ℕ) → drop (length (drop n xs) - 63) (drop n xs) ≡ drop (n + (length xs - n - 63)) xs
fewer xs n = let e : length (drop n xs) - 63 ≡ length xs - n - 63 = (let l = length-drop n xs in omega arith) in rw e (drop-drop (length xs - n - 63) n xs)

last-more : (xs : List ClockRow) (x : ClockRow) → drop (length (xs ++ x ∷ []) - 64) (xs ++ x ∷ []) ≡ drop (length xs - 63) xs ++ x ∷ []
last-more xs x =
    let sum = length-append xs (x ∷ []) in
    let n : length (xs ++ x ∷ []) - 64 ≡ length xs - 63 = omega arith in
    rw n (drop-append-le (length xs - 63) xs (x ∷ []) (omega arith))

last-of-last : (xs : List ClockRow) → drop (length (drop (length xs - 64) xs) - 63) (drop (length xs - 64) xs) ≡ drop (length xs - 63) xs
last-of-last xs =
    let n : length xs - 64 + (length xs - (length xs - 64) - 63) ≡ length xs - 63 = omega arith in
    fewer xs (length xs - 64) ∙ ap (λ (k : ℕ). drop k xs) n

used-one : (rows : List ClockRow) (row : ClockRow) → row.usable ≡ true → used (rows ++ row ∷ []) ≡ used rows ++ row ∷ []
used-one rows row u = filter-append (λ row. row.usable) rows (row ∷ []) ∙ ap (λ (l : List ClockRow). used rows ++ l) (single row.usable refl)
  where
    single : (b : Bool) → row.usable ≡ b → used (row ∷ []) ≡ row ∷ []
    single true e = rw e refl
    single false e = absurd cc

-- after one more packet that gives points, the window is the last 63 packets of the old window, followed by the new
-- packet
pub window-more : (held rows : List ClockRow) (row : ClockRow) → held ≡ window rows → row.usable ≡ true → drop (length held - 63) held ++ row ∷ [] ≡ window (rows ++ row ∷ [])
window-more held rows row e u =
    ap (λ (l : List ClockRow). drop (length l - 63) l ++ row ∷ []) e
    ∙ ap (λ (l : List ClockRow). l ++ row ∷ []) (last-of-last (used rows))
    ∙ sym (last-more (used rows) row)
    ∙ ap (λ (l : List ClockRow). drop (length l - 64) l) (sym (used-one rows row u))

all-used : (xs : List ClockRow) → All (λ row. row.usable ≡ true) xs → used xs ≡ xs
all-used [] all = refl
all-used (x ∷ xs) all =
    first x.usable (All-head (λ row. row.usable ≡ true) x xs all) (all-used xs (All-tail (λ row. row.usable ≡ true) x xs all))
  where
    first : (b : Bool) → b ≡ true → used xs ≡ xs → (if b then x ∷ used xs else used xs) ≡ x ∷ xs
    first b e same = rw e (ap (λ (l : List ClockRow). x ∷ l) same)

-- each packet of the window gives points
pub used-window : (rows : List ClockRow) → used (window rows) ≡ window rows
used-window rows = all-used (window rows) (All-drop (λ row. row.usable ≡ true) (length (used rows) - 64) (used rows) (filter_passes (λ row. row.usable) rows))
