-- A file that is read in pieces.
use Rattle.std.proofs.Common.{◌≡◌, ℕ, ◌+◌, ◌-◌, ◌≤◌, ◌<◌, Bool, true, false, List, [], ◌∷◌, ◌++◌, length, take, drop, Option, Some, None, refl, sym, ap, subst, ◌∙◌, arith, append_assoc, length-append, take-append-drop}
use Rattle.std.specs.Prelude.{IsSome, option_and_then, slice_range}
use Rattle.std.specs.Io.KnownBytes.{Consumes}
use Rattle.std.proofs.lemmas.List.{append-nil, take-take, length-take-le, length-drop, drop-take, drop-drop}
use Rattle.avtp_base.specs.Files.{Files, Open, IsOpened}
use Rattle.capture_io.specs.Pieces.{Piecing, IsAhead, HasTaken}

-- ---- opening

some_of : (x : Option (List ℕ)) → IsSome x → (bytes : List ℕ) × (x ≡ Some bytes)
some_of None some = absurd cc
some_of (Some bytes) some = (bytes, refl)

pub opened_live : (files : Option Files) (slot : Option Open) (name : List ℕ) → IsOpened files slot name → IsSome slot
opened_live None None name is = absurd is
opened_live None (Some o) name is = refl
opened_live (Some files) slot name is = rw is.0 refl

-- if the shelf shows its files, the slot of an opened file has the file's name
pub opened_named : (files : Option Files) (slot : Option Open) (name : List ℕ) → IsOpened files slot name → IsSome files → option_and_then (λ (o : Open). o.name) slot ≡ Some name
opened_named None slot name is told = absurd cc
opened_named (Some files) slot name is told = rw is.0 refl

-- if a file was just opened and the shelf shows its files, all bytes of the file are left to read in its slot
opened_left : (files : Option Files) (slot : Option Open) (name : List ℕ) (told : Files) → IsOpened files slot name → files ≡ Some told
    → (bytes : List ℕ) × (told name ≡ Some bytes) × (option_and_then (λ (o : Open). o.left) slot ≡ Some bytes)
opened_left None slot name told is e = absurd cc
opened_left (Some files) slot name told is e =
    let same : files ≡ told = cc in
    let some = some_of (files name) is.1 in
    (some.0, ap (λ (m : Files). m name) (sym same) ∙ some.1, rw is.0 some.1)

pub nothing_taken : (limit : ℕ) (bytes : List ℕ) (remains : Option (List ℕ)) (p : Piecing) → remains ≡ Some bytes → p.waiting ≡ [] → p.left ≡ limit → p.over ≡ false → HasTaken limit bytes remains p []
nothing_taken limit bytes remains p is none all more = record {
  rest = bytes;
  split = sym (ap (λ (w : List ℕ). w ++ bytes) none);
  ahead = subst (λ (o : Bool). IsAhead o remains p.left bytes) (sym more) is;
  count = omega (arith, ap length none, all);
}

pub begins : (limit : ℕ) (files : Option Files) (slot : Option Open) (name : List ℕ) (told : Files) (p : Piecing) → IsOpened files slot name → files ≡ Some told → p.waiting ≡ [] → p.left ≡ limit → p.over ≡ false
    → (bytes : List ℕ) × (told name ≡ Some bytes) × HasTaken limit bytes (option_and_then (λ (o : Open). o.left) slot) p []
begins limit files slot name told p is e none all more =
    let has = opened_left files slot name told is e in
    (has.0, has.1, nothing_taken limit has.0 _ p has.2 none all more)

-- ---- reading

consumed : (a b : Option (List ℕ)) (bs xs : List ℕ) → a ≡ Some xs → Consumes a b bs → (ys : List ℕ) × (b ≡ Some ys) × (xs ≡ bs ++ ys)
consumed None b bs xs e h = absurd cc
consumed (Some zs) None bs xs e h = absurd h
consumed (Some zs) (Some ys) bs xs e h = let same : xs ≡ zs = cc in (ys, refl, same ∙ h)

-- until a read shows that the file exceeds the limit, `rest` is the bytes of the slot that are still to be read
ahead_left : (over : Bool) (remains : Option (List ℕ)) (left : ℕ) (rest : List ℕ) → over ≡ false → IsAhead over remains left rest → remains ≡ Some rest
ahead_left true remains left rest none ahead = absurd cc
ahead_left false remains left rest none ahead = ahead

-- if no byte is buffered, the bytes taken are all bytes that were read
pub split_bare : (limit : ℕ) (bytes : List ℕ) (remains : Option (List ℕ)) (p : Piecing) (prefix : List ℕ) (h : HasTaken limit bytes remains p prefix) → p.waiting ≡ [] → bytes ≡ prefix ++ h.rest
split_bare limit bytes remains p prefix h none = h.split ∙ ap (λ (w : List ℕ). w ++ h.rest) (ap (λ (w : List ℕ). prefix ++ w) none ∙ append-nil prefix)

no_bytes : (xs : List ℕ) → length xs ≡ 0 → xs ≡ []
no_bytes [] e = refl
no_bytes (x ∷ xs) e = absurd cc

-- If a read moved `count` bytes to `buf` and the first `within` bytes of `buf` were buffered, `HasTaken` still holds.
pub read_more : (limit : ℕ) (bytes : List ℕ) (old new : Option (List ℕ)) (p q : Piecing) (prefix buf : List ℕ) (count within : ℕ) → HasTaken limit bytes old p prefix → p.over ≡ false → p.waiting ≡ []
    → Consumes old new (take count buf) → count ≤ length buf → within ≤ count → within ≤ p.left → (within < count → within ≡ p.left) → q.waiting ≡ take within buf → q.left ≡ p.left - within
    → (q.over ≡ true → within < count) → (q.over ≡ false → count ≤ within) → HasTaken limit bytes new q prefix
read_more limit bytes old new p q prefix buf count within h more none takes fits part may full waits left over whole =
    let c = consumed old new (take count buf) h.rest (ahead_left p.over old p.left h.rest more h.ahead) takes in
    let behind : List ℕ = drop within (take count buf) in
    let rest : List ℕ = behind ++ c.0 in
    let parts : take within buf ++ behind ≡ take count buf = ap (λ (w : List ℕ). w ++ behind) (sym (take-take within count buf part)) ∙ take-append-drop within (take count buf) in
    let long : length (take within buf) ≡ within = length-take-le within buf (omega (arith, part, fits)) in
    let len : length behind ≡ count - within = length-drop within (take count buf) ∙ ap (λ (n : ℕ). n - within) (length-take-le count buf fits) in
    let split : bytes ≡ (prefix ++ take within buf) ++ rest =
    split_bare limit bytes old p prefix h none ∙ (ap (λ (r : List ℕ). prefix ++ r) (c.2 ∙ ap (λ (w : List ℕ). w ++ c.0) (sym parts)) ∙ simp append_assoc) in
    record {
      rest = rest;
      split = split ∙ ap (λ (w : List ℕ). (prefix ++ w) ++ rest) (sym waits);
      ahead = ahead_by q.over refl;
      count = omega (arith, h.count, ap length none, ap length waits, long, left, may);
    } where
      ahead_by : (o : Bool) → q.over ≡ o → IsAhead o new q.left (drop within (take count buf) ++ (consumed old new (take count buf) h.rest (ahead_left p.over old p.left h.rest more h.ahead) takes).0)
      ahead_by true is =
          let c = consumed old new (take count buf) h.rest (ahead_left p.over old p.left h.rest more h.ahead) takes in
          let len : length (drop within (take count buf)) ≡ count - within = length-drop within (take count buf) ∙ ap (λ (n : ℕ). n - within) (length-take-le count buf fits) in
          (omega (arith, over is, full (over is), left), omega (arith, over is, len, length-append (drop within (take count buf)) c.0))
      ahead_by false is =
          let c = consumed old new (take count buf) h.rest (ahead_left p.over old p.left h.rest more h.ahead) takes in
          let len : length (drop within (take count buf)) ≡ 0 = length-drop within (take count buf) ∙ ap (λ (n : ℕ). n - within) (length-take-le count buf fits) ∙ omega (arith, whole is) in
          c.1 ∙ ap (λ (r : List ℕ). Some (r ++ c.0)) (sym (no_bytes (drop within (take count buf)) len))

-- dropping n items from a range gives the range that begins n items later
pub range_drop : (xs : List ℕ) (i j n : ℕ) → n ≤ j - i → slice_range xs (i + n) j ≡ drop n (slice_range xs i j)
range_drop xs i j n fits =
    let rest : j - (i + n) ≡ (j - i) - n = omega arith in
    let sum : j - i ≡ n + ((j - i) - n) = omega arith in
    ap (λ (k : ℕ). take k (drop (i + n) xs)) rest ∙ ap (take ((j - i) - n)) (sym (drop-drop n i xs)) ∙ sym (ap (λ (k : ℕ). drop n (take k (drop i xs))) sum ∙ drop-take n ((j - i) - n) (drop i xs))
