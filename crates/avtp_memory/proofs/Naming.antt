-- Names in a list of files: how changing the first entry with a name affects every look-up.
use Rattle.std.proofs.Common.{◌≡◌, ◌≢◌, ℕ, ◌<◌, ◌≤◌, inl, inr, Bool, true, false, cond, ltb, List, [], ◌∷◌, ◌++◌, length, get_or, set, Option, Some, None, Result, Ok, Err, refl, sym, ap, subst, ◌∙◌, arith}
use Rattle.std.specs.Prelude.{OnErr, find, position, option_map, unwrap_or, bytes_eq, string_bytes, String, vec_capacity}
use Rattle.std.specs.List.{position_or_len, slice_get}
use Rattle.std.specs.Option.{option_or}
use Rattle.std.specs.Global.{Vec, Global}
use Rattle.std.proofs.lemmas.List.Folds.{find_at, find-set, find_past, find-append}
use Rattle.std.proofs.lemmas.Bool.{ltb-true, ltb-false}
use Rattle.std.proofs.lemmas.Option.{slice_get-get_or, slice_get_cases, cond_some}
use Rattle.std.proofs.lemmas.Slice.Eq.{bytes_eq-Decides}
use Rattle.avtp_memory.specs.NamedFiles.{has_name, bytes_under}
use Rattle.avtp_memory.specs.state.NamedFiles.{capacity_under, SetsFile, KeepsNamed, KeepsCapacity}

find_passes : {X : Type 0} (p : X → Bool) (xs : List X) (x : X) → find p xs ≡ Some x → p x ≡ true
find_passes p [] x e = absurd cc
find_passes p (y ∷ ys) x e =
    elim (p y) as (λ b. p y ≡ b → cond b (Some y) (find p ys) ≡ Some x → p x ≡ true) [
      | true ↦ λ t h. let same : y ≡ x = cc in subst (λ z. p z ≡ true) same t
      | false ↦ λ f h. find_passes p ys x h
    ] refl e

-- `i` is the index of the first item of `xs` that passes the test, and `x` is that item.
pub record IsFound {X : Type 0} (p : X → Bool) (xs : List X) (i : ℕ) (x : X) : Type 0 where
  pub first : i ≡ position_or_len p xs
  pub inside : i < length xs
  pub found : find p xs ≡ Some x
  pub passes : p x ≡ true

is_found : {X : Type 0} (p : X → Bool) (xs : List X) (i : ℕ) (x : X) → position p xs ≡ Some i → x ≡ get_or xs i x → IsFound p xs i x
is_found p xs i x e there =
    let two = cond_some (ltb (position_or_len p xs) (length xs)) (position_or_len p xs) i e in
    let first : i ≡ position_or_len p xs = sym two.1 in
    let inside : i < length xs = subst (λ k. k < length xs) two.1 (ltb-true _ _ two.0) in
    let at : find p xs ≡ slice_get xs i = find_at p xs ∙ ap (λ k. slice_get xs k) two.1 in
    let found : find p xs ≡ Some x = at ∙ slice_get-get_or xs i x inside ∙ ap (λ y. Some y) (sym there) in
    record { first = first; inside = inside; found = found; passes = find_passes p xs x found }

other_name : (other name : List ℕ) (entry : String Global × Vec ℕ) → other ≢ name → has_name name entry ≡ true → has_name other entry ≡ false
other_name other name entry differ same =
    let is : string_bytes entry.0 ≡ name = (bytes_eq-Decides (string_bytes entry.0) name).0 same in
    elim (has_name other entry) as (λ b. has_name other entry ≡ b → b ≡ false) [
      | true ↦ λ t. absurd (differ (sym ((bytes_eq-Decides (string_bytes entry.0) other).0 t) ∙ is))
      | false ↦ λ _. refl
    ] refl

pub bytes_before : (entries : List (String Global × Vec ℕ)) (i : ℕ) (name : List ℕ) (old : String Global × Vec ℕ)
    → position (has_name name) entries ≡ Some i → old ≡ get_or entries i old → bytes_under entries name ≡ Some old.1.items
bytes_before entries i name old e there =
    ap (λ f. option_map (λ (entry : String Global × Vec ℕ). entry.1.items) f) (is_found (has_name name) entries i old e there).found

-- The first entry with the name is now `entry`. Looking up any other name finds the same entry as before.
pub record SetsNamed (old new : List (String Global × Vec ℕ)) (name : List ℕ) (entry : String Global × Vec ℕ) : Type 0 where
  pub here : find (has_name name) new ≡ Some entry
  pub others : (other : List ℕ) → other ≢ name → find (has_name other) new ≡ find (has_name other) old

set_named : (entries : List (String Global × Vec ℕ)) (i : ℕ) (name : List ℕ) (old : String Global × Vec ℕ) (v : Vec ℕ)
    → position (has_name name) entries ≡ Some i → old ≡ get_or entries i old → SetsNamed entries (set entries i (old.0, v)) name (old.0, v)
set_named entries i name old v e there =
    let f = is_found (has_name name) entries i old e there in
    let entry : String Global × Vec ℕ = (old.0, v) in
    record {
      here = find-set (has_name name) entries i entry f.first f.inside f.passes;
      others = λ other differ.
          let here : has_name other old ≡ false = other_name other name old differ f.passes in
          let at : has_name other (get_or entries i old) ≡ false = subst (λ (y : String Global × Vec ℕ). has_name other y ≡ false) there here in
          find_past (has_name other) entries i entry old at here;
    }

-- ---- what follows for the files

pub sets_file : (old new : List (String Global × Vec ℕ)) (name : List ℕ) (entry : String Global × Vec ℕ) (bytes : List ℕ) → SetsNamed old new name entry → entry.1.items ≡ bytes → SetsFile old new name bytes
sets_file old new name entry bytes sets is =
    let content = λ (x : Option (String Global × Vec ℕ)). option_map (λ (y : String Global × Vec ℕ). y.1.items) x in
    record { set = ap content sets.here ∙ ap (λ b. Some b) is; others = λ other differ. ap content (sets.others other differ) }

size_of_found : Option (String Global × Vec ℕ) → ℕ
size_of_found x = unwrap_or (option_map (λ (y : String Global × Vec ℕ). vec_capacity y.1) x) 0

pub capacity_before : (entries : List (String Global × Vec ℕ)) (i : ℕ) (name : List ℕ) (old : String Global × Vec ℕ)
    → position (has_name name) entries ≡ Some i → old ≡ get_or entries i old → capacity_under entries name ≡ vec_capacity old.1
unfolding size_of_found
capacity_before entries i name old e there = ap size_of_found (is_found (has_name name) entries i old e there).found

pub capacity_set : (old new : List (String Global × Vec ℕ)) (name : List ℕ) (entry : String Global × Vec ℕ) → SetsNamed old new name entry → capacity_under new name ≡ vec_capacity entry.1
unfolding size_of_found
capacity_set old new name entry sets = ap size_of_found sets.here

pub keeps_capacity : (old new : List (String Global × Vec ℕ)) (name : List ℕ) (entry : String Global × Vec ℕ) → SetsNamed old new name entry → capacity_under old name ≤ vec_capacity entry.1 → KeepsCapacity old new
unfolding size_of_found
keeps_capacity old new name entry sets more other =
    let told = bytes_eq-Decides other name in
    let here = capacity_set old new name entry sets in
    elim (bytes_eq other name) as (λ b. bytes_eq other name ≡ b → capacity_under old other ≤ capacity_under new other) [
      | true ↦ λ t. subst (λ n. capacity_under old n ≤ capacity_under new n) (sym (told.0 t)) (omega arith)
      | false ↦ λ f. let same : capacity_under new other ≡ capacity_under old other = ap size_of_found (sets.others other (λ same. let t = told.1 same in cc)) in omega arith
    ] refl

-- The first file with the name had the bytes `before`, and now has the bytes `after`.
pub record Replaces (old new : List (String Global × Vec ℕ)) (name : List ℕ) (before after : Vec ℕ) : Type 0 where
  pub had : bytes_under old name ≡ Some before.items
  pub capacity : capacity_under old name ≡ vec_capacity before
  pub sets : (bytes : List ℕ) → after.items ≡ bytes → SetsFile old new name bytes
  pub room : capacity_under new name ≡ vec_capacity after
  pub keeps : vec_capacity before ≤ vec_capacity after → KeepsCapacity old new

pub replaced : (entries : List (String Global × Vec ℕ)) (i : ℕ) (name : List ℕ) (old : String Global × Vec ℕ) (v : Vec ℕ)
    → position (has_name name) entries ≡ Some i → old ≡ get_or entries i old → Replaces entries (set entries i (old.0, v)) name old.1 v
replaced entries i name old v e there =
    let sets = set_named entries i name old v e there in
    let was = capacity_before entries i name old e there in
    record {
      had = bytes_before entries i name old e there;
      capacity = was;
      sets = λ bytes is. sets_file _ _ name (old.0, v) bytes sets is;
      room = capacity_set _ _ name (old.0, v) sets;
      keeps = λ more. keeps_capacity _ _ name (old.0, v) sets (omega arith);
    }

pub set_same : (old new : List (String Global × Vec ℕ)) (name bytes : List ℕ) → SetsFile old new name bytes → bytes_under old name ≡ Some bytes → KeepsNamed old new
set_same old new name bytes sets has other =
    let told = bytes_eq-Decides other name in
    elim (bytes_eq other name) as (λ b. bytes_eq other name ≡ b → bytes_under new other ≡ bytes_under old other) [
      | true ↦ λ t. subst (λ n. bytes_under new n ≡ bytes_under old n) (sym (told.0 t)) (sets.set ∙ sym has)
      | false ↦ λ f. sets.others other (λ same. let t = told.1 same in cc)
    ] refl

not_chosen : (b : Bool) (x : ℕ) → cond b (Some x) None ≡ None → b ≡ false
not_chosen true x e = absurd cc
not_chosen false x e = refl

pub find_none : {X : Type 0} (p : X → Bool) (xs : List X) → position p xs ≡ None → find p xs ≡ None
find_none p xs e =
    let past : length xs ≤ position_or_len p xs = ltb-false _ _ (not_chosen (ltb (position_or_len p xs) (length xs)) (position_or_len p xs) e) in
    elim ((slice_get_cases xs (position_or_len p xs)).1) [
      | inl h ↦ absurd (omega (arith, h.1))
      | inr h ↦ find_at p xs ∙ h.1
    ]

or_none : {X : Type 0} (x : Option X) → option_or x None ≡ x
or_none None = refl
or_none (Some x) = refl

-- if no entry had the name, appending `entry` sets the entry with this name
pub add_named : (entries : List (String Global × Vec ℕ)) (name : List ℕ) (entry : String Global × Vec ℕ)
    → position (has_name name) entries ≡ None → string_bytes entry.0 ≡ name → SetsNamed entries (entries ++ entry ∷ []) name entry
add_named entries name entry e named =
    let mine : has_name name entry ≡ true = (bytes_eq-Decides (string_bytes entry.0) name).1 named in
    record {
      here = find-append (has_name name) entries (entry ∷ []) ∙ rw (find_none (has_name name) entries e, mine) refl;
      others = λ other differ.
          let here : has_name other entry ≡ false = other_name other name entry differ mine in
          find-append (has_name other) entries (entry ∷ []) ∙ rw here (or_none (find (has_name other) entries));
    }

pub no_bytes : (entries : List (String Global × Vec ℕ)) (name : List ℕ) → position (has_name name) entries ≡ None → bytes_under entries name ≡ None
no_bytes entries name e = ap (λ f. option_map (λ (entry : String Global × Vec ℕ). entry.1.items) f) (find_none (has_name name) entries e)

pub capacity_none : (entries : List (String Global × Vec ℕ)) (name : List ℕ) → position (has_name name) entries ≡ None → capacity_under entries name ≡ 0
unfolding size_of_found
capacity_none entries name e = ap size_of_found (find_none (has_name name) entries e)

pub on_err : {T E : Type 0} (r : Result T E) (P : Type 0) → P → OnErr r P
on_err (Ok x) P h = tt
on_err (Err e) P h = h
