-- What the calls of a shelf do to its files and to its open files, if the shelf shows them. If a shelf stops showing
-- its files, it never shows them again. A statement about files applies only if the files are shown both before and
-- after the call. A name is a list of bytes.
use Rattle.std.specs.Prelude.{◌≡◌, ◌≢◌, ℕ, Bool, true, false, List, ◌++◌, Option, Some, None, option_map, option_and_then, IsSome, IsSomeAnd, ⊤}

-- the bytes of each file, by the file's name; `None` if no file has the name
abbrev pub Files : Type 0
Files = List ℕ → Option (List ℕ)

-- An open file: whether it was made for writing, its name, and the bytes that are left to read. The name and the bytes
-- are present only if the shelf shows them.
pub record Open : Type 0 where
  pub made : Bool
  pub name : Option (List ℕ)
  pub left : Option (List ℕ)

-- open files by slot: `None` if the slot is not live
abbrev pub Slots : Type 0
Slots = ℕ → Option Open

-- Two facts of an open file: whether the file was made for writing, and the file's name. Neither fact changes while the
-- file's slot is live.
abbrev pub file_of : Open → Bool × Option (List ℕ)
file_of o = (o.made, o.name)

-- the name of the file that is open in slot k; `None` if the slot is not live or the shelf does not show the name
abbrev pub name_in : Slots → ℕ → Option (List ℕ)
name_in slots k = option_and_then (λ o. o.name) (slots k)

-- the bytes that are left to read in slot k; `None` if the slot is not live or the shelf does not show them
abbrev pub left_in : Slots → ℕ → Option (List ℕ)
left_in slots k = option_and_then (λ o. o.left) (slots k)

-- the shelf shows its files, and none has this name
abbrev pub IsMissing : Option Files → List ℕ → Type 0
IsMissing None name = ⊥
IsMissing (Some files) name = files name ≡ None

-- all files are unchanged, if the shelf shows them
abbrev pub KeepsFiles : Option Files → Option Files → Type 0
KeepsFiles None None = ⊤
KeepsFiles None (Some new) = ⊥
KeepsFiles (Some old) None = ⊤
KeepsFiles (Some old) (Some new) = (name : List ℕ) → new name ≡ old name

-- If the shelf shows its files, the file with this name now has these bytes, and all other files are unchanged.
abbrev pub PutsFile : Option Files → Option Files → List ℕ → List ℕ → Type 0
PutsFile None None name bytes = ⊤
PutsFile None (Some new) name bytes = ⊥
PutsFile (Some old) None name bytes = ⊤
PutsFile (Some old) (Some new) name bytes =
    (new name ≡ Some bytes) × ((other : List ℕ) → other ≢ name → new other ≡ old other)

-- all slots except slot k are unchanged
abbrev pub KeepsOthers : Slots → Slots → ℕ → Type 0
KeepsOthers old new k = (j : ℕ) → j ≢ k → new j ≡ old j

-- every slot is unchanged
abbrev pub KeepsSlots : Slots → Slots → Type 0
KeepsSlots old new = (j : ℕ) → new j ≡ old j

-- The slot was opened for reading. If the shelf shows its files, the slot holds the file with this name, and all bytes
-- of this file are still to be read.
abbrev pub IsOpened : Option Files → Option Open → List ℕ → Type 0
IsOpened None slot name = IsSomeAnd slot (λ o. o.made ≡ false)
IsOpened (Some files) slot name =
    (slot ≡ Some (record { made = false; name = Some name; left = files name })) × IsSome (files name)

-- The slot holds a file that was made for writing. If the shelf shows its files, that file has this name.
abbrev pub IsMade : Option Files → Option Open → List ℕ → Type 0
IsMade files slot name = IsSomeAnd slot (λ o. (o.made ≡ true) × (IsSome files → o.name ≡ Some name))

-- In every slot, the same file stays open, or the slot stays free. The unread bytes change only in slots of the file
-- `name`.
pub record KeepsOtherFiles (old new : Slots) (name : Option (List ℕ)) : Type 0 where
  pub same : (j : ℕ) → option_map file_of (new j) ≡ option_map file_of (old j)
  pub left : (j : ℕ) → name_in old j ≢ name → left_in new j ≡ left_in old j

-- In every slot except slot k, the same file stays open, or the slot stays free. The bytes that are still to be read
-- change only in slot k and in slots of the file `name`.
pub record KeepsOthersFiles (old new : Slots) (k : ℕ) (name : List ℕ) : Type 0 where
  pub same : (j : ℕ) → j ≢ k → option_map file_of (new j) ≡ option_map file_of (old j)
  pub left : (j : ℕ) → j ≢ k → name_in old j ≢ Some name → left_in new j ≡ left_in old j

-- If the shelf shows its files, these bytes were appended to the file with this name, and all other files are
-- unchanged.
abbrev pub AppendsTo : Option Files → Option Files → Option (List ℕ) → List ℕ → Type 0
AppendsTo None None name bytes = ⊤
AppendsTo None (Some new) name bytes = ⊥
AppendsTo (Some old) None name bytes = ⊤
AppendsTo (Some old) (Some new) None bytes = ⊥
AppendsTo (Some old) (Some new) (Some name) bytes =
    (before : List ℕ) × (old name ≡ Some before) × PutsFile (Some old) (Some new) name (before ++ bytes)
