-- How a format refuses bytes. Each format has a table of rows. The first row whose `holds` is true gives the refusal.
use Rattle.std.specs.Prelude.{◌≡◌, ℕ, ◌<◌, ◌≤◌, Bool, false, if◌then◌else◌, List, [], ◌∷◌, ◌++◌, length, drop, Option, Some, None, Result, Ok, Err}
use Rattle.avtp_base.specs.declared.field.Field.{Field}
use Rattle.avtp_base.specs.declared.refusal.Refusal.{Refusal}
use Rattle.avtp_base.specs.declared.refusal.Room.{Room}

-- a row of a table of refusals: a refusal, and `holds`, which says whether the refusal applies
pub record Row : Type 0 where
  pub refusal : Refusal
  pub holds : Bool

-- if `holds` is true, this row refuses the field at byte `at` because of its value
abbrev pub row : Field → ℕ → Bool → Row
row field at holds = record { refusal = record { field = field; at = at; short = false }; holds = holds }

-- the refusal of the first row whose `holds` is true, if any
abbrev pub first_row : List Row → Option Refusal
first_row [] = None
first_row (r ∷ rows) = if r.holds then Some r.refusal else first_row rows

-- the first refusal if there is one; otherwise the second refusal, if there is one
abbrev pub or_else : Option Refusal → Option Refusal → Option Refusal
or_else None second = second
or_else (Some refusal) second = Some refusal

-- A reader's result. If nothing refuses the bytes, the result is `Ok` with the view that the bytes spell; otherwise the
-- result is the refusal.
abbrev pub Reads : {X V : Type 0} → (X → V) → Option Refusal → V → Result X Refusal → Type 0
Reads shape refusal view (Ok x) = (refusal ≡ None) × (shape x ≡ view)
Reads shape refusal view (Err r) = refusal ≡ Some r

-- A writer's result. At `Ok` the writer put the spelling at the front of the slice, left all other bytes unchanged, and
-- returned the spelling's length. At `Err` the slice is shorter than the spelling and is unchanged; the result states
-- both lengths.
abbrev pub Writes : List ℕ → List ℕ → List ℕ → Result ℕ Room → Type 0
Writes spelling old new (Ok n) =
    (n ≡ length spelling) × (length spelling ≤ length old) × (new ≡ spelling ++ drop (length spelling) old)
Writes spelling old new (Err room) =
    (room ≡ record { need = length spelling; found = length old }) × (length old < length spelling) × (new ≡ old)

-- If nothing refuses the bytes, they spell exactly one view. If something refuses the bytes, they spell no view.
abbrev pub IsSpelledOnce : {V : Type 0} → Option Refusal → (V → Type 0) → Type 0
IsSpelledOnce {V} None Spelled = (v : V) × Spelled v × ((w : V) → Spelled w → w ≡ v)
IsSpelledOnce {V} (Some refusal) Spelled = (w : V) → ¬ Spelled w
