-- What follows if `holds` is false in every row of a table.
use Rattle.std.proofs.Common.{◌≡◌, ◌≢◌, ℕ, Bool, true, false, cond, not, eqb, List, [], ◌∷◌, length, take, drop, Option, Some, None, Result, Ok, Err, refl, sym, ap, eq-eqb, inl, inr, subst, ◌∙◌}
use Rattle.std.specs.Prelude.{IfOk, IsOkAnd}
use Rattle.std.proofs.lemmas.Bool.{eqb-true, not-false}
use Rattle.std.proofs.lemmas.Bool.Decides.{eqb_tells}
use Rattle.std.proofs.lemmas.List.{take_at}
use Rattle.avtp_base.specs.declared.refusal.Room.{Room}
use Rattle.avtp_base.specs.declared.refusal.Refusal.{Refusal}
use Rattle.avtp_base.specs.Rows.{Row, Reads, Writes, IsSpelledOnce, first_row, or_else}

pub or_else-none : (a b : Option Refusal) → or_else a b ≡ None → (a ≡ None) × (b ≡ None)
or_else-none None b e = (refl, e)
or_else-none (Some r) b e = absurd cc

chosen-none : (holds : Bool) (r : Refusal) (rest : Option Refusal) → cond holds (Some r) rest ≡ None → (holds ≡ false) × (rest ≡ None)
chosen-none true r rest e = absurd cc
chosen-none false r rest e = (refl, e)

-- `holds` is false in every row of the table
abbrev pub NoneHolds : List Row → Type 0
NoneHolds [] = Unit {0}
NoneHolds (r ∷ rows) = (r.holds ≡ false) × NoneHolds rows

pub rows_passed : (rows : List Row) → first_row rows ≡ None → NoneHolds rows
rows_passed [] e = tt
rows_passed (r ∷ rows) e =
    let parts = chosen-none r.holds r.refusal (first_row rows) e in
    (parts.0, rows_passed rows parts.1)

pub passed_rows : (rows : List Row) → NoneHolds rows → first_row rows ≡ None
passed_rows [] none = refl
passed_rows (r ∷ rows) none = rw (none.0) (passed_rows rows none.1)

pub not_other : (n m : ℕ) → not (eqb n m) ≡ false → n ≡ m
not_other n m e = eqb-true n m (not-false (eqb n m) e)

-- ---- a reader's result and the views that the bytes spell

pub spelled_once : {V : Type 0} (refusal : Option Refusal) (Spelled : V → Type 0) (view : V)
    → (refusal ≡ None → Spelled view) → ((w : V) → Spelled w → refusal ≡ None) → ((w : V) → Spelled w → w ≡ view)
    → IsSpelledOnce refusal Spelled
spelled_once None Spelled view found accepted only = (view, found refl, only)
spelled_once (Some r) Spelled view found accepted only = λ w spelled. let e = accepted w spelled in absurd cc

pub read_spelled : {X V : Type 0} (shape : X → V) (refusal : Option Refusal) (view : V) (Spelled : V → Type 0) (r : Result X Refusal)
    → Reads shape refusal view r → (refusal ≡ None → Spelled view) → IfOk r (λ x. Spelled (shape x))
read_spelled shape refusal view Spelled (Ok x) reads found = subst Spelled (sym reads.1) (found reads.0)
read_spelled shape refusal view Spelled (Err e) reads found = tt

pub read_only : {X V : Type 0} (shape : X → V) (refusal : Option Refusal) (view w : V) (r : Result X Refusal)
    → Reads shape refusal view r → refusal ≡ None → w ≡ view → IsOkAnd r (λ x. shape x ≡ w)
read_only shape refusal view w (Ok x) reads accepted is = reads.1 ∙ sym is
read_only shape refusal view w (Err e) reads accepted is = let refused = reads in absurd cc

pub written_so : (spelling old new : List ℕ) (Again : List ℕ → Type 0) (r : Result ℕ Room)
    → Writes spelling old new r → Again spelling → IfOk r (λ n. Again (take n new))
written_so spelling old new Again (Ok n) writes again =
    let front : take n new ≡ spelling = rw (writes.2) (take_at spelling (drop (length spelling) old) n (sym writes.0)) in
    rw front again
written_so spelling old new Again (Err room) writes again = tt

-- ---- bytes that no row refuses

pub or_else-accepted : (a b : Option Refusal) → a ≡ None → b ≡ None → or_else a b ≡ None
or_else-accepted a b first second = rw first second

pub same_not_other : (n m : ℕ) → n ≡ m → not (eqb n m) ≡ false
same_not_other n m e = ap not (eq-eqb n m e)

pub unequal : (n m : ℕ) → n ≢ m → eqb n m ≡ false
unequal n m differ = elim (eqb_tells n m) [ inl same ↦ absurd (differ same.1) | inr apart ↦ apart.0 ]
