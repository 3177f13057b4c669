-- Suppose that no reserved bit of a header is set. Then the header's bytes spell a view if and only if each field holds
-- the value that a writer writes for this view.
use Rattle.std.proofs.Common.{◌≡◌, ℕ, ◌+◌, Bool, true, false, cond, eqb, List, [], ◌∷◌, ◌++◌, Option, Some, None, sym, ◌∙◌, refl}
use Rattle.std.specs.Prelude.{is_some, ◌&&◌}
use Rattle.std.proofs.lemmas.Bool.{eqb-true, and_parts}
use Rattle.avtp_base.specs.Octets.{Range, any_set, bits, range}
use Rattle.avtp_base.specs.Layout.{Bits, Layout, Shows, Spells, SpellsBits, free_ranges, reserved_ranges, value_of}
use Rattle.avtp_base.proofs.LayoutLemmas.{Holds, HoldsBits, unset-first}

unset-split : (xs ys : List Range) (bytes : List ℕ) → any_set (xs ++ ys) bytes ≡ false → (any_set xs bytes ≡ false) × (any_set ys bytes ≡ false)
unset-split [] ys bytes e = (refl, e)
unset-split (x ∷ xs) ys bytes e =
    let parts = unset-first (eqb (bits x.at x.first x.width bytes) 0) (any_set (xs ++ ys) bytes) e in
    let rest = unset-split xs ys bytes parts.1 in
    (rw (parts.0) rest.0, rest.1)

-- ---- if bytes spell a view, each field holds the value that a writer writes for the view

-- each bit of the table is reserved, or a view shows its value
abbrev pub bits_told : {V : Type 0} → List (Bits V) → Bool
bits_told [] = true
bits_told (b ∷ bs) = cond b.free true (is_some b.shown) && bits_told bs

abbrev pub is_told : {V : Type 0} → Layout V → Bool
is_told [] = true
is_told (p ∷ parts) = bits_told p.bits && is_told parts

held_bit : {V : Type 0} (free : Bool) (shown : Option (V → ℕ)) (v : V) (at first width : ℕ) (ranges : List Range) (bytes : List ℕ) → cond free true (is_some shown) ≡ true
    → Shows shown v (bits at first width bytes) → any_set (cond free (range at first width ∷ ranges) ranges) bytes ≡ false
    → (bits at first width bytes ≡ cond free 0 (value_of shown v)) × (any_set ranges bytes ≡ false)
held_bit true shown v at first width ranges bytes told shows unset =
    let parts = unset-first (eqb (bits at first width bytes) 0) (any_set ranges bytes) unset in
    (eqb-true (bits at first width bytes) 0 parts.0, parts.1)
held_bit false (Some value) v at first width ranges bytes told shows unset = (shows, unset)
held_bit false None v at first width ranges bytes told shows unset = absurd cc

held_bits : {V : Type 0} (bs : List (Bits V)) (v : V) (at first : ℕ) (bytes : List ℕ) → bits_told bs ≡ true
    → SpellsBits at first bs v bytes → any_set (free_ranges at first bs) bytes ≡ false → HoldsBits at first bs v bytes
held_bits [] v at first bytes told spells unset = tt
held_bits (b ∷ bs) v at first bytes told spells unset =
    let parts = and_parts (cond b.free true (is_some b.shown)) (bits_told bs) told in
    let here = held_bit b.free b.shown v at first b.width (free_ranges at (first + b.width) bs) bytes parts.0 spells.0 unset in
    (here.0, held_bits bs v at (first + b.width) bytes parts.1 spells.1 here.1)

-- If the bytes spell the view and no reserved bit is set, each field holds the value that a writer writes for the view.
pub spelled_holds : {V : Type 0} (layout : Layout V) (v : V) (bytes : List ℕ) → is_told layout ≡ true
    → Spells layout v bytes → any_set (reserved_ranges layout) bytes ≡ false → Holds layout v bytes
spelled_holds [] v bytes told spells unset = tt
spelled_holds (p ∷ parts) v bytes told spells unset =
    let both_told = and_parts (bits_told p.bits) (is_told parts) told in
    let split = unset-split (free_ranges p.at 0 p.bits) (reserved_ranges parts) bytes unset in
    (held_bits p.bits v p.at 0 bytes both_told.0 spells.0 split.0, spelled_holds parts v bytes both_told.1 spells.1 split.1)

-- ---- if each field holds the value that a writer writes for a view, the bytes spell the view

-- the view shows 0 for each reserved bit that it shows
abbrev pub bits_plain : {V : Type 0} → List (Bits V) → V → Bool
bits_plain [] v = true
bits_plain (b ∷ bs) v = cond b.free (eqb (value_of b.shown v) 0) true && bits_plain bs v

abbrev pub is_plain : {V : Type 0} → Layout V → V → Bool
is_plain [] v = true
is_plain (p ∷ parts) v = bits_plain p.bits v && is_plain parts v

shown_bit : {V : Type 0} (free : Bool) (shown : Option (V → ℕ)) (v : V) (n : ℕ) → cond free (eqb (value_of shown v) 0) true ≡ true → n ≡ cond free 0 (value_of shown v) → Shows shown v n
shown_bit free None v n plain holds = tt
shown_bit true (Some value) v n plain holds = holds ∙ sym (eqb-true (value v) 0 plain)
shown_bit false (Some value) v n plain holds = holds

shown_bits : {V : Type 0} (bs : List (Bits V)) (v : V) (at first : ℕ) (bytes : List ℕ) → bits_plain bs v ≡ true → HoldsBits at first bs v bytes → SpellsBits at first bs v bytes
shown_bits [] v at first bytes plain holds = tt
shown_bits (b ∷ bs) v at first bytes plain holds =
    let parts = and_parts (cond b.free (eqb (value_of b.shown v) 0) true) (bits_plain bs v) plain in
    (shown_bit b.free b.shown v (bits at first b.width bytes) parts.0 holds.0, shown_bits bs v at (first + b.width) bytes parts.1 holds.1)

-- If each field holds the value that a writer writes for the view, the bytes spell the view. The view must show 0 for
-- reserved bits.
pub held_spells : {V : Type 0} (layout : Layout V) (v : V) (bytes : List ℕ) → is_plain layout v ≡ true → Holds layout v bytes → Spells layout v bytes
held_spells [] v bytes plain holds = tt
held_spells (p ∷ parts) v bytes plain holds =
    let parts_plain = and_parts (bits_plain p.bits v) (is_plain parts v) plain in
    (shown_bits p.bits v p.at 0 bytes parts_plain.0 holds.0, held_spells parts v bytes parts_plain.1 holds.1)
