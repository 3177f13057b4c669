-- What a clock keeps after one more packet.
use Rattle.std.proofs.Common.{◌≡◌, ℕ, zero, suc, ◌-◌, true, ℤ, Some, slice_get, List, [], ◌∷◌, ◌++◌, All, length, drop, map, sym, ap, ◌∙◌, subst, arith}
use Rattle.std.specs.Global.{Vec}
use Rattle.std.proofs.lemmas.List.{drop-map, length-append, length-map, map-append}
use Rattle.std.proofs.lemmas.List.Elements.{All-append, All-cons, All-drop, All-head, All-nil, All-tail}
use Rattle.circular_buffer.specs.Buffer.{Buffer, buffer, keep_last}
use Rattle.clock_track.specs.declared.clock.Kept.{Kept}
use Rattle.clock_track.specs.declared.clock.Room.{Room}
use Rattle.clock_track.specs.declared.clock_row.ClockRow.{ClockRow}
use Rattle.clock_track.specs.Limits.{IsNotable}
use Rattle.clock_track.specs.Rows.{window}
use Rattle.clock_track.specs.state.Bounds.{AreGroups, HasPairs}
use Rattle.clock_track.specs.state.Window.{HasBounds, HasRoom, HoldsRooms, IsWindow, kept_row}
use Rattle.clock_track.proofs.Windows.{window-more}

rows-noted : (xs : List Kept) (kept : Kept) → map kept_row (keep_last 63 xs ++ kept ∷ []) ≡ drop (length (map kept_row xs) - 63) (map kept_row xs) ++ kept_row kept ∷ []
rows-noted xs kept =
    let n = length-map xs kept_row in
    map-append kept_row (keep_last 63 xs) (kept ∷ [])
    ∙ ap (λ (l : List ClockRow). l ++ kept_row kept ∷ []) (sym (drop-map kept_row (length xs - 63) xs) ∙ ap (λ (k : ℕ). drop (k - 63) (map kept_row xs)) (sym n))

all-one : {X : Type 0} (P : X → Type 0) (xs : List X) (x : X) → All P xs → P x → All P (xs ++ x ∷ [])
all-one P xs x all is = All-append P xs (x ∷ []) all (All-cons P x [] is (All-nil P))

-- the buffer `new` holds the last 63 packets of `old`, and then `kept`
abbrev pub IsNoted : Buffer Kept → Buffer Kept → Kept → Type 0
IsNoted old new kept = new ≡ buffer (keep_last 63 old.items ++ kept ∷ []) 64

pub window-noted : (shift : ℤ) (old new : Buffer Kept) (kept : Kept) (spare left : Vec Room) → IsWindow shift old spare → IsNoted old new kept → HasRoom kept → IsNotable (kept_row kept) → HasBounds shift kept
    → HoldsRooms (keep_last 63 old.items) left 63 → IsWindow shift new left
window-noted shift old new kept spare left is e room notable bounds rooms =
    let items : new.items ≡ keep_last 63 old.items ++ kept ∷ [] = ap (λ (b : Buffer Kept). b.items) e in
    let rows : map kept_row new.items ≡ drop (length (map kept_row old.items) - 63) (map kept_row old.items) ++ kept_row kept ∷ [] = ap (λ (l : List Kept). map kept_row l) items ∙ rows-noted old.items kept in
    let sum = length-append (keep_last 63 old.items) (kept ∷ []) in
    let size : length new.items ≡ length (keep_last 63 old.items ++ kept ∷ []) = ap (λ (l : List Kept). length l) items in
    record {
      capacity = ap (λ (b : Buffer Kept). b.capacity) e;
      rooms = record {
        all = let count = rooms.all in omega arith;
        kept = subst (λ (l : List Kept). All HasRoom l) (sym items) (all-one HasRoom (keep_last 63 old.items) kept rooms.kept room);
        unused = rooms.unused;
      };
      notable = subst (λ (l : List ClockRow). All IsNotable l) (sym rows)
          (all-one IsNotable (drop (length (map kept_row old.items) - 63) (map kept_row old.items)) (kept_row kept) (All-drop IsNotable (length (map kept_row old.items) - 63) (map kept_row old.items) is.notable) notable);
      bounds = subst (λ (l : List Kept). All (HasBounds shift) l) (sym items) (all-one (HasBounds shift) (keep_last 63 old.items) kept (All-drop (HasBounds shift) (length old.items - 63) old.items is.bounds) bounds);
    }

pub stands-noted : (old new : Buffer Kept) (kept : Kept) (rows : List ClockRow) (row : ClockRow) → IsNoted old new kept → kept_row kept ≡ row → row.usable ≡ true → map kept_row old.items ≡ window rows
    → map kept_row new.items ≡ window (rows ++ row ∷ [])
stands-noted old new kept rows row e same usable stands =
    let items : new.items ≡ keep_last 63 old.items ++ kept ∷ [] = ap (λ (b : Buffer Kept). b.items) e in
    ap (λ (l : List Kept). map kept_row l) items ∙ rows-noted old.items kept
    ∙ ap (λ (r : ClockRow). drop (length (map kept_row old.items) - 63) (map kept_row old.items) ++ r ∷ []) same
    ∙ window-more (map kept_row old.items) rows row stands usable

-- the bounds that are kept with a packet hold the packet's pairs
pub bounds-kept : (shift : ℤ) (items : List Kept) (k : ℕ) (kept : Kept) (row : ClockRow) → slice_get items k ≡ Some kept → All (HasBounds shift) items → slice_get (map kept_row items) k ≡ Some row
    → HasPairs shift row kept.bounds × AreGroups shift row kept.groups.items
bounds-kept shift [] k kept row e all there = absurd cc
bounds-kept shift (x ∷ xs) zero kept row e all there =
    let same : x ≡ kept = cc in
    let same_row : kept_row x ≡ row = cc in
    let has = All-head (HasBounds shift) x xs all in
    subst (λ (k : Kept). HasPairs shift row k.bounds × AreGroups shift row k.groups.items) same
    (subst (λ (r : ClockRow). HasPairs shift r x.bounds × AreGroups shift r x.groups.items) same_row (has.all, has.groups))
bounds-kept shift (x ∷ xs) (suc k) kept row e all there = bounds-kept shift xs k kept row e (All-tail (HasBounds shift) x xs all) there

pub has-bounds : (shift : ℤ) (row : ClockRow) (kept : Kept) → kept_row kept ≡ row → HasPairs shift row kept.bounds → AreGroups shift row kept.groups.items → HasBounds shift kept
has-bounds shift row kept same all groups = record {
  all = subst (λ (r : ClockRow). HasPairs shift r kept.bounds) (sym same) all;
  groups = subst (λ (r : ClockRow). AreGroups shift r kept.groups.items) (sym same) groups;
}
