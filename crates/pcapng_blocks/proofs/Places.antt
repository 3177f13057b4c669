-- If the allowed number of places is large enough, the contents from a place on do not depend on that number. The
-- contents are what the place holds, followed by the contents from the next place on.
use Rattle.std.proofs.Common.{◌≡◌, ℕ, zero, suc, ◌+◌, ◌-◌, ◌≤◌, ◌<◌, Bool, true, false, nat_lt, nat_eq, if◌then◌else◌, List, length, drop, refl, ap, arith, length-drop}
use Rattle.std.proofs.lemmas.Bool.Decides.{nat_tests}
use Rattle.pcapng_blocks.specs.declared.block.Kind.{Kind}
use Rattle.pcapng_blocks.specs.declared.block.Kind.TheVariants as kind
use Rattle.pcapng_blocks.specs.declared.block.Stage.{Stage}
use Rattle.pcapng_blocks.specs.declared.block.Stage.TheVariants as stage
use Rattle.pcapng_blocks.specs.Fields.{option_code, option_length, padded}
use Rattle.pcapng_blocks.specs.Blocks.{Place, contents_from, block_size, order_or_little, size_by, size_here, refusal_here, refused_or, and_then, next_place, packet_by, cut_short, contents_at}

size_of_block : (k : Kind) (total : ℕ) → 4 ≤ block_size k total
size_of_block kind.Section total = omega arith
size_of_block kind.Interface total = omega arith
size_of_block kind.Packet total = omega arith
size_of_block kind.Other total = omega arith

size_of_option : (b : Bool) (m n : ℕ) → 4 ≤ (if b then 4 + m else 4 + n)
size_of_option true m n = omega arith
size_of_option false m n = omega arith

size_of_stage : (s : Stage) (p : Place) (bytes : List ℕ) → 4 ≤ size_by s p bytes
size_of_stage stage.Block p bytes = size_of_block _ _
size_of_stage stage.Option p bytes = size_of_option (nat_eq (option_code (order_or_little p.order) bytes) 0) (p.left - 4) (padded (option_length (order_or_little p.order) bytes))
size_of_stage stage.Trailer p bytes = omega arith

-- each place takes at least four bytes
pub size_some : (p : Place) (bytes : List ℕ) → 4 ≤ size_here p bytes
unfolding size_here
size_some p bytes = size_of_stage p.stage p bytes

choice : {X : Type 0} (b : Bool) (x y z : X) → (b ≡ false → y ≡ z) → (if b then x else y) ≡ (if b then x else z)
choice true x y z h = refl
choice false x y z h = h refl

not_less : (m n : ℕ) → nat_lt m n ≡ false → n ≤ m
not_less m n h = grind (arith, nat_tests)

-- if more places are allowed than there are bytes, the contents do not depend on the number of places
fuel : (n m : ℕ) (p : Place) (bytes : List ℕ) → length bytes < n → length bytes < m → contents_from n p bytes ≡ contents_from m p bytes
fuel zero m p bytes h k = absurd (omega arith)
fuel (suc n) zero p bytes h k = absurd (omega arith)
fuel (suc n) (suc m) p bytes h k =
    ap (refused_or (refusal_here p bytes))
    (choice (nat_lt (length bytes) (size_here p bytes)) _ _ _
    (λ long. ap (and_then (packet_by p.stage p.packet))
    (let some = size_some p bytes in
    let whole = not_less (length bytes) (size_here p bytes) long in
    let size = length-drop (size_here p bytes) bytes in
    fuel n m (next_place p bytes) (drop (size_here p bytes) bytes) (omega arith) (omega arith))))

-- The contents from a place on are the packet that is complete at this place, if any, followed by the contents from the
-- next place on. If the bytes at the place are refused or cut short, the contents end there.
pub unroll : (p : Place) (bytes : List ℕ) → contents_at p bytes
    ≡ refused_or (refusal_here p bytes) (if nat_lt (length bytes) (size_here p bytes) then cut_short p bytes
    else and_then (packet_by p.stage p.packet) (contents_at (next_place p bytes) (drop (size_here p bytes) bytes)))
unroll p bytes =
    ap (refused_or (refusal_here p bytes))
    (choice (nat_lt (length bytes) (size_here p bytes)) _ _ _
    (λ long. ap (and_then (packet_by p.stage p.packet))
    (let some = size_some p bytes in
    let whole = not_less (length bytes) (size_here p bytes) long in
    let size = length-drop (size_here p bytes) bytes in
    fuel (length bytes) (suc (length (drop (size_here p bytes) bytes))) (next_place p bytes) (drop (size_here p bytes) bytes) (omega arith) (omega arith))))
