-- Further bytes do not change what is known of a block.
use Rattle.std.proofs.Common.{◌≡◌, ℕ, ℤ, zero, suc, ◌+◌, ◌≤◌, ◌<◌, false, nat_lt, if◌then◌else◌, List, [], ◌++◌, length, drop, Option, Some, None, refl, ap, sym, ◌∙◌, arith, inl, inr, length-append, length-drop}
use Rattle.std.proofs.lemmas.Bool.{cases_lt}
use Rattle.std.proofs.lemmas.Bool.Decides.{nat_tests}
use Rattle.std.proofs.lemmas.List.{drop-append-le, take-append-le}
use Rattle.avtp_base.specs.declared.refusal.Refusal.{Refusal}
use Rattle.avtp_base.specs.declared.field.Field.TheVariants.{BlockType, BlockBody}
use Rattle.pcap_frames.specs.declared.style.Order.{Order}
use Rattle.pcap_frames.specs.declared.style.Order.TheVariants.{Little}
use Rattle.pcap_frames.specs.Layout.{number_at}
use Rattle.pcap_frames.proofs.Append.{number_stays}
use Rattle.pcapng_blocks.specs.declared.block.Kind.{Kind}
use Rattle.pcapng_blocks.specs.declared.block.Kind.TheVariants as kind
use Rattle.pcapng_blocks.specs.declared.interface.Interface.{Interface}
use Rattle.pcapng_blocks.specs.Fields.{first_refused, packet_arrival, kind_of, order_of_magic, refusal_at}
use Rattle.pcapng_blocks.specs.state.Fields.{head_size}
use Rattle.pcapng_blocks.specs.Blocks.{Place, kind_at, order_at, kind_rows, block_rows, block_refused, is_misplaced, order_or_little, record_by, after_block, after_any, in_block, size_of_any, block_size, ends_at, cut_block, cut_short, ends, short_at, refusal_here, size_here, next_place, packet_by}
use Rattle.pcap_frames.specs.Capture.{Record}
use Rattle.pcapng_blocks.specs.declared.block.Stage.{Stage}
use Rattle.pcapng_blocks.specs.declared.block.Stage.TheVariants as stage
use Rattle.pcapng_blocks.proofs.Choices.{by_place, long_enough}
use Rattle.pcapng_blocks.proofs.Stay.{arrival_stays, interface_stays, packet_stays, other_stays}

pub kind_stays : (order : Option Order) (bytes more : List ℕ) → 4 ≤ length bytes → kind_at order (bytes ++ more) ≡ kind_at order bytes
kind_stays order bytes more h = ap kind_of (number_stays (order_or_little order) 0 4 bytes more h)

magic_stays : (bytes more : List ℕ) → 12 ≤ length bytes → number_at Little 8 4 (bytes ++ more) ≡ number_at Little 8 4 bytes
magic_stays bytes more h = number_stays Little 8 4 bytes more h

-- if the magic number of a section header is complete, further bytes do not change the byte order of the block
pub order_stays : (k : Kind) (order : Option Order) (bytes more : List ℕ) → (k ≡ kind.Section → 12 ≤ length bytes) → order_at k order (bytes ++ more) ≡ order_at k order bytes
order_stays kind.Section order bytes more h = ap (λ (n : ℕ). order_or_little (order_of_magic n)) (magic_stays bytes more (h refl))
order_stays kind.Interface order bytes more h = refl
order_stays kind.Packet order bytes more h = refl
order_stays kind.Other order bytes more h = refl

none_before : (start : ℕ) (order : Order) (interfaces : List Interface) (bytes : List ℕ) → length bytes < 12 → first_refused start (length bytes) (kind_rows kind.Section order interfaces bytes) ≡ None
none_before start order interfaces bytes h = grind (arith, nat_tests)

section_kind_stays : (order : Order) (interfaces : List Interface) (start : ℕ) (bytes more : List ℕ) (x : Option Refusal) → first_refused start (length bytes) (kind_rows kind.Section order interfaces bytes) ≡ x → (x ≡ None → 16 ≤ length bytes)
    → first_refused start (length (bytes ++ more)) (kind_rows kind.Section order interfaces (bytes ++ more)) ≡ x
section_kind_stays order interfaces start bytes more x e h =
    grind (arith, nat_tests, magic_stays bytes more, number_stays order 4 4 bytes more, number_stays order 12 2 bytes more, length-append bytes more)

section_long : (order : Order) (interfaces : List Interface) (start : ℕ) (bytes : List ℕ) (x : Option Refusal) → first_refused start (length bytes) (kind_rows kind.Section order interfaces bytes) ≡ x → (x ≡ None → 16 ≤ length bytes) → 12 ≤ length bytes
section_long order interfaces start bytes x e h = elim (cases_lt (length bytes) 12) [
  | inl short ↦ absurd (omega (arith, h (sym e ∙ none_before start order interfaces bytes short)))
  | inr long ↦ long
]

kind_rows_stay : (k : Kind) (order : Option Order) (interfaces : List Interface) (start : ℕ) (bytes more : List ℕ) (x : Option Refusal) → first_refused start (length bytes) (kind_rows k (order_at k order bytes) interfaces bytes) ≡ x → (x ≡ None → head_size k ≤ length bytes)
    → first_refused start (length (bytes ++ more)) (kind_rows k (order_at k order (bytes ++ more)) interfaces (bytes ++ more)) ≡ x
kind_rows_stay kind.Section order interfaces start bytes more x e h =
    rw (order_stays kind.Section order bytes more (λ is. section_long _ interfaces start bytes x e h)) (section_kind_stays (order_at kind.Section order bytes) interfaces start bytes more x e h)
kind_rows_stay kind.Interface order interfaces start bytes more x e h = interface_stays (order_or_little order) (length interfaces) start bytes more x e (λ none. omega (arith, h none))
kind_rows_stay kind.Packet order interfaces start bytes more x e h = packet_stays (order_or_little order) interfaces start bytes more x e (λ none. omega (arith, h none))
kind_rows_stay kind.Other order interfaces start bytes more x e h = other_stays (order_or_little order) start bytes more x e h

four_short : (n : ℕ) (y : Option Refusal) → n < 4 → (if nat_lt n 4 then None else y) ≡ None
four_short n y h = grind (arith, nat_tests)

rows_long : (k : Kind) → 8 ≤ head_size k
rows_long kind.Section = omega arith
rows_long kind.Interface = omega arith
rows_long kind.Packet = omega arith
rows_long kind.Other = omega arith

block_stays_by : (k : Kind) (order : Option Order) (interfaces : List Interface) (start : ℕ) (bytes more : List ℕ) (x : Option Refusal) → 4 ≤ length bytes → first_refused start (length bytes) (block_rows k order interfaces bytes) ≡ x
    → (x ≡ None → head_size k ≤ length bytes) → first_refused start (length (bytes ++ more)) (block_rows k order interfaces (bytes ++ more)) ≡ x
block_stays_by k order interfaces start bytes more x long e h =
    long_enough (length (bytes ++ more)) 4 _ _ (omega (arith, length-append bytes more))
    ∙ by_place (is_misplaced order k) (refusal_at BlockType (start + 0)) (first_refused start (length bytes) (kind_rows k (order_at k order bytes) interfaces bytes)) _ x
    (sym (long_enough (length bytes) 4 _ _ long) ∙ e)
    (λ f. kind_rows_stay k order interfaces start bytes more x f h)

-- If a block is refused, further bytes do not change the refusal. If the fixed fields of a block are complete and
-- nothing is refused, further bytes cause no refusal in the block.
pub block_stays : (order : Option Order) (interfaces : List Interface) (start : ℕ) (bytes more : List ℕ) (x : Option Refusal) → first_refused start (length bytes) (block_rows (kind_at order bytes) order interfaces bytes) ≡ x
    → (x ≡ None → head_size (kind_at order bytes) ≤ length bytes) → first_refused start (length (bytes ++ more)) (block_rows (kind_at order (bytes ++ more)) order interfaces (bytes ++ more)) ≡ x
block_stays order interfaces start bytes more x e h = elim (cases_lt (length bytes) 4) [
  | inl short ↦ absurd (omega (arith, rows_long (kind_at order bytes), h (sym e ∙ four_short (length bytes) _ short)))
  | inr long ↦ rw (kind_stays order bytes more long) (block_stays_by (kind_at order bytes) order interfaces start bytes more x long e h)
]

order_long : (k : Kind) (n : ℕ) → head_size k ≤ n → k ≡ kind.Section → 12 ≤ n
order_long kind.Section n h is = omega arith
order_long kind.Interface n h is = absurd (cc)
order_long kind.Packet n h is = absurd (cc)
order_long kind.Other n h is = absurd (cc)

total_stays : (k : Kind) (order : Option Order) (bytes more : List ℕ) → head_size k ≤ length bytes → number_at (order_at k order (bytes ++ more)) 4 4 (bytes ++ more) ≡ number_at (order_at k order bytes) 4 4 bytes
total_stays k order bytes more h =
    ap (λ (o : Order). number_at o 4 4 (bytes ++ more)) (order_stays k order bytes more (order_long k (length bytes) h))
    ∙ number_stays (order_at k order bytes) 4 4 bytes more (omega (arith, rows_long k))

record_stays : (arrival : Option ℤ) (order : Order) (bytes more : List ℕ) → 28 + number_at order 20 4 bytes ≤ length bytes → record_by arrival order (bytes ++ more) ≡ record_by arrival order bytes
record_stays None order bytes more h = refl
record_stays (Some arrival) order bytes more h =
    let captured = number_stays order 20 4 bytes more (omega arith) in
    let on_wire = number_stays order 24 4 bytes more (omega arith) in
    let behind = drop-append-le 28 bytes more (omega arith) in
    let held = take-append-le (number_at order 20 4 bytes) (drop 28 bytes) more (omega (arith, length-drop 28 bytes)) in
    rw (captured, on_wire, behind, held) refl

after_stays : (k : Kind) (p : Place) (total : ℕ) (bytes more : List ℕ) → head_size k ≤ length bytes → (k ≡ kind.Packet → 28 + number_at (order_or_little p.order) 20 4 bytes ≤ length bytes) → after_block k p total (bytes ++ more) ≡ after_block k p total bytes
after_stays kind.Section p total bytes more h packet =
    ap (λ (o : Order). in_block p (Some o) [] None total 0 None) (order_stays kind.Section p.order bytes more (λ is. omega arith))
after_stays kind.Interface p total bytes more h packet = refl
after_stays kind.Packet p total bytes more h packet =
    ap (λ (r : Option Record). in_block p p.order p.interfaces None total 0 r)
    (ap (λ (t : Option ℤ). record_by t (order_or_little p.order) (bytes ++ more)) (arrival_stays (order_or_little p.order) p.interfaces bytes more (omega arith))
    ∙ record_stays (packet_arrival (order_or_little p.order) p.interfaces bytes) (order_or_little p.order) bytes more (packet refl))
after_stays kind.Other p total bytes more h packet = refl

-- Let the fixed fields of a block be present and, for a packet's block, also all captured bytes. Further bytes then do
-- not change the next place.
pub place_stays : (p : Place) (bytes more : List ℕ) → head_size (kind_at p.order bytes) ≤ length bytes → (kind_at p.order bytes ≡ kind.Packet → 28 + number_at (order_or_little p.order) 20 4 bytes ≤ length bytes) → after_any p (bytes ++ more) ≡ after_any p bytes
place_stays p bytes more h packet =
    ap (λ (k : Kind). after_block k p (number_at (order_at k p.order (bytes ++ more)) 4 4 (bytes ++ more)) (bytes ++ more)) (kind_stays p.order bytes more (omega (arith, rows_long (kind_at p.order bytes))))
    ∙ (ap (λ (n : ℕ). after_block (kind_at p.order bytes) p n (bytes ++ more)) (total_stays (kind_at p.order bytes) p.order bytes more h)
    ∙ after_stays (kind_at p.order bytes) p _ bytes more h packet)

-- if the fixed fields of a block are complete, further bytes do not change the number of bytes to the next place
pub size_stays : (order : Option Order) (bytes more : List ℕ) → head_size (kind_at order bytes) ≤ length bytes → size_of_any order (bytes ++ more) ≡ size_of_any order bytes
size_stays order bytes more h =
    ap (λ (k : Kind). block_size k (number_at (order_at k order (bytes ++ more)) 4 4 (bytes ++ more))) (kind_stays order bytes more (omega (arith, rows_long (kind_at order bytes))))
    ∙ ap (block_size (kind_at order bytes)) (total_stays (kind_at order bytes) order bytes more h)

not_ended : (order : Option Order) (start n : ℕ) → 1 ≤ n → ends_at stage.Block order start n ≡ false
not_ended None start n h = refl
not_ended (Some order) start zero h = absurd (omega arith)
not_ended (Some order) start (suc n) h = refl

cut_in_body : (p : Place) (bytes : List ℕ) → 8 ≤ length bytes → cut_block p bytes ≡ short_at BlockBody (p.start + 8)
cut_in_body p bytes h = grind (arith, nat_tests)

pub cut_body : (p : Place) (bytes : List ℕ) → p.stage ≡ stage.Block → 8 ≤ length bytes → cut_short p bytes ≡ ends (Some (short_at BlockBody (p.start + 8)))
cut_body p bytes is h = rw (is, not_ended p.order p.start (length bytes) (omega arith), cut_in_body p bytes h) refl

pub at_block_rows : (p : Place) (bytes : List ℕ) → p.stage ≡ stage.Block → refusal_here p bytes ≡ first_refused p.start (length bytes) (block_rows (kind_at p.order bytes) p.order p.interfaces bytes)
unfolding refusal_here block_refused
at_block_rows p bytes is = rw is refl

pub at_block : (p : Place) (bytes : List ℕ) → p.stage ≡ stage.Block → refusal_here p bytes ≡ block_refused p.order p.interfaces p.start bytes
unfolding refusal_here
at_block p bytes is = rw is refl

pub size_at_block : (p : Place) (bytes : List ℕ) → p.stage ≡ stage.Block → size_here p bytes ≡ size_of_any p.order bytes
unfolding size_here
size_at_block p bytes is = rw is refl

pub next_at_block : (p : Place) (bytes : List ℕ) → p.stage ≡ stage.Block → next_place p bytes ≡ after_any p bytes
unfolding next_place
next_at_block p bytes is = rw is refl

pub none_in_block : (s : Stage) (packet : Option Record) → s ≡ stage.Block → packet_by s packet ≡ None
none_in_block s packet is = rw is refl
