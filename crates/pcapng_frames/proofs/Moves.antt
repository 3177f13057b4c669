-- How a reader moves from place to place.
use Rattle.std.proofs.Common.{◌≡◌, ℕ, ◌+◌, ◌-◌, ◌≤◌, Bool, false, nat_lt, if◌then◌else◌, List, [], ◌++◌, length, drop, Option, Some, None, refl, sym, ap, ◌∙◌, arith, length-append, append_assoc}
use Rattle.std.proofs.lemmas.Bool.Decides.{nat_tests}
use Rattle.std.proofs.Math.Seq.{drop-append-add}
use Rattle.avtp_base.specs.declared.field.Field.TheVariants.{BlockBody}
use Rattle.avtp_base.specs.declared.refusal.Refusal.{Refusal}
use Rattle.pcap_frames.specs.Capture.{Record}
use Rattle.pcapng_blocks.specs.Blocks.{Place, block_refused, contents, size_here, refusal_here, refused_or, and_then, next_place, packet_by, cut_short, ends, short_at, first_place, after_any, after_block, after_trailer, block_rows, kind_at, next_by, order_or_little, size_of_any, size_of_option, contents_at}
use Rattle.pcap_frames.specs.Readers.{GoesOn}
use Rattle.pcapng_frames.specs.Reading.{contents_past, Reading, HasRead, rest_of, after_all, nothing_read, progress}
use Rattle.pcapng_frames.specs.state.Reading.{Takes, IsPart, place_of}
use Rattle.pcapng_frames.specs.declared.cursor.Cursor.{Cursor}
use Rattle.pcapng_blocks.specs.declared.block.Stage.TheVariants as stage
use Rattle.pcapng_blocks.specs.declared.interface.Interface.{Interface}
use Rattle.pcapng_blocks.specs.state.Needs.{block_need, head_need, option_need, value_need}
use Rattle.pcapng_blocks.proofs.Places.{unroll}
use Rattle.pcapng_blocks.specs.declared.block.Kind.{Kind}
use Rattle.pcap_frames.specs.declared.style.Order.{Order}
use Rattle.pcapng_blocks.proofs.Blocks.{at_block, at_block_rows, block_stays, cut_body, next_at_block, none_in_block, place_stays, size_at_block, size_stays}
use Rattle.pcapng_blocks.proofs.Options.{at_option, at_trailer, cut_option, need_whole, next_at_option, next_at_trailer, next_stays, none_in_option, option_stays, packet_at_trailer, size_at_option, size_at_trailer, size_of_stays, trailer_stays}
use Rattle.std.proofs.lemmas.List.{drop_at}
use Rattle.pcapng_blocks.specs.Fields.{first_refused, option_code}
use Rattle.pcapng_blocks.proofs.Heads.{head_known, packet_known}
use Rattle.pcapng_blocks.specs.state.Fields.{head_size}
use Rattle.pcapng_blocks.specs.declared.block.Kind.TheVariants as kind
use Rattle.pcapng_blocks.proofs.Choices.{long_enough}
use Rattle.pcap_frames.specs.Layout.{number_at}

drop_past : (n : ℕ) (front bytes : List ℕ) → drop (length front + n) (front ++ bytes) ≡ drop n bytes
drop_past n front bytes = drop-append-add front bytes n

less_past : (n : ℕ) (front bytes : List ℕ) → nat_lt (length (front ++ bytes)) (length front + n) ≡ nat_lt (length bytes) n
less_past n front bytes = grind (arith, nat_tests, length-append front bytes)

both_ways : {X : Type 0} (b c : Bool) (x y z w : X) → b ≡ c → x ≡ y → z ≡ w → (if b then x else z) ≡ (if c then y else w)
both_ways b c x y z w e f g = rw (e, f, g) refl

-- if bytes that are to be skipped are taken, fewer bytes remain to be skipped, and nothing else changes
pub passed : (skip : ℕ) (p : Place) (part front more : List ℕ) → length front ≤ skip → contents_past skip p part (front ++ more) ≡ contents_past (skip - length front) p part more
passed skip p part front more h =
    let all : length front + (skip - length front) ≡ skip = omega arith in
    let short : nat_lt (length (front ++ more)) skip ≡ nat_lt (length more) (skip - length front) = ap (nat_lt (length (front ++ more))) (sym all) ∙ less_past (skip - length front) front more in
    let rest : drop skip (front ++ more) ≡ drop (skip - length front) more = ap (λ (n : ℕ). drop n (front ++ more)) (sym all) ∙ drop_past (skip - length front) front more in
    both_ways _ _ _ _ _ _ short refl (ap (λ (bytes : List ℕ). contents_at p (part ++ bytes)) rest)

no_less : (n : ℕ) → nat_lt n 0 ≡ false
no_less n = grind (arith, nat_tests)

pub past_none : (p : Place) (part more : List ℕ) → contents_past 0 p part more ≡ contents_at p (part ++ more)
past_none p part more = rw no_less refl

-- moving `front` from the following bytes to the bytes taken does not change the contents
pub gathered : (p : Place) (part front more : List ℕ) → contents_past 0 p part (front ++ more) ≡ contents_past 0 p (part ++ front) more
gathered p part front more = past_none p part (front ++ more) ∙ (ap (contents_at p) (sym (append_assoc part front more)) ∙ sym (past_none p (part ++ front) more))

-- if all bytes that are read at a place were taken and nothing in them is refused, the reader moves to the next place
pub moves : (p q : Place) (part more : List ℕ) (skip : ℕ) → refusal_here p (part ++ more) ≡ None → size_here p (part ++ more) ≡ length part + skip → next_place p (part ++ more) ≡ q
    → packet_by p.stage p.packet ≡ None → cut_short p (part ++ more) ≡ ends (Some (short_at BlockBody (q.start + 8)))
    → contents_past 0 p part more ≡ contents_past skip q [] more
moves p q part more skip accepted size next none short =
    let size_lt : nat_lt (length (part ++ more)) (size_here p (part ++ more)) ≡ nat_lt (length more) skip = ap (nat_lt (length (part ++ more))) size ∙ less_past skip part more in
    let rest : drop (size_here p (part ++ more)) (part ++ more) ≡ drop skip more = ap (λ (n : ℕ). drop n (part ++ more)) size ∙ drop_past skip part more in
    past_none p part more
    ∙ (unroll p (part ++ more)
    ∙ (ap (λ (x : Option Refusal). refused_or x (if nat_lt (length (part ++ more)) (size_here p (part ++ more)) then cut_short p (part ++ more) else and_then (packet_by p.stage p.packet) (contents_at (next_place p (part ++ more)) (drop (size_here p (part ++ more)) (part ++ more))))) accepted
    ∙ both_ways _ _ _ _ _ _ size_lt short
    (ap (λ (x : Option Record). and_then x (contents_at (next_place p (part ++ more)) (drop (size_here p (part ++ more)) (part ++ more)))) none
    ∙ (ap (λ (x : Place). contents_at x (drop (size_here p (part ++ more)) (part ++ more))) next ∙ ap (contents_at q) rest))))

-- if a field at a place is refused, the contents end at that refusal
pub stops : (p : Place) (part more : List ℕ) (r : Refusal) → refusal_here p (part ++ more) ≡ Some r → contents_past 0 p part more ≡ ends (Some (record { refusal = r; cut = false }))
stops p part more r e = past_none p part more ∙ (unroll p (part ++ more)
    ∙ ap (λ (x : Option Refusal). refused_or x (if nat_lt (length (part ++ more)) (size_here p (part ++ more)) then cut_short p (part ++ more) else and_then (packet_by p.stage p.packet) (contents_at (next_place p (part ++ more)) (drop (size_here p (part ++ more)) (part ++ more))))) e)

start_stays : (k : Kind) (p : Place) (total : ℕ) (bytes : List ℕ) → (after_block k p total bytes).start ≡ p.start
start_stays kind.Section p total bytes = refl
start_stays kind.Interface p total bytes = refl
start_stays kind.Packet p total bytes = refl
start_stays kind.Other p total bytes = refl

head_long : (k : Kind) (order : Order) (bytes : List ℕ) → length bytes ≡ head_need k order bytes → head_size k ≤ length bytes
head_long kind.Section order bytes e = omega arith
head_long kind.Interface order bytes e = omega arith
head_long kind.Packet order bytes e = grind (arith, nat_tests)
head_long kind.Other order bytes e = omega arith

-- if all bytes that are needed of a block were taken and nothing in them is refused, the reader moves to the next place
pub block_moves : (p q : Place) (part more : List ℕ) (skip : ℕ) → p.stage ≡ stage.Block → 8 ≤ length part → length part ≡ block_need p.order part → refusal_here p part ≡ None
    → after_any p part ≡ q → size_of_any p.order part ≡ length part + skip → contents_past 0 p part more ≡ contents_past skip q [] more
block_moves p q part more skip is long whole accepted next size =
    let k = kind_at p.order part in
    let front : head_size k ≤ length part = head_long k (order_or_little p.order) part (head_known k p.order part long whole refl) in
    let packet : k ≡ kind.Packet → 28 + number_at (order_or_little p.order) 20 4 part ≤ length part = λ same. omega (arith, packet_known p.order part long whole same) in
    let start : q.start ≡ p.start = ap (λ (x : Place). x.start) (sym next) ∙ start_stays k p _ part in
    let none : first_refused p.start (length part) (block_rows k p.order p.interfaces part) ≡ None = sym (at_block_rows p part is) ∙ accepted in
    moves p q part more skip
    (at_block_rows p (part ++ more) is ∙ block_stays p.order p.interfaces p.start part more None none (λ e. front))
    (size_at_block p (part ++ more) is ∙ (size_stays p.order part more front ∙ size))
    (next_at_block p (part ++ more) is ∙ (place_stays p part more front packet ∙ next))
    (none_in_block p.stage p.packet is)
    (cut_body p (part ++ more) is (omega (arith, length-append part more)) ∙ ap (λ (n : ℕ). ends (Some (short_at BlockBody (n + 8)))) (sym start))

-- if a field of a block is refused, the contents end at that refusal
pub block_stops : (p : Place) (part more : List ℕ) (r : Refusal) → p.stage ≡ stage.Block → refusal_here p part ≡ Some r → contents_past 0 p part more ≡ ends (Some (record { refusal = r; cut = false }))
block_stops p part more r is e =
    stops p part more r (at_block_rows p (part ++ more) is ∙ block_stays p.order p.interfaces p.start part more (Some r) (sym (at_block_rows p part is) ∙ e) (λ h. absurd (cc)))

-- if all needed bytes of an option were taken and nothing in these bytes is refused, the reader moves to the next place
pub option_moves : (p q : Place) (part more : List ℕ) (skip : ℕ) → p.stage ≡ stage.Option → 4 ≤ length part → length part ≡ option_need (order_or_little p.order) part → refusal_here p part ≡ None
    → next_by stage.Option p part ≡ q → size_of_option (order_or_little p.order) p.left part ≡ length part + skip → contents_past 0 p part more ≡ contents_past skip q [] more
option_moves p q part more skip is long whole accepted next size =
    let order = order_or_little p.order in
    let need : value_need (option_code order part) ≤ length part = omega (arith, need_whole order part long) in
    let start : q.start ≡ p.start = ap (λ (x : Place). x.start) (sym next) in
    moves p q part more skip
    (at_option p (part ++ more) is ∙ option_stays order p.left _ part more None (sym (at_option p part is) ∙ accepted) (λ e. omega arith))
    (size_at_option p (part ++ more) is ∙ (size_of_stays order p.left part more long ∙ size))
    (next_at_option p (part ++ more) is ∙ (next_stays p part more long need ∙ next))
    (none_in_option p.stage p.packet is)
    (cut_option p (part ++ more) is ∙ ap (λ (n : ℕ). ends (Some (short_at BlockBody (n + 8)))) (sym start))

-- if a field of an option is refused, the contents end at that refusal
pub option_stops : (p : Place) (part more : List ℕ) (r : Refusal) → p.stage ≡ stage.Option → refusal_here p part ≡ Some r → contents_past 0 p part more ≡ ends (Some (record { refusal = r; cut = false }))
option_stops p part more r is e =
    stops p part more r (at_option p (part ++ more) is ∙ option_stays (order_or_little p.order) p.left _ part more (Some r) (sym (at_option p part is) ∙ e) (λ h. absurd (cc)))

-- if a trailer is refused, the contents end at that refusal
pub trailer_stops : (p : Place) (part more : List ℕ) (r : Refusal) → p.stage ≡ stage.Trailer → refusal_here p part ≡ Some r → contents_past 0 p part more ≡ ends (Some (record { refusal = r; cut = false }))
trailer_stops p part more r is e =
    stops p part more r (at_trailer p (part ++ more) is ∙ trailer_stays (order_or_little p.order) p.total _ part more (Some r) (sym (at_trailer p part is) ∙ e) (λ h. absurd (cc)))

-- if a trailer was taken and repeats the total length, the block's packet is complete
pub trailer_moves : (p : Place) (part more : List ℕ) → p.stage ≡ stage.Trailer → length part ≡ 4 → refusal_here p part ≡ None → contents_past 0 p part more ≡ and_then p.packet (contents_at (after_trailer p) more)
trailer_moves p part more is whole accepted =
    let bytes : List ℕ = part ++ more in
    let none : refusal_here p bytes ≡ None = at_trailer p bytes is ∙ trailer_stays (order_or_little p.order) p.total _ part more None (sym (at_trailer p part is) ∙ accepted) (λ e. omega arith) in
    past_none p part more
    ∙ (unroll p bytes
    ∙ (ap (λ (x : Option Refusal). refused_or x (if nat_lt (length bytes) (size_here p bytes) then cut_short p bytes else and_then (packet_by p.stage p.packet) (contents_at (next_place p bytes) (drop (size_here p bytes) bytes)))) none
    ∙ (long_enough (length bytes) (size_here p bytes) _ _ (omega (arith, size_at_trailer p bytes is, length-append part more))
    ∙ (ap (λ (x : Option Record). and_then x (contents_at (next_place p bytes) (drop (size_here p bytes) bytes))) (packet_at_trailer p.stage p.packet is)
    ∙ (ap (λ (x : Place). and_then p.packet (contents_at x (drop (size_here p bytes) bytes))) (next_at_trailer p bytes is)
    ∙ (ap (λ (n : ℕ). and_then p.packet (contents_at (after_trailer p) (drop n bytes))) (size_at_trailer p bytes is)
    ∙ ap (λ (b : List ℕ). and_then p.packet (contents_at (after_trailer p) b)) (drop_at part more 4 whole)))))))

-- a reader that takes bytes has read them, and has released no packet
pub goes_on : (a b : Reading) (x : List ℕ) → Takes a x b → GoesOn (progress a) x (progress b)
goes_on a b x t bytes records h = record { read = λ more. ap contents (append_assoc bytes x more) ∙ (h.read (x ++ more) ∙ ap (after_all records) (t.same more)) }

-- a reader that has taken nothing has read no bytes
pub read_nothing : (r : Reading) → r ≡ nothing_read → HasRead r [] []
unfolding contents
read_nothing r e = record { read = λ more. rw e (sym (past_none first_place [] more)) }

-- if the reader is before a block and has taken no byte of it, the reader's invariant holds
pub block_begins : (c : Cursor) (interfaces : List Interface) (front part : List ℕ) → c.stage ≡ stage.Block → c.skip ≡ 0 → c.interface ≡ None → c.packet ≡ None → part ≡ [] → IsPart (place_of c interfaces front) c.skip part
unfolding refusal_here block_need block_refused
block_begins c interfaces front part at_block none no_interface no_packet e = rw (at_block, none, no_interface, no_packet, e) (record { accepted = refl; partial = omega arith; ahead = refl; room = tt; free = (refl, refl) })

abbrev pub reading : Place → ℕ → List ℕ → Bool → Option Refusal → Reading
reading p skip part whole refusal = record { place = p; skip = skip; part = part; whole = whole; refusal = refusal }

pub going : (p : Place) (skip : ℕ) (part : List ℕ) (whole : Bool) (refusal : Option Refusal) (more : List ℕ) → refusal ≡ None → whole ≡ false → rest_of (reading p skip part whole refusal) more ≡ contents_past skip p part more
going p skip part whole refusal more none partial = rw (none, partial) refl

pub pass_takes : (p : Place) (skip : ℕ) (part : List ℕ) (whole : Bool) (refusal : Option Refusal) (front : List ℕ) (n : ℕ) → refusal ≡ None → whole ≡ false → length front ≡ n → n ≤ skip → Takes (reading p skip part whole refusal) front (reading p (skip - n) part whole refusal)
pass_takes p skip part whole refusal front n none partial size h = record {
  same = λ more.
      going p skip part whole refusal (front ++ more) none partial
      ∙ (passed skip p part front more (omega arith)
      ∙ (ap (λ (k : ℕ). contents_past (skip - k) p part more) size
      ∙ sym (going p (skip - n) part whole refusal more none partial)));
}
