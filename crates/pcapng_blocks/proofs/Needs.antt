-- How many bytes of a block or an option must be taken before more is known of it.
use Rattle.std.proofs.Common.{◌≡◌, ℕ, ◌+◌, ◌-◌, ◌≤◌, ◌<◌, nat_lt, if◌then◌else◌, List, ◌++◌, length, take, min, Option, None, refl, ap, arith, inl, inr, length-append}
use Rattle.std.proofs.lemmas.Bool.{cases_lt}
use Rattle.std.proofs.lemmas.List.{length-take-le}
use Rattle.std.proofs.lemmas.Bool.Decides.{nat_tests}
use Rattle.pcap_frames.specs.declared.style.Order.{Order}
use Rattle.pcap_frames.specs.Layout.{number_at}
use Rattle.pcap_frames.proofs.Append.{number_stays}
use Rattle.pcapng_blocks.specs.declared.block.Kind.{Kind}
use Rattle.pcapng_blocks.specs.declared.block.Kind.TheVariants as kind
use Rattle.pcapng_blocks.specs.declared.interface.Interface.{Interface}
use Rattle.pcapng_blocks.specs.Fields.{first_refused, padded}
use Rattle.pcapng_blocks.specs.Blocks.{kind_at, order_at, kind_rows, block_refused, block_size, size_of_any, order_or_little}
use Rattle.pcapng_blocks.specs.state.Needs.{block_need, head_need, option_need, value_need}
use Rattle.pcapng_blocks.proofs.Blocks.{kind_stays}
use Rattle.pcapng_blocks.proofs.Options.{need_of_four, need_whole}
use Rattle.pcapng_blocks.proofs.Heads.{kind_accepted}

head_eight : (k : Kind) (order : Order) (bytes : List ℕ) → 8 ≤ head_need k order bytes
head_eight kind.Section order bytes = omega arith
head_eight kind.Interface order bytes = omega arith
head_eight kind.Packet order bytes = grind (arith, nat_tests)
head_eight kind.Other order bytes = omega arith

need_short : (order : Option Order) (bytes : List ℕ) → length bytes < 8 → block_need order bytes ≡ 8
unfolding block_need
need_short order bytes h = grind (arith, nat_tests)

need_long : (order : Option Order) (bytes : List ℕ) → 8 ≤ length bytes → block_need order bytes ≡ head_need (kind_at order bytes) (order_or_little order) bytes
unfolding block_need
need_long order bytes h = grind (arith, nat_tests)

pub need_eight : (order : Option Order) (bytes : List ℕ) → 8 ≤ block_need order bytes
need_eight order bytes = elim (cases_lt (length bytes) 8) [
  | inl short ↦ omega (arith, need_short order bytes short)
  | inr long ↦ omega (arith, need_long order bytes long, head_eight (kind_at order bytes) (order_or_little order) bytes)
]

packet_keeps : (order : Order) (bytes more : List ℕ) → length more ≤ head_need kind.Packet order bytes - length bytes → length bytes < head_need kind.Packet order bytes → length (bytes ++ more) ≤ head_need kind.Packet order (bytes ++ more)
packet_keeps order bytes more room h = grind (arith, nat_tests, length-append bytes more, number_stays order 20 4 bytes more)

head_keeps : (k : Kind) (order : Order) (bytes more : List ℕ) → length more ≤ head_need k order bytes - length bytes → length bytes < head_need k order bytes → length (bytes ++ more) ≤ head_need k order (bytes ++ more)
head_keeps kind.Section order bytes more room h = omega (arith, length-append bytes more)
head_keeps kind.Interface order bytes more room h = omega (arith, length-append bytes more)
head_keeps kind.Packet order bytes more room h = packet_keeps order bytes more room h
head_keeps kind.Other order bytes more room h = omega (arith, length-append bytes more)

pub block_keeps : (order : Option Order) (bytes more : List ℕ) → length bytes < block_need order bytes → length more ≤ block_need order bytes - length bytes → length (bytes ++ more) ≤ block_need order (bytes ++ more)
block_keeps order bytes more h room = elim (cases_lt (length bytes) 8) [
  | inl short ↦ omega (arith, need_short order bytes short, need_eight order (bytes ++ more), length-append bytes more)
  | inr long ↦
      let here = need_long order bytes long in
      let there = need_long order (bytes ++ more) (omega (arith, length-append bytes more)) in
      let same : head_need (kind_at order (bytes ++ more)) (order_or_little order) (bytes ++ more) ≡ head_need (kind_at order bytes) (order_or_little order) (bytes ++ more) =
      ap (λ (k : Kind). head_need k (order_or_little order) (bytes ++ more)) (kind_stays order bytes more (omega arith)) in
      let keeps = head_keeps (kind_at order bytes) (order_or_little order) bytes more (omega arith) (omega arith) in
      omega arith
]

packet_bound : (order : Order) (interfaces : List Interface) (start : ℕ) (bytes : List ℕ) → first_refused start (length bytes) (kind_rows kind.Packet order interfaces bytes) ≡ None → head_need kind.Packet order bytes ≤ 262172
packet_bound order interfaces start bytes h = grind (arith, nat_tests)

head_bound : (k : Kind) (order : Option Order) (interfaces : List Interface) (start : ℕ) (bytes : List ℕ) → first_refused start (length bytes) (kind_rows k (order_at k order bytes) interfaces bytes) ≡ None → head_need k (order_or_little order) bytes ≤ 262172
head_bound kind.Section order interfaces start bytes h = omega arith
head_bound kind.Interface order interfaces start bytes h = omega arith
head_bound kind.Packet order interfaces start bytes h = packet_bound (order_or_little order) interfaces start bytes h
head_bound kind.Other order interfaces start bytes h = omega arith

-- the needed bytes of a block fit the reader's memory
pub block_bound : (order : Option Order) (interfaces : List Interface) (start : ℕ) (bytes : List ℕ) → block_refused order interfaces start bytes ≡ None → block_need order bytes ≤ 262172
block_bound order interfaces start bytes h = elim (cases_lt (length bytes) 8) [
  | inl short ↦ omega (arith, need_short order bytes short)
  | inr long ↦ omega (arith, need_long order bytes long, head_bound (kind_at order bytes) order interfaces start bytes (kind_accepted (kind_at order bytes) order interfaces start bytes refl (omega arith) h))
]

option_short : (order : Order) (bytes : List ℕ) → length bytes < 4 → option_need order bytes ≡ 4
unfolding option_need
option_short order bytes h = grind (arith, nat_tests)

pub option_keeps : (order : Order) (bytes more : List ℕ) → length bytes < option_need order bytes → length more ≤ option_need order bytes - length bytes → length (bytes ++ more) ≤ option_need order (bytes ++ more)
option_keeps order bytes more h room = elim (cases_lt (length bytes) 4) [
  | inl short ↦ omega (arith, option_short order bytes short, need_of_four order (bytes ++ more), length-append bytes more)
  | inr long ↦
      let here = need_whole order bytes long in
      let there = need_whole order (bytes ++ more) (omega (arith, length-append bytes more)) in
      let same = ap value_need (number_stays order 0 2 bytes more (omega arith)) in
      omega (arith, length-append bytes more)
]

pub option_bound : (order : Order) (bytes : List ℕ) → option_need order bytes ≤ 12
unfolding option_need
option_bound order bytes = grind (arith, nat_tests)

captured_fits : (n total : ℕ) → 32 + padded n ≤ total → 28 + n ≤ 28 + (total - 32)
captured_fits n total h = omega arith

packet_lacks : (order : Order) (interfaces : List Interface) (start : ℕ) (bytes : List ℕ) → first_refused start (length bytes) (kind_rows kind.Packet order interfaces bytes) ≡ None → 28 ≤ length bytes → 32 + padded (number_at order 20 4 bytes) ≤ number_at order 4 4 bytes
packet_lacks order interfaces start bytes h long = grind (arith, nat_tests)

past_head : (n m : ℕ) → 28 ≤ n → (if nat_lt n 28 then 28 else 28 + m) ≡ 28 + m
past_head n m h = grind (arith, nat_tests)

packet_size : (order : Order) (interfaces : List Interface) (start : ℕ) (bytes : List ℕ) → first_refused start (length bytes) (kind_rows kind.Packet order interfaces bytes) ≡ None → length bytes < head_need kind.Packet order bytes → length bytes < 28 + (number_at order 4 4 bytes - 32)
packet_size order interfaces start bytes h partial = elim (cases_lt (length bytes) 28) [
  | inl short ↦ omega arith
  | inr long ↦ omega (arith, partial, past_head (length bytes) (number_at order 20 4 bytes) long, captured_fits (number_at order 20 4 bytes) (number_at order 4 4 bytes) (packet_lacks order interfaces start bytes h long))
]

head_lacks : (k : Kind) (order : Option Order) (interfaces : List Interface) (start : ℕ) (bytes : List ℕ) → first_refused start (length bytes) (kind_rows k (order_at k order bytes) interfaces bytes) ≡ None → length bytes < head_need k (order_or_little order) bytes
    → length bytes < block_size k (number_at (order_at k order bytes) 4 4 bytes)
head_lacks kind.Section order interfaces start bytes h partial = omega arith
head_lacks kind.Interface order interfaces start bytes h partial = omega arith
head_lacks kind.Packet order interfaces start bytes h partial = packet_size (order_or_little order) interfaces start bytes h partial
head_lacks kind.Other order interfaces start bytes h partial = omega arith

size_eight : (k : Kind) (total : ℕ) → 8 ≤ block_size k total
size_eight kind.Section total = omega arith
size_eight kind.Interface total = omega arith
size_eight kind.Packet total = omega arith
size_eight kind.Other total = omega arith

-- if needed bytes of an accepted block are missing, the bytes that are present end before the next place
pub block_lacks : (order : Option Order) (interfaces : List Interface) (start : ℕ) (bytes : List ℕ) → block_refused order interfaces start bytes ≡ None → length bytes < block_need order bytes → length bytes < size_of_any order bytes
block_lacks order interfaces start bytes h partial = elim (cases_lt (length bytes) 8) [
  | inl short ↦ omega (arith, size_eight (kind_at order bytes) (number_at (order_at (kind_at order bytes) order bytes) 4 4 bytes))
  | inr long ↦ head_lacks (kind_at order bytes) order interfaces start bytes (kind_accepted (kind_at order bytes) order interfaces start bytes refl (omega arith) h) (omega (arith, need_long order bytes long))
]

-- if a piece completes the needed bytes of a block, these bytes and no others were taken
pub block_came : (order : Option Order) (part piece next : List ℕ) (n : ℕ) → length part < block_need order part → n ≡ min (length piece) (block_need order part - length part) → next ≡ part ++ take n piece → block_need order next ≤ length next
    → (8 ≤ length next) × (length next ≡ block_need order next)
block_came order part piece next n partial is grown came =
    let within : n ≤ length piece = omega (arith, is) in
    let keeps = block_keeps order part (take n piece) partial (omega (arith, length-take-le n piece within, is)) in
    let kept = rw (← grown) at keeps in
    (omega (arith, kept, need_eight order next), omega (arith, kept))

-- if a piece completes the needed bytes of an option, these bytes and no others were taken
pub option_came : (order : Order) (part piece next : List ℕ) (n : ℕ) → length part < option_need order part → n ≡ min (length piece) (option_need order part - length part) → next ≡ part ++ take n piece → option_need order next ≤ length next
    → (4 ≤ length next) × (length next ≡ option_need order next)
option_came order part piece next n partial is grown came =
    let within : n ≤ length piece = omega (arith, is) in
    let keeps = option_keeps order part (take n piece) partial (omega (arith, length-take-le n piece within, is)) in
    let kept = rw (← grown) at keeps in
    (omega (arith, kept, need_of_four order next), omega (arith, kept))
