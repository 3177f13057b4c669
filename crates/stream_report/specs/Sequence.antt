-- The numbers of a stream's packets. A talker gives its packets successive numbers without an upper limit. A packet's
-- sequence number is its number modulo 256. A stream is described by the number of the packet that arrives first, and
-- by a list of the numbers of all later packets. The list begins with the number of the packet that arrived last.
use Rattle.std.specs.Prelude.{◌≡◌, ℕ, zero, suc, ◌+◌, ◌-◌, ◌%◌, ◌≤◌, ◌<◌, ◌==◌, ◌||◌, max, min, nat_lt, Bool, if◌then◌else◌, List, [], ◌∷◌, length, ◌^◌}
use Rattle.std.specs.Int.{bit_at}
use Rattle.std.specs.List.{list_any}
use Rattle.stream_report.specs.declared.sequence.Place.{Place}
use Rattle.stream_report.specs.declared.sequence.Place.TheVariants.{Ahead, Late, Early, Repeat}
use Rattle.stream_report.specs.declared.sequence.Window.{Window}
use Rattle.stream_report.specs.declared.order.Order.{Order}

-- how far the sequence number `seq` is ahead of the newest; the result is from 1 to 256
abbrev pub ahead_of : ℕ → ℕ → ℕ
ahead_of newest seq = (seq + 255 - newest) % 256 + 1

-- the greatest of the packets' numbers
abbrev pub greatest : ℕ → List ℕ → ℕ
greatest first [] = first
greatest first (number ∷ later) = max number (greatest first later)

-- whether the packet with this number has arrived
abbrev pub has_come : ℕ → List ℕ → ℕ → Bool
has_come first later number = first == number || list_any (λ come. come == number) later

-- The place of the next packet, given the packet's number. If the number is ahead of all others, the place says how
-- many numbers the packet skips. Otherwise the packet is a repeat, or it is late because its number was skipped, or its
-- number is before the first packet's number.
abbrev pub place_of : ℕ → List ℕ → ℕ → Place
place_of first later number =
    if nat_lt (greatest first later) number then Ahead (number - greatest first later - 1) else
    if has_come first later number then Repeat else
    if nat_lt number first then Early else Late

-- how many of the `count` successive numbers from `first` on have not arrived
abbrev pub missing_among : ℕ → List ℕ → ℕ → ℕ
missing_among first later zero = 0
missing_among first later (suc count) = missing_among first later count + (if has_come first later (first + count) then 0 else 1)

-- the number of lost packets: how many of the numbers from the first packet's number to the greatest number have not
-- arrived
abbrev pub lost : ℕ → List ℕ → ℕ
lost first later = missing_among first later (greatest first later - first)

-- The count of lost packets after one more packet, which has this place. If the place is `Ahead`, the count grows by
-- the number of packets that are missing before the new packet. If the place is `Late`, the count falls by one.
-- Otherwise the count does not change.
abbrev pub lost_with : ℕ → Place → ℕ
lost_with before (Ahead missing) = before + missing
lost_with before Late = before - 1
lost_with before Early = before
lost_with before Repeat = before

-- how many packets have a number that had arrived before
abbrev pub repeats : ℕ → List ℕ → ℕ
repeats first [] = 0
repeats first (number ∷ later) = repeats first later + (if has_come first later number then 1 else 0)

-- How many packets are late. A packet is late if two things hold: a packet with a greater number arrived before it, and
-- no packet with the same number arrived before it.
abbrev pub late : ℕ → List ℕ → ℕ
late first [] = 0
late first (number ∷ later) = late first later + (if nat_lt (greatest first later) number then 0 else if has_come first later number then 0 else 1)

-- the number of packets missing in the longest gap, as counted when the packet after that gap arrived
abbrev pub most_passed : ℕ → List ℕ → ℕ
most_passed first [] = 0
most_passed first (number ∷ later) = max (most_passed first later) (number - greatest first later - 1)

-- `number` exceeds the greatest number by at most 192, or is one of the 64 numbers up to and including the greatest.
-- The packet's sequence number therefore determines `number`.
pub record Follows (first : ℕ) (later : List ℕ) (number : ℕ) : Type 0 where
  pub most : number ≤ greatest first later + 192
  pub least : greatest first later < number + 64

-- `number` exceeds the greatest number, by at most 256
pub record Passes (first : ℕ) (later : List ℕ) (number : ℕ) : Type 0 where
  pub ahead : greatest first later < number
  pub most : number ≤ greatest first later + 256

-- the greatest number exceeds `number` by `behind`, which is at most 63
pub record Returns (first : ℕ) (later : List ℕ) (number behind : ℕ) : Type 0 where
  pub place : number + behind ≡ greatest first later
  pub near : behind < 64

-- A window describes the packets of a stream. The window holds the greatest number modulo 256. The window knows which
-- of the 64 numbers up to and including the greatest have arrived. The window also knows how far the first number is
-- before the greatest, up to 64.
pub record StandsFor (window : Window) (first : ℕ) (later : List ℕ) : Type 0 where
  pub newest : window.newest ≡ greatest first later % 256
  pub came : (number behind : ℕ) → Returns first later number behind → (bit_at window.came behind == 1) ≡ has_come first later number
  pub begin : window.begin ≡ min 64 (greatest first later - first)

-- the greatest number and the number of packets are below 2^64
pub record Few (first : ℕ) (later : List ℕ) : Type 0 where
  pub numbers : greatest first later < 2 ^ 64
  pub packets : length later < 2 ^ 64

-- The window of `order` describes a stream's packets. The counts of `order` are right: how many packets are lost,
-- repeated and late, and how many are missing in the longest gap, as counted when the packet after that gap arrived.
pub record CountsOf (order : Order) (first : ℕ) (later : List ℕ) : Type 0 where
  pub window : StandsFor order.window first later
  pub lost : order.lost.count ≡ lost first later
  pub most_lost : order.most_lost ≡ most_passed first later
  pub repeated : order.repeated.count ≡ repeats first later
  pub late : order.late.count ≡ late first later

-- `old` becomes `new` by the next packet, whose sequence number is `seq`. The counts are right again, and `result` is
-- the packet's place.
pub record CountsNext (old new : Order) (seq : ℕ) (result : Place) : Type 0 where
  pub counts : (first : ℕ) (later : List ℕ) (number : ℕ) → CountsOf old first later → Follows first later number → number % 256 ≡ seq
      → Few first (number ∷ later) → CountsOf new first (number ∷ later)
  pub place : (first : ℕ) (later : List ℕ) (number : ℕ) → CountsOf old first later → Follows first later number → number % 256 ≡ seq
      → result ≡ place_of first later number

-- `old` becomes `new` by the next packet, whose sequence number is `seq`, and which is ahead of the newest by at most
-- 256. The counts are right again, and `result` packets are missing between the newest packet and the next.
pub record CountsAhead (old new : Order) (seq result : ℕ) : Type 0 where
  pub counts : (first : ℕ) (later : List ℕ) (number : ℕ) → CountsOf old first later → Passes first later number → number % 256 ≡ seq
      → Few first (number ∷ later) → CountsOf new first (number ∷ later)
  pub missing : (first : ℕ) (later : List ℕ) (number : ℕ) → CountsOf old first later → Passes first later number → number % 256 ≡ seq
      → result ≡ number - greatest first later - 1
