-- A copy of a packet must arrive near the packet's instant, so that a listener can tell which instant was sent. The
-- definitions say how near.
use Rattle.std.specs.Prelude.{◌≡◌, ◌⊎◌, ℕ, ◌+◌, ◌*◌, ◌^◌, ◌<◌, ◌≤◌, ⊤, List, [], ◌∷◌, map, All, Some, None}
use Rattle.stream_journal.specs.Journal.{Journal, Kind, DenseAaf, SparseAaf, Am824, H264, First, Middle, Last}

-- A copy of a packet: the packet's number, and the time in nanoseconds of gPTP at which the copy was captured.
pub record Copy : Type 0 where
  pub number : ℕ
  pub arrival : ℕ

-- a copy arrives less than 2^31 ns before the instant, or at most 2^31 ns after it
pub record IsInHalfCircle (instant arrival : ℕ) : Type 0 where
  pub from : instant < arrival + 2 ^ 31
  pub to : arrival ≤ instant + 2 ^ 31

-- the instants x and y differ by less than the time of `times` packets
pub record IsWithin (j : Journal) (times x y : ℕ) : Type 0 where
  pub from : y * j.rate < x * j.rate + times * (j.count * 1000000000)
  pub to : x * j.rate < y * j.rate + times * (j.count * 1000000000)

-- the kind is audio: AAF, sparse or not, or AM824
abbrev pub IsAudioKind : Kind → Type 0
IsAudioKind DenseAaf = ⊤
IsAudioKind SparseAaf = ⊤
IsAudioKind (Am824 interval dbc) = ⊤
IsAudioKind (H264 part) = ⊥

-- A copy of one of the journal's packets arrives near the packet's instant, so a listener can tell which packet was
-- sent. The listener expects packets `lead` nanoseconds before their first instant.
pub record IsDelivered (j : Journal) (lead : ℕ) (c : Copy) : Type 0 where
  pub known : c.number < j.packets
  pub arrival : c.arrival ≤ 2 ^ 62
  pub stamped : (instant : ℕ) → j.stamp c.number ≡ Some instant → IsInHalfCircle instant c.arrival
  -- if an audio packet has no timestamp, the copy's arrival plus `lead` differs from the packet's first instant by less
  -- than the time of 128 packets
  pub unstamped : IsAudioKind j.kind → j.stamp c.number ≡ None → IsWithin j 128 (c.arrival + lead) (j.due c.number)

-- ---- copies of adjacent fragments

-- packet n carries a fragment of a NAL unit (RFC 6184, 5.8)
abbrev pub IsFragment : Kind → ℕ → Type 0
IsFragment DenseAaf n = ⊥
IsFragment SparseAaf n = ⊥
IsFragment (Am824 interval dbc) n = ⊥
IsFragment (H264 part) n = (part n ≡ First) ⊎ ((part n ≡ Middle) ⊎ (part n ≡ Last))

-- If at least one of two fragments of H.264 has no timestamp, the fragments are at most 254 packets apart. Two
-- fragments with the same timestamp need no rule: their access unit has at most 255 packets.
abbrev pub IsNear : Journal → ℕ → ℕ → Type 0
IsNear j n m =
    IsFragment j.kind n → IsFragment j.kind m → ((j.stamp n ≡ None) ⊎ (j.stamp m ≡ None)) →
    (n ≤ m + 254) × (m ≤ n + 254)

-- `IsNear` holds for any two adjacent packets of the list. Let at least one of two adjacent fragments have no
-- timestamp. If the second fragment has the next sequence number modulo 256, it is the packet right after the first.
abbrev pub AreNear : Journal → List ℕ → Type 0
AreNear j [] = ⊤
AreNear j (n ∷ []) = ⊤
AreNear j (n ∷ m ∷ numbers) = IsNear j n m × AreNear j (m ∷ numbers)

-- Copies of a stream's packets reach a listener. Packets can be missing, arrive more than once, and arrive in any
-- order.
pub record AreDelivered (j : Journal) (lead : ℕ) (copies : List Copy) : Type 0 where
  pub each : All (IsDelivered j lead) copies
  pub near : AreNear j (map (λ c. c.number) copies)
