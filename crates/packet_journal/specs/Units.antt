-- The NAL units that a journal's packets carry, and what is presented of a packet.
use Rattle.std.specs.Prelude.{◌≡◌, ◌⊎◌, ℕ, suc, ◌-◌, ◌<◌, List, [], ◌∷◌, ◌++◌}
use Rattle.std.specs.List.{flat_map, range_with_len}
use Rattle.stream_journal.specs.Journal.{Kind, DenseAaf, SparseAaf, Am824, H264, Part, Single, First, Middle, Last}
use Rattle.packet_journal.specs.Packets.{PacketJournal, PacketView, Pcm, Am824Data, H264Data, carried}

-- Packets `from` to `to` are the fragments of one NAL unit: a first, then only middle ones, then a last (RFC 6184,
-- 5.8).
pub record AreFragments (part : ℕ → Part) (from to : ℕ) : Type 0 where
  pub some : from < to
  pub first : part from ≡ First
  pub middle : (n : ℕ) → from < n → n < to → part n ≡ Middle
  pub last : part to ≡ Last

-- Packets `from` to `to` carry one NAL unit: they are a single packet with the whole unit, or the fragments of the
-- unit.
abbrev pub AreUnit : (ℕ → Part) → ℕ → ℕ → Type 0
AreUnit part from to = ((from ≡ to) × (part to ≡ Single)) ⊎ AreFragments part from to

-- A packet of H.264 carries a NAL unit or a part of one. The result has one element: the first byte of the packet's NAL
-- unit. For a packet of audio, the result is empty.
abbrev pub first_byte : PacketView → List ℕ
first_byte (Pcm v) = []
first_byte (Am824Data v) = []
first_byte (H264Data v) = v.nal ∷ []

-- the bytes of the NAL unit that packets `from` to `to` carry: the unit's first byte, and then what each packet carries
-- after that byte
abbrev pub unit_bytes : PacketJournal → ℕ → ℕ → List ℕ
unit_bytes p from to = first_byte (p.packet from) ++ flat_map (λ n. carried (p.packet n)) (range_with_len from (suc to - from))

-- the bytes `unit` are the NAL unit whose last packet is packet n
pub record IsUnitOf (p : PacketJournal) (part : ℕ → Part) (n : ℕ) (unit : List ℕ) : Type 0 where
  pub from : ℕ
  pub packets : AreUnit part from n
  pub bytes : unit ≡ unit_bytes p from n

-- What is presented of packet n in a stream of this kind: the packet's samples, or the NAL unit that ends with packet
-- n.
abbrev pub IsContentBy : Kind → PacketJournal → ℕ → List ℕ → Type 0
IsContentBy DenseAaf p n bytes = bytes ≡ carried (p.packet n)
IsContentBy SparseAaf p n bytes = bytes ≡ carried (p.packet n)
IsContentBy (Am824 interval dbc) p n bytes = bytes ≡ carried (p.packet n)
IsContentBy (H264 part) p n bytes = IsUnitOf p part n bytes

-- the bytes are what is presented of packet n: the packet's samples, or the NAL unit that ends with packet n
abbrev pub IsContent : PacketJournal → ℕ → List ℕ → Type 0
IsContent p n bytes = IsContentBy p.times.kind p n bytes
