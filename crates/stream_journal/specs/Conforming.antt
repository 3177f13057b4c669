-- The rules that a talker keeps. All promises about listeners rest on these rules alone, and each rule is used in a
-- proof. A rule is this project's own if no standard is named.
use Rattle.std.specs.Prelude.{◌≡◌, ◌≢◌, ◌⊎◌, ◌↔◌, ℕ, suc, ◌+◌, ◌*◌, ◌%◌, ◌==◌, ◌<◌, ◌≤◌, nat_lt, Bool, true, ⊤, pos, Some, is_some}
use Rattle.time_unfold.specs.declared.head_rule.Head.{Head}
use Rattle.time_unfold.specs.declared.head_rule.HeadRule.{HeadRule}
use Rattle.time_unfold.specs.declared.head_rule.HeadRule.TheVariants.{Own, Eight, Blocks}
use Rattle.time_unfold.specs.Heads.{stamped_index}
use Rattle.time_unfold.specs.Lines.{instant_at}
use Rattle.clock_track.specs.PairLines.{Covers, IsJoined, IsOfRate, IsSpaced, spot_by}
use Rattle.stream_journal.specs.Clocks.{ClockJournal, Follows, InOneRun, IsJoinedAt, IsPlace, Place, pair_at}
use Rattle.stream_journal.specs.Journal.{Journal, Kind, DenseAaf, SparseAaf, Am824, H264, Part, Single, First, Last, head_of, nominal_instant, rule_of}

-- ---- rules for every stream

-- If the restart bit changes, it keeps the new value for at least 8 packets, or until the stream ends.
abbrev pub HoldsEight : ℕ → (ℕ → Bool) → Type 0
HoldsEight packets mr =
    (n k : ℕ) → mr (suc n) ≢ mr n → k < 8 → suc n + k < packets → mr (suc n + k) ≡ mr (suc n)

-- ---- audio

-- Which packets have a timestamp: all, every eighth, or those with a block whose count is a multiple of the interval.
abbrev pub is_stamped : HeadRule → ℕ → ℕ → Bool
is_stamped Own n count = true
is_stamped Eight n count = n % 8 == 0
is_stamped (Blocks dbc interval) n count = nat_lt (stamped_index (Blocks dbc interval)) count

-- Block counts continue from packet to packet, and the first packet may have any count. The interval is one of the
-- standard's SYT intervals (IEC 61883-6).
pub record BlocksGoOn (interval : ℕ) (dbc : ℕ → ℕ) (count packets : ℕ) : Type 0 where
  pub standard : (interval ≡ 8) ⊎ ((interval ≡ 16) ⊎ (interval ≡ 32))
  pub first : dbc 0 < 256
  pub next : (n : ℕ) → suc n < packets → dbc (suc n) ≡ (dbc n + count) % 256

-- The packets of an AM824 stream continue the count of data blocks (IEC 61883-6). Other kinds have no blocks to count.
abbrev pub HasBlocks : Kind → ℕ → ℕ → Type 0
HasBlocks DenseAaf count packets = ⊤
HasBlocks SparseAaf count packets = ⊤
HasBlocks (Am824 interval dbc) count packets = BlocksGoOn interval dbc count packets
HasBlocks (H264 part) count packets = ⊤

-- From the first instant to the second, at least `quarters` quarters of a packet's time pass. A packet's time is count
-- / rate seconds.
abbrev pub IsApart : Journal → ℕ → ℕ → ℕ → Type 0
IsApart j quarters from to = 4 * (from * j.rate) + quarters * (j.count * 1000000000) ≤ 4 * (to * j.rate)

-- An audio stream: its packets have one kind, one rate and one count, have timestamps as the format says, and are
-- evenly spaced.
pub record IsAudio (j : Journal) : Type 0 where
  -- the rate is from 8,000 to 192,000 Hz, as is each nominal rate that the formats name
  pub rate_from : 8000 ≤ j.rate
  pub rate_to : j.rate ≤ 192000
  pub some : 1 ≤ j.count
  -- packets have timestamps as the format says
  pub stamps : (n : ℕ) → n < j.packets → is_some (j.stamp n) ≡ is_stamped (rule_of j.kind n) n j.count
  pub blocks : HasBlocks j.kind j.count j.packets
  -- at least 3/4 of a packet's time passes from a packet's first sample to the first sample of the next packet
  pub spacing : (n : ℕ) → suc n < j.packets → IsApart j 3 (j.due n) (j.due (suc n))
  -- if a packet has a head, the packet is due at the instant of its first sample
  pub first_instants : (n : ℕ) (head : Head) → n < j.packets → head_of j n ≡ Some head → pos (j.due n) ≡ nominal_instant j head 0

-- ---- H.264

-- the part begins a NAL unit: it is a whole unit or the first fragment of one
abbrev pub Begins : Part → Type 0
Begins part = (part ≡ Single) ⊎ (part ≡ First)

-- the part ends a NAL unit: it is a whole unit or the last fragment of one
abbrev pub Ends : Part → Type 0
Ends part = (part ≡ Single) ⊎ (part ≡ Last)

-- Either each packet has a timestamp, or a packet has one if and only if it ends a NAL unit.
abbrev pub StampsUnits : Journal → (ℕ → Part) → Type 0
StampsUnits j part =
    ((n : ℕ) → n < j.packets → is_some (j.stamp n) ≡ true)
    ⊎ ((n : ℕ) → n < j.packets → (is_some (j.stamp n) ≡ true) ↔ Ends (part n))

-- A stream of H.264. Packets belong to one access unit if and only if they are due at the same instant. If a packet has
-- a timestamp, the timestamp is the instant at which the packet is due.
pub record IsVideo (j : Journal) (part : ℕ → Part) : Type 0 where
  pub stamps : StampsUnits j part
  pub one_instant : (n instant : ℕ) → n < j.packets → j.stamp n ≡ Some instant → instant ≡ j.due n
  -- the fragments of a unit are adjacent packets: a first fragment, then only middle fragments, then a last fragment
  pub first : 1 ≤ j.packets → Begins (part 0)
  pub last : (n : ℕ) → j.packets ≡ suc n → Ends (part n)
  pub beside : (n : ℕ) → suc n < j.packets → Ends (part n) ↔ Begins (part (suc n))
  -- the fragments of a NAL unit belong to one access unit
  pub unit : (n : ℕ) → suc n < j.packets → ¬ Ends (part n) → j.due (suc n) ≡ j.due n
  -- an access unit has at most 255 packets
  pub few : (n m : ℕ) → m < j.packets → j.due n ≡ j.due m → m < n + 255

-- ---- the clock

-- A clock that keeps the rules. Adjacent points of one run are in one packet, or in adjacent packets with equal `mr`. A
-- new run begins with a new packet, whose `mr` differs from that of the packet before it.
pub record IsClock (c : ClockJournal) : Type 0 where
  pub interval : 1 ≤ c.interval
  -- each packet has at least one point
  pub some : (n : ℕ) → n < c.packets → IsPlace c (record { packet = n; at = 0 })
  -- the time from each point to the next is at least 3/4 of the nominal time of the interval, even if the next point
  -- begins a new run
  pub spaced : (p q : Place) → Follows c p q → IsSpaced (pair_at c p q)
  -- the time between adjacent points of a run is 7/8 to 9/8 of the nominal time of the interval
  pub even : (p q : Place) → Follows c p q → InOneRun c p q → IsJoined (pair_at c p q)

-- ---- the clock and the timestamps of an audio stream

-- packet n has the timestamp `instant`, and the joined pair of the points at p and q covers this instant
pub record IsCovered (j : Journal) (n instant : ℕ) (p q : Place) : Type 0 where
  pub known : n < j.packets
  pub stamped : j.stamp n ≡ Some instant
  pub joined : IsJoinedAt j.clock p q
  pub covers : Covers (pair_at j.clock p q) j.rate (pos instant)

-- The clock fits the timestamps of an audio stream. Each timestamp is covered by at most one joined pair. If the
-- clock's frequency is the stream's rate, a covered timestamp is the instant of an event.
pub record AgreesWithClock (j : Journal) : Type 0 where
  -- each timestamp is covered by at most one joined pair of the clock's points
  pub one : (n instant : ℕ) (p q r s : Place) → IsCovered j n instant p q → IsCovered j n instant r s → (p ≡ r) × (q ≡ s)
  -- if the clock's frequency is the stream's rate, a covered timestamp is the instant of an event
  pub exact : (n instant : ℕ) (p q : Place) → IsCovered j n instant p q → IsOfRate (pair_at j.clock p q) j.rate
      → instant_at (spot_by (pair_at j.clock p q) j.rate (pos instant)).line (spot_by (pair_at j.clock p q) j.rate (pos instant)).from ≡ pos instant

-- ---- all rules together

-- the rules for streams of this kind: those of audio and of its clock, or those of H.264
abbrev pub IsOfKind : Kind → Journal → Type 0
IsOfKind DenseAaf j = IsAudio j × AgreesWithClock j
IsOfKind SparseAaf j = IsAudio j × AgreesWithClock j
IsOfKind (Am824 interval dbc) j = IsAudio j × AgreesWithClock j
IsOfKind (H264 part) j = IsVideo j part

-- The talker of this journal keeps the rules.
pub record Conforms (j : Journal) : Type 0 where
  pub kind : IsOfKind j.kind j
  pub holds : HoldsEight j.packets j.mr
  pub clock : IsClock j.clock
