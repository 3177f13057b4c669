-- The journal of a talker: when each packet is due, and the timestamps that the talker sent. Packets are counted from
-- 0, not modulo 256. Instants are whole nanoseconds of gPTP, not modulo 2^32.
use Rattle.std.specs.Prelude.{◌≡◌, ℕ, ◌-◌, nat_le, if◌then◌else◌, Bool, true, false, ℤ, pos, neg_ℤ, ◌+ℤ◌, Option, Some, None, option_map, option_and_then}
use Rattle.std.specs.Option.{option_or}
use Rattle.time_unfold.specs.declared.head_rule.Distance.{Distance}
use Rattle.time_unfold.specs.declared.head_rule.Head.{Head}
use Rattle.time_unfold.specs.declared.head_rule.HeadRule.{HeadRule}
use Rattle.time_unfold.specs.declared.head_rule.HeadRule.TheVariants.{Own, Eight, Blocks}
use Rattle.time_unfold.specs.Heads.{distance, stamped_index}
use Rattle.time_unfold.specs.Lines.{instant_at, nominal_line}
use Rattle.time_unfold.specs.Stamps.{same_flag}
use Rattle.clock_track.specs.declared.pair.Pair.{Pair}
use Rattle.clock_track.specs.PairLines.{Covers, spot_by}
use Rattle.stream_journal.specs.Clocks.{ClockJournal, IsJoinedAt, Place, pair_at}

-- what a packet of H.264 carries: a whole NAL unit, or the first, a middle or the last fragment of one (RFC 6184)
pub data Part : Type 0 where
  Single : Part
  First : Part
  Middle : Part
  Last : Part

-- The kind of a stream's packets, with the facts that only packets of this kind have.
pub data Kind : Type 0 where
  DenseAaf : Kind
  SparseAaf : Kind
  -- IEC 61883-6, with the SYT interval, and with the block count of each packet's first block, modulo 256
  Am824 : ℕ → (ℕ → ℕ) → Kind
  -- H.264, with the part of a unit that each packet carries
  H264 : (ℕ → Part) → Kind

-- A talker's stream. An audio stream has one nominal rate in Hz, and one count of sample frames or data blocks in each
-- packet. Rate and count have no meaning for H.264.
pub record Journal : Type 0 where
  pub kind : Kind
  pub rate : ℕ
  pub count : ℕ
  -- the number of packets
  pub packets : ℕ
  -- the instant of each packet's first sample, or of its access unit
  pub due : ℕ → ℕ
  -- the instant in a packet's timestamp, if the packet has a timestamp
  pub stamp : ℕ → Option ℕ
  -- the media clock restart bit of each packet
  pub mr : ℕ → Bool
  pub clock : ClockJournal

-- The rule that says how packet n gets its instants from timestamps. A packet of H.264 has its own timestamp or none.
abbrev pub rule_of : Kind → ℕ → HeadRule
rule_of DenseAaf n = Own
rule_of SparseAaf n = Eight
rule_of (Am824 interval dbc) n = Blocks (dbc n) interval
rule_of (H264 part) n = Own

-- ---- the instants of a packet's samples

-- the head of packet n according to its own timestamp; `None` if packet n has no timestamp
abbrev pub own_head : Journal → ℕ → Option Head
own_head j n =
    option_map (λ instant. record { instant = pos instant; first = neg_ℤ (pos (stamped_index (rule_of j.kind n))) }) (j.stamp n)

-- The head of packet n according to the timestamp of an earlier packet, the one that was sent `far.packets` packets
-- before packet n. The result is `None` if the earlier packet does not exist or has no timestamp, or if the two packets
-- have different `mr`.
abbrev pub head_from : Journal → ℕ → Distance → Option Head
head_from j n far =
    if nat_le far.packets n then
    if same_flag (j.mr (n - far.packets)) (j.mr n) then
    option_map (λ instant. record { instant = pos instant; first = pos far.samples }) (j.stamp (n - far.packets))
    else None else None

-- The head of packet n according to its own timestamp. If packet n has no timestamp but is counted from another packet,
-- the head follows from the timestamp of that packet. Suppose that packet n has no timestamp. The result is `None` if
-- there is no packet that packet n is counted from, or if that packet has no timestamp or a different `mr`.
abbrev pub head_of : Journal → ℕ → Option Head
head_of j n = option_or (own_head j n) (option_and_then (head_from j n) (distance (rule_of j.kind n) n j.count))

-- the instant of sample k of a packet with this head, at the nominal rate
abbrev pub nominal_instant : Journal → Head → ℕ → ℤ
nominal_instant j head k = instant_at (nominal_line head.instant j.rate) (head.first +ℤ pos k)

-- the instant of sample k of a packet with this head, according to a pair of the clock's points
abbrev pub instant_by : Pair → Journal → Head → ℕ → ℤ
instant_by pair j head k =
    let spot = spot_by pair j.rate head.instant in
    instant_at spot.line ((spot.from +ℤ head.first) +ℤ pos k)

-- Without a clock, sample k of packet n is at this instant, counted from the packet's head at the nominal rate.
pub record IsAtNominal (j : Journal) (n k : ℕ) (instant : ℤ) : Type 0 where
  pub head : Head
  pub is_head : head_of j n ≡ Some head
  pub at : instant ≡ nominal_instant j head k

-- Sample k of packet n is at this instant according to the clock. A joined pair of the clock's points covers the
-- instant of the packet's head, and the instants of the packet's samples follow from that pair.
pub record IsAtByClock (j : Journal) (n k : ℕ) (instant : ℤ) : Type 0 where
  pub head : Head
  pub is_head : head_of j n ≡ Some head
  pub earlier : Place
  pub later : Place
  pub joined : IsJoinedAt j.clock earlier later
  pub covers : Covers (pair_at j.clock earlier later) j.rate head.instant
  pub at : instant ≡ instant_by (pair_at j.clock earlier later) j head k

-- Sample k of packet n is at this instant in a stream of this kind: according to the clock if the Boolean is true, and
-- at the nominal rate otherwise. A NAL unit of H.264 has one sample. The instant of this sample is the time at which
-- the unit's packets are due.
abbrev pub IsAtBy : Kind → Bool → Journal → ℕ → ℕ → ℤ → Type 0
IsAtBy DenseAaf true j n k instant = IsAtByClock j n k instant
IsAtBy DenseAaf false j n k instant = IsAtNominal j n k instant
IsAtBy SparseAaf true j n k instant = IsAtByClock j n k instant
IsAtBy SparseAaf false j n k instant = IsAtNominal j n k instant
IsAtBy (Am824 interval dbc) true j n k instant = IsAtByClock j n k instant
IsAtBy (Am824 interval dbc) false j n k instant = IsAtNominal j n k instant
IsAtBy (H264 part) by_clock j n k instant = (k ≡ 0) × (instant ≡ pos (j.due n))

-- Sample k of packet n is at this instant for a listener. The Boolean says whether the listener has the clock. An audio
-- packet without a head has no instants. With the clock, a packet also has no instants if no joined pair covers its
-- head.
abbrev pub IsAt : Bool → Journal → ℕ → ℕ → ℤ → Type 0
IsAt by_clock j n k instant = IsAtBy j.kind by_clock j n k instant
