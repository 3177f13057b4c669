-- The media clock of a talker: the packets that carry its reference timestamps (IEEE 1722-2016, 10), and which points
-- are adjacent in the list of all points.
use Rattle.std.specs.Prelude.{◌≡◌, ◌⊎◌, ℕ, suc, ◌*◌, ◌%◌, ◌<◌, Bool, false, pos, List, [], length, get_or}
use Rattle.clock_track.specs.declared.pair.Pair.{Pair}
use Rattle.clock_track.specs.PairLines.{IsJoined, pull_down, pull_up}

-- The packets of a clock, counted from 0, and their points. A point is a timestamp plus what the listener adds to it.
-- All packets have one base frequency in Hz, one pull and one interval. Each change of `mr` begins a new run of the
-- clock.
pub record ClockJournal : Type 0 where
  pub base : ℕ
  pub pull : ℕ
  pub interval : ℕ
  pub packets : ℕ
  pub points : ℕ → List ℕ
  pub mr : ℕ → Bool

-- the clock journal of a talker without a clock
abbrev pub no_clock : ClockJournal
no_clock = record { base = 1; pull = 0; interval = 1; packets = 0; points = λ n. []; mr = λ n. false }

-- the position of a point: its packet, and its index in the packet, both counted from 0
pub record Place : Type 0 where
  pub packet : ℕ
  pub at : ℕ

-- a point has this position: the clock has the packet, and the packet has a point at the index
pub record IsPlace (c : ClockJournal) (p : Place) : Type 0 where
  pub packet : p.packet < c.packets
  pub at : p.at < length (c.points p.packet)

-- the point at a position
abbrev pub point : ClockJournal → Place → ℕ
point c p = get_or (c.points p.packet) p.at 0

-- q is the position after p: the next index in the same packet or, if p is the packet's last point, index 0 of the next
-- packet
abbrev pub IsNext : ClockJournal → Place → Place → Type 0
IsNext c p q =
    ((q.packet ≡ p.packet) × (q.at ≡ suc p.at))
    ⊎ ((q.packet ≡ suc p.packet) × (q.at ≡ 0) × (suc p.at ≡ length (c.points p.packet)))

-- p and q are positions of points, and q is the position after p in the list of all points
pub record Follows (c : ClockJournal) (p q : Place) : Type 0 where
  pub first : IsPlace c p
  pub second : IsPlace c q
  pub next : IsNext c p q

-- The packets of p and q have the same `mr`. If p and q are positions of adjacent points, these points are in one run.
abbrev pub InOneRun : ClockJournal → Place → Place → Type 0
InOneRun c p q = c.mr p.packet ≡ c.mr q.packet

-- The pair of the points at two positions, with the number of events between timestamps. The quotient of `up` and
-- `down` is the clock's frequency: its base frequency times the factor of its pull (IEEE 1722-2016, 10).
abbrev pub pair_at : ClockJournal → Place → Place → Pair
pair_at c p q = record {
  earlier = pos (point c p);
  later = pos (point c q);
  interval = c.interval;
  up = c.base * pull_up c.pull;
  down = pull_down c.pull;
}

-- p and q are adjacent positions of one run, and the points there are joined
pub record IsJoinedAt (c : ClockJournal) (p q : Place) : Type 0 where
  pub follows : Follows c p q
  pub one_run : InOneRun c p q
  pub joined : IsJoined (pair_at c p q)

-- A listener considers the points at p and q adjacent. Either the two points are adjacent in one packet, or p is the
-- last point of a packet and q is the first point of another packet. If p and q are in different packets, the sequence
-- number of q's packet is the successor of the sequence number of p's packet.
abbrev pub SeemNext : ClockJournal → Place → Place → Type 0
SeemNext c p q =
    ((q.packet ≡ p.packet) × (q.at ≡ suc p.at))
    ⊎ ((q.packet % 256 ≡ suc p.packet % 256) × (q.at ≡ 0) × (suc p.at ≡ length (c.points p.packet)))

-- a listener joins the points at p and q if it has copies of their packets
pub record SeemsJoined (c : ClockJournal) (p q : Place) : Type 0 where
  pub first : IsPlace c p
  pub second : IsPlace c q
  pub next : SeemNext c p q
  pub one_run : InOneRun c p q
  pub joined : IsJoined (pair_at c p q)
