-- When a listener knows the instants of a packet's samples, from the journal and the packets that arrived.
use Rattle.std.specs.Prelude.{◌≡◌, ◌⊎◌, ℕ, ◌+◌, ℤ, Bool, true, List, Contains, None, Some, is_some, option_map}
use Rattle.std.specs.List.{filter_map}
use Rattle.time_unfold.specs.declared.head_rule.Distance.{Distance}
use Rattle.time_unfold.specs.declared.head_rule.Head.{Head}
use Rattle.time_unfold.specs.declared.stamp.Stamp.{Stamp}
use Rattle.time_unfold.specs.Heads.{distance}
use Rattle.time_unfold.specs.Stamps.{last_of}
use Rattle.clock_track.specs.PairLines.{Covers}
use Rattle.stream_journal.specs.Clocks.{ClockJournal, Follows, InOneRun, Place, pair_at}
use Rattle.stream_journal.specs.Delivered.{Copy}
use Rattle.stream_journal.specs.Found.{IsAtHand, IsExpected}
use Rattle.stream_journal.specs.FoundLines.{IsTaken}
use Rattle.stream_journal.specs.Heads.{stamp_at}
use Rattle.stream_journal.specs.Journal.{Journal, head_of, rule_of}

-- the stamps of the packets that arrived, in the order of their arrival; a packet without a timestamp has no stamp
abbrev pub stamps_in : Journal → List ℕ → List Stamp
stamps_in j came = filter_map (λ n. option_map (stamp_at j n) (j.stamp n)) came

-- A copy of a packet without a timestamp can be counted. The copy is counted from another packet, and one of the last
-- `room` timestamps that arrived belongs to that packet. The copied packet is counted from another packet, and there is
-- no restart between the two packets. The copy's arrival plus `lead` differs from the packet's first instant by at most
-- the time of 60 packets.
pub record IsCounted (j : Journal) (lead room : ℕ) (c : Copy) (came : List ℕ) : Type 0 where
  pub none : j.stamp c.number ≡ None
  pub far : Distance
  pub back : distance (rule_of j.kind c.number) c.number j.count ≡ Some far
  pub stamp : Stamp
  pub at_hand : IsAtHand j room c.number far (stamps_in j came) stamp
  pub expected : IsExpected j lead c

-- A copy of a packet has a timestamp, or can be counted from the timestamp of an earlier packet.
abbrev pub IsTimed : Journal → ℕ → ℕ → Copy → List ℕ → Type 0
IsTimed j lead room c came = (is_some (j.stamp c.number) ≡ true) ⊎ IsCounted j lead room c came

-- Two adjacent points of one run of the clock cover the instant. Copies of the points' packets are among the last 64
-- clock packets that arrived. The listener adds `shift` to the clock's timestamps.
pub record IsCoveredBy (c : ClockJournal) (shift : ℤ) (rate : ℕ) (came : List ℕ) (instant : ℤ) : Type 0 where
  pub earlier : Place
  pub later : Place
  pub follows : Follows c earlier later
  pub one_run : InOneRun c earlier later
  pub earlier_taken : IsTaken c shift earlier
  pub later_taken : IsTaken c shift later
  pub earlier_came : Contains (last_of 64 came) earlier.packet
  pub later_came : Contains (last_of 64 came) later.packet
  pub covers : Covers (pair_at c earlier later) rate instant

-- `c` is a copy of an audio packet. A listener got the stream's packets in `came` and the clock's packets in
-- `clock_came`, and knows the instants of the samples of `c`. The conditions are these: the packet has a timestamp, or
-- is counted from one of the last 16 + `look` timestamps that arrived. If the listener has the clock, two of the
-- clock's points also cover the timestamp that the packet carries or is counted from.
pub record IsKnown (by_clock : Bool) (j : Journal) (shift : ℤ) (lead look : ℕ) (c : Copy) (came clock_came : List ℕ) : Type 0 where
  pub timed : IsTimed j lead (look + 16) c came
  pub covered : by_clock ≡ true → (head : Head) → head_of j c.number ≡ Some head → IsCoveredBy j.clock shift j.rate clock_came head.instant
