-- What holds for two captures of one talker that keeps the rules.
use Rattle.std.specs.Prelude.{◌≡◌, ◌⊎◌, ℕ, ◌*◌, ◌≤◌, Any, Bool, true, List, [], Some, slice_get}
use Rattle.std.specs.List.{AllByRecursion}
use Rattle.pcap_frames.specs.Capture.{Record}
use Rattle.sample_schedule.specs.Batches.{Presented, is_unit}
use Rattle.stream_journal.specs.Journal.{Am824, DenseAaf, H264, Kind, SparseAaf}
use Rattle.packet_journal.specs.Packets.{PacketJournal}
use Rattle.listener.specs.declared.plan.ListenPlan.{ListenPlan}
use Rattle.listener.specs.Heard.{due_of, shown_of}
use Rattle.listener.specs.Laws.{IsOfJournal, IsOfPacket, presented_of}
use Rattle.listener_pair.specs.declared.placed.Placed.{Placed}
use Rattle.listener_pair.specs.Differences.{differences}
use Rattle.listener_pair.specs.Merged.{Sided, known, merged}
use Rattle.listener_pair.specs.Pairs.{Paired, pairs, unpaired}
use Rattle.capture_pair.specs.Pairing.{HavePlan, PairState, known_by}

-- the spacing of the batch's samples is 7/8 to 9/8 of the nominal spacing at this rate
pub record HasPace (rate : ℕ) (batch : Presented) : Type 0 where
  pub some : 1 ≤ batch.line.den
  pub least : 7000000000 * batch.line.den ≤ 8 * (rate * batch.line.num)
  pub spacing : 8 * (rate * batch.line.num) ≤ 9000000000 * batch.line.den

-- a batch of audio keeps the talker's pace; a batch of H.264 is a unit
abbrev pub KeepsPace : Kind → ℕ → Presented → Type 0
KeepsPace DenseAaf rate batch = HasPace rate batch
KeepsPace SparseAaf rate batch = HasPace rate batch
KeepsPace (Am824 interval dbc) rate batch = HasPace rate batch
KeepsPace (H264 part) rate batch = is_unit batch ≡ true

-- What holds for each batch that a listener presents of the talker. The batch is one packet or unit of the journal,
-- timed by the clock if `by` is true. The batch keeps the talker's pace.
pub record IsPresentedOfTalker (by : Bool) (p : PacketJournal) (batch : Presented) : Type 0 where
  pub is : IsOfJournal by p batch
  pub pace : KeepsPace p.times.kind p.times.rate batch

-- Both batches of the pair are the same packet or unit of the journal.
pub record IsOneOf (by : Bool) (p : PacketJournal) (pair : Paired) : Type 0 where
  pub number : ℕ
  pub earlier : IsOfPacket by p number pair.earlier.batch
  pub later : IsOfPacket by p number pair.later.batch

-- the batch is not packet or unit `number` of the journal
abbrev pub IsOfAnother : Bool → PacketJournal → ℕ → Placed → Type 0
IsOfAnother by p number x = IsOfPacket by p number x.batch → ⊥

-- the pair consists of these two batches, in either order
abbrev pub IsPairOf : Presented → Presented → Paired → Type 0
IsPairOf a b pair = ((pair.earlier.batch ≡ a) × (pair.later.batch ≡ b)) ⊎ ((pair.earlier.batch ≡ b) × (pair.later.batch ≡ a))

-- No pair of the merged list differs. Each pair is of one packet or unit of the journal.
pub record NeverDiffers (by : Bool) (p : PacketJournal) (list : List Sided) : Type 0 where
  pub differ : differences list ≡ []
  pub one : AllByRecursion (IsOneOf by p) (pairs list)

-- Two lists of batches have no differences, and each pair is of one packet or unit of the journal. If both lists have a
-- batch of packet or unit n, the two batches are a pair, and no batch without a pair is of packet or unit n.
pub record PairUp (by : Bool) (p : PacketJournal) (xs ys : List Presented) : Type 0 where
  pub differ : differences (merged xs ys) ≡ []
  pub one : AllByRecursion (IsOneOf by p) (pairs (merged xs ys))
  pub paired : (n i k : ℕ) (a b : Presented) → slice_get xs i ≡ Some a → slice_get ys k ≡ Some b
      → IsOfPacket by p n a → IsOfPacket by p n b → Any (IsPairOf a b) (pairs (merged xs ys))
  pub none_left : (n i k : ℕ) (a b : Presented) → slice_get xs i ≡ Some a → slice_get ys k ≡ Some b
      → IsOfPacket by p n a → IsOfPacket by p n b → AllByRecursion (IsOfAnother by p n) (unpaired (merged xs ys))

-- The known part of two captures has no differences, however far each capture was read. For each capture, the batches
-- are all that are shown, or only those that are certain to be presented.
pub record KnownNeverDiffers (plan : ListenPlan) (records others : List Record) : Type 0 where
  pub pair : (pair : PairState) → HavePlan plan pair → differences (known_by pair records others) ≡ []
  pub due_a : (ended_a ended_b : Bool)
      → differences (known ended_a ended_b (merged (presented_of (due_of plan records)) (presented_of (shown_of plan others)))) ≡ []
  pub due_b : (ended_a ended_b : Bool)
      → differences (known ended_a ended_b (merged (presented_of (shown_of plan records)) (presented_of (due_of plan others)))) ≡ []
  pub shown : (ended_a ended_b : Bool)
      → differences (known ended_a ended_b (merged (presented_of (shown_of plan records)) (presented_of (shown_of plan others)))) ≡ []
