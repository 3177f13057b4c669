-- Two listeners that have the same plan, and the differences between what they present. Each listener is fed the bytes
-- of one capture.
use Rattle.std.specs.Prelude.{◌≡◌, ◌↔◌, ℕ, ◌+◌, ◌^◌, ◌≤◌, true, false, List, [], ◌++◌, length, slice_get, take, Option, Some, None, Result, Err, IfNone, IfOk, option_map}
use Rattle.std.specs.Option.{option_to_list}
use Rattle.std.specs.Result.{result_err}
use Rattle.avtp_base.specs.declared.refusal.Refusal.{Refusal}
use Rattle.pcap_frames.specs.Capture.{first_refusal}
use Rattle.pcap_frames.specs.Layout.{certain}
use Rattle.pcap_frames.specs.Reading.{taken}
use Rattle.listener.specs.declared.listener.ListenFault.{ListenFault}
use Rattle.listener.specs.declared.listener.ListenFault.TheVariants.{Refused, Memory}
use Rattle.listener.specs.declared.plan.ListenPlan.{ListenPlan}
use Rattle.listener.specs.Feeding.{Feeding, Keeps as KeepsFed, StandsFor as IsFed, bytes_after, is_ended, is_memory, out, work}
use Rattle.listener.specs.Laws.{presented_of}
use Rattle.listener_pair.specs.declared.difference.Difference.{Difference}
use Rattle.listener_pair.specs.declared.difference.Which.{Which}
use Rattle.listener_pair.specs.declared.difference.Which.TheVariants.{A, B}
use Rattle.listener_pair.specs.Differences.{differences}
use Rattle.listener_pair.specs.Merged.{Sided, known, merged}
use Rattle.listener_pair.specs.Matching.{IsIdle, MatchingState, nexts_left, wanted}
use Rattle.capture_pair.specs.Pairing.{Pairs}

-- Two listeners that are fed, and the matching of what they present.
pub record FedPair : Type 0 where
  pub a : Feeding
  pub b : Feeding
  pub matching : MatchingState

-- the listener of a side
abbrev pub fed_of : Which → FedPair → Feeding
fed_of A pair = pair.a
fed_of B pair = pair.b

-- the bytes of a side: `bytes` for A, and `others` for B
abbrev pub bytes_of : Which → List ℕ → List ℕ → List ℕ
bytes_of A bytes others = bytes
bytes_of B bytes others = others

-- The side that must be fed or ended next. A side qualifies if it has not ended and has no next batch. If both sides
-- qualify, the result is A. If no side qualifies, the result is `None`.
abbrev pub wanted_by : FedPair → Option Which
wanted_by pair = wanted pair.matching

-- Both listeners have this plan.
pub record HavePlan (plan : ListenPlan) (pair : FedPair) : Type 0 where
  pub a : pair.a.listener.plan ≡ plan
  pub b : pair.b.listener.plan ≡ plan

-- Both captures have at most 2^62 bytes.
pub record AreShort (bytes others : List ℕ) : Type 0 where
  pub a : length bytes ≤ 2 ^ 62
  pub b : length others ≤ 2 ^ 62

-- The known part of the merged list of both listeners' batches, after A was fed `bytes` and B was fed `others`. The
-- known part is a prefix of the merged list, and no later bytes can change this prefix.
abbrev pub known_by : FedPair → List ℕ → List ℕ → List Sided
known_by pair bytes others = known (is_ended pair.a) (is_ended pair.b) (merged (presented_of (out pair.a bytes)) (presented_of (out pair.b others)))

-- A was fed `bytes`, and B was fed `others`. The pair has returned the first differences of the known part; `given` is
-- the number of these differences.
abbrev pub StandsFor : List ℕ → List ℕ → ℕ → FedPair → Type 0
StandsFor bytes others given pair = Pairs (λ list n. IsFed bytes n pair.a) (λ list n. IsFed others n pair.b) (out pair.a bytes) (out pair.b others) given pair.matching

-- All of the known part was compared. Either the next batch of the merged list depends on what a listener presents
-- later, or both listeners have ended.
abbrev pub IsThrough : FedPair → Type 0
IsThrough pair = IsIdle pair.matching

-- An upper bound on the number of differences that the pair returns before more is fed. The bound counts one for each
-- item that a listener can still show, and one for each next batch.
abbrev pub most_left : FedPair → ℕ
most_left pair = (work pair.a + work pair.b) + nexts_left pair.matching

-- Each listener keeps its plan and its reader. Two more things do not change: whether a listener has ended, and whether
-- a listener has run out of memory.
pub record Keeps (old new : FedPair) : Type 0 where
  pub a : KeepsFed old.a new.a
  pub b : KeepsFed old.b new.b

-- the listener of the side other than `which` is unchanged, except for what it has shown
abbrev pub KeepsOther : Which → FedPair → FedPair → Type 0
KeepsOther A old new = KeepsFed old.b new.b
KeepsOther B old new = KeepsFed old.a new.a

-- ---- calls

-- A new pair of listeners of the plan `settings` was fed no bytes, and side A is wanted.
pub record Begins (settings : ListenPlan) (pair : FedPair) : Type 0 where
  pub stands : StandsFor [] [] 0 pair
  pub plan : HavePlan settings pair
  pub «open» : wanted_by pair ≡ Some A
  pub none_a : taken pair.a.reader ≡ 0
  pub none_b : taken pair.b.reader ≡ 0

-- `answer` is the side that is wanted. The capture of a wanted side has not ended. If no side is wanted, and all of the
-- known part was compared, both captures have ended.
pub record Wants (pair : FedPair) (answer : Option Which) : Type 0 where
  pub wanted : answer ≡ wanted_by pair
  pub «open» : (which : Which) → answer ≡ Some which → is_ended (fed_of which pair) ≡ false
  pub closed : answer ≡ None → IsThrough pair → (is_ended pair.a ≡ true) × (is_ended pair.b ≡ true)

-- What a call of `feed` does with a piece for side `which`. `result` is what the call returns.
pub record Feeds (which : Which) (piece : List ℕ) (old new : FedPair) (result : Result ℕ ListenFault) : Type 0 where
  pub within : IfOk result (λ n. n ≤ length piece)
  -- no byte is taken if and only if the piece is empty
  pub nothing : IfOk result (λ n. (n ≡ 0) ↔ (length piece ≡ 0))
  pub stands_a : which ≡ A → (bytes others : List ℕ) (given : ℕ) → AreShort (bytes_after bytes piece result) others
      → StandsFor bytes others given old → StandsFor (bytes_after bytes piece result) others given new
  pub stands_b : which ≡ B → (bytes others : List ℕ) (given : ℕ) → AreShort bytes (bytes_after others piece result)
      → StandsFor bytes others given old → StandsFor bytes (bytes_after others piece result) given new
  -- if the call succeeds, the bytes so far show no refusal
  pub uncertain : IfOk result (λ n. (bytes others : List ℕ) (given : ℕ) → StandsFor bytes others given old
      → certain (first_refusal (bytes_of which bytes others ++ take n piece)) ≡ None)
  -- a refusal that is returned is the first refusal of the capture, whatever bytes follow
  pub refused : (refusal : Refusal) → result ≡ Err (Refused refusal) → (bytes others more : List ℕ) (given : ℕ)
      → StandsFor bytes others given old → first_refusal ((bytes_of which bytes others ++ piece) ++ more) ≡ Some refusal
  -- once memory has run out for a side, each call returns `Memory`
  pub lasting : (fed_of which old).out_of_memory ≡ true → result ≡ Err Memory
  pub memory : (fed_of which new).out_of_memory ≡ is_memory result
  pub other : KeepsOther which old new
  pub taken : taken (fed_of which new).reader ≤ taken (fed_of which old).reader + length piece

-- The capture of side `which` has ended after the bytes so far, and `result` tells the capture's first refusal. If memory
-- had run out for the side, `result` is `Memory`.
pub record Ends (which : Which) (old new : FedPair) (result : Result Unit ListenFault) : Type 0 where
  pub stands : (bytes others : List ℕ) (given : ℕ) → AreShort bytes others → StandsFor bytes others given old → StandsFor bytes others given new
  pub refused : (fed_of which old).out_of_memory ≡ false → (bytes others : List ℕ) (given : ℕ) → StandsFor bytes others given old
      → result_err result ≡ option_map Refused (first_refusal (bytes_of which bytes others))
  pub ended : (fed_of which old).out_of_memory ≡ false → is_ended (fed_of which new) ≡ true
  pub lasting : (fed_of which old).out_of_memory ≡ true → result_err result ≡ Some Memory
  pub other : KeepsOther which old new

-- The next difference in the known part of the merged list is `difference`. If it is `None`, all of that part was
-- compared.
pub record GivesNext (old new : FedPair) (difference : Option Difference) : Type 0 where
  pub given : (bytes others : List ℕ) (given : ℕ) → AreShort bytes others → StandsFor bytes others given old
      → difference ≡ slice_get (differences (known_by old bytes others)) given
  pub stands : (bytes others : List ℕ) (given : ℕ) → AreShort bytes others → StandsFor bytes others given old
      → StandsFor bytes others (given + length (option_to_list difference)) new
  pub through : IfNone difference (IsThrough new)
  pub keeps : Keeps old new
  pub less : most_left new + length (option_to_list difference) ≤ most_left old
