-- Only private functions and proofs use these definitions. Two captures that are read side by side and
-- compared.
use Rattle.std.specs.Prelude.{◌≢◌, ℕ, IsSome, ◌≡◌, ◌≤◌, List, [], ◌∷◌, None, ◌^◌, false, Some, IsErrOf, Err, IfErr, IfOk, Result, ◌+◌, take, Option, Ok, OnOk, Bool, true, ◌++◌, OnErr, is_some}
use Rattle.avtp_base.specs.declared.failed.FaultPlace.{FaultPlace}
use Rattle.avtp_base.specs.States.{ShelfState, AsksNothing, Asks, SinkState}
use Rattle.capture_io.specs.Source.{slot_of, to_do, HasGivenOf, Sourcing, GivesNext, held_in}
use Rattle.avtp_base.specs.Files.{KeepsFiles, Files, IsMissing}
use Rattle.listener.specs.Listening.{ListenState, is_closed}
use Rattle.capture_pair.specs.Pairing.{StandsFor, HavePlan, PairState, EndsAreClosed, IsThrough, Keeps as KeepsPair, known_by, other_of, Changes}
use Rattle.avtp_base.specs.declared.failed.OpenFault.{OpenFault}
use Rattle.avtp_base.specs.Faults.{FailsAt, HasOneMore, IsOpeningCounted, ReadingFaults}
use Rattle.capture_io.specs.Reads.{OnlyReads}
use Rattle.avtp_base.specs.declared.failed.Failed.{Failed}
use Rattle.avtp_base.specs.Told.{Appends, Keeps}
use Rattle.pcap_frames.specs.Capture.{Record}
use Rattle.listener_pair.specs.declared.difference.Difference.{Difference}
use Rattle.avtp_text.specs.Written.{written, AppendsPrefix}
use Rattle.listener_pair.specs.Differences.{differences, counts_of}
use Rattle.capture_io.specs.declared.end.End.{End}
use Rattle.listener_pair.specs.declared.difference.Which.{Which}
use Rattle.listener_pair.specs.declared.difference.Which.TheVariants.{A, B}
use Rattle.capture_io.specs.Ends.{end_of, EndsAt}
use Rattle.capture_io.specs.Formats.{records_in}
use Rattle.avtp_words.specs.Grammar.{Agreeing}
use Rattle.listener_pair.specs.Merged.{known, merged}
use Rattle.capture_io.specs.declared.end.End.TheVariants as end
use Rattle.avtp_base.specs.declared.failed.OpenFault.TheVariants as open_fault
use Rattle.run_report.specs.Outcome.{KeepsSink}
use Rattle.run_report.specs.Listener.{plan_of}
use Rattle.agree_command.specs.declared.comparing.Comparing.{Comparing}
use Rattle.agree_command.specs.declared.comparing.Side.{Side}
use Rattle.agree_command.specs.Agree.{difference_lines, due_in, presented_in, merged_in}
use Rattle.agree_command.specs.declared.comparing.Step.{Step}
use Rattle.agree_command.specs.declared.comparing.Compared.{Compared}
use Rattle.agree_command.specs.declared.comparing.Ended.{Ended}
use Rattle.agree_command.specs.declared.comparing.Step.TheVariants as step
use Rattle.agree_command.specs.declared.comparing.Compared.TheVariants as compared

-- ---- two open files

-- files are open in the slots `k` and `j`
pub record AreOpen (shelf : ShelfState) (k j : ℕ) : Type 0 where
  pub apart : k ≢ j
  pub a : IsSome (shelf.slots k)
  pub b : IsSome (shelf.slots j)

-- the files of both captures are open
abbrev pub IsOpenAt : ShelfState → Comparing → Type 0
IsOpenAt shelf c = AreOpen shelf (slot_of c.a.source) (slot_of c.b.source)

-- The files in the slots `k` and `j` were read, and are still open. The count of reading faults did not fall. All else
-- is unchanged, and no name was asked for.
pub record ReadsTwo (before after : ShelfState) (k j : ℕ) : Type 0 where
  pub files : KeepsFiles before.files after.files
  pub live : AreOpen after k j
  pub others : (i : ℕ) → i ≢ k → i ≢ j → after.slots i ≡ before.slots i
  pub reading : before.reading_faults.count ≤ after.reading_faults.count
  pub writing : after.writing_faults ≡ before.writing_faults
  pub asked : AsksNothing before after

-- The file `a` was opened in slot `k`, and the file `b` in slot `j`. Both slots had been free. The shelf was asked for
-- these two names. All else is unchanged.
pub record OpensSlots (before after : ShelfState) (a b : List ℕ) (k j : ℕ) : Type 0 where
  pub free_a : before.slots k ≡ None
  pub free_b : before.slots j ≡ None
  pub live : AreOpen after k j
  pub files : KeepsFiles before.files after.files
  pub others : (i : ℕ) → i ≢ k → i ≢ j → after.slots i ≡ before.slots i
  pub reading : after.reading_faults ≡ before.reading_faults
  pub writing : after.writing_faults ≡ before.writing_faults
  pub asked : Asks (a ∷ b ∷ []) before after

-- The files in the slots `k` and `j` were closed. All else is unchanged.
pub record ClosesTwo (before after : ShelfState) (k j : ℕ) : Type 0 where
  pub ended_a : after.slots k ≡ None
  pub ended_b : after.slots j ≡ None
  pub others : (i : ℕ) → i ≢ k → i ≢ j → after.slots i ≡ before.slots i
  pub files : KeepsFiles before.files after.files
  pub reading : after.reading_faults ≡ before.reading_faults
  pub writing : after.writing_faults ≡ before.writing_faults
  pub asked : AsksNothing before after

-- ---- opening

-- nothing was read from a capture yet
pub record IsFresh (side : Side) (listener : ListenState) : Type 0 where
  pub going : side.source.ended ≡ None
  pub unended : side.end ≡ None
  pub bounded : to_do side.source ≤ 2 ^ 41
  pub none : listener.counts.frames ≡ 0
  pub listens : is_closed listener ≡ false

-- nothing was read from either capture yet
pub record IsBegun (c : Comparing) : Type 0 where
  pub a : IsFresh c.a c.pair.a
  pub b : IsFresh c.b c.pair.b
  pub stands : StandsFor [] [] 0 c.pair

-- No record was read yet of two captures with the bytes `x` and `y`. Both listeners have the plan that is asked for.
pub record AreUnread (asked : Agreeing) (x y : List ℕ) (shelf : ShelfState) (c : Comparing) : Type 0 where
  pub plans : HavePlan (plan_of asked.listener) c.pair
  pub given_a : HasGivenOf asked.listener.limit x shelf c.a.source []
  pub given_b : HasGivenOf asked.listener.limit y shelf c.b.source []

-- The shelf shows the bytes of both files, and no record of either file was read yet.
pub record AreTold (asked : Agreeing) (files : Files) (shelf : ShelfState) (c : Comparing) : Type 0 where
  pub bytes_a : List ℕ
  pub bytes_b : List ℕ
  pub is_a : files asked.a ≡ Some bytes_a
  pub is_b : files asked.b ≡ Some bytes_b
  pub unread : AreUnread asked bytes_a bytes_b shelf c

-- the file `name` was not opened, for the reason `fault`
pub record Refuses (before after : ShelfState) (name : List ℕ) (fault : OpenFault) : Type 0 where
  pub missing : IsErrOf {T = Sourcing} (Err fault) open_fault.Missing → IsMissing before.files name
  pub counted : IsOpeningCounted {T = Sourcing} before.reading_faults after.reading_faults (Err fault)

-- Either the first file was not opened; or the first file was opened, and then the second file was not opened or memory
-- ran out.
pub data RefusesTwo (before after : ShelfState) (a b : List ℕ) (fault : OpenFault) : Type 0 where
  first : OnlyReads before after (a ∷ []) → Refuses before after a fault → RefusesTwo before after a b fault
  second : ((files : Files) → before.files ≡ Some files → IsSome (files a)) → OnlyReads before after (a ∷ b ∷ []) → Refuses before after b fault → RefusesTwo before after a b fault

-- If the result is `Ok`, both captures were opened, and nothing was read from them yet. With `Err`, one of the captures
-- was not opened, or memory ran out.
pub record OpensTwo (before after : ShelfState) (asked : Agreeing) (result : Result Comparing OpenFault) : Type 0 where
  pub told : IfOk result (λ c. (files : Files) → before.files ≡ Some files → IsSome after.files → AreTold asked files after c)
  pub begun : IfOk result IsBegun
  pub opened : IfOk result (λ c. OpensSlots before after asked.a asked.b (slot_of c.a.source) (slot_of c.b.source))
  pub refused : IfErr result (RefusesTwo before after asked.a asked.b)

-- ---- differences

-- If `result` is `Ok`, all differences that are known by now are printed. If the sink failed at a difference, only the
-- earlier differences are printed.
abbrev pub PrintedAll : List Record → List Record → PairState → List Difference → Option (List ℕ) → Result Unit Failed → Option (List ℕ) → Type 0
PrintedAll records others pair all base (Ok x) now =
    (given : ℕ) × (take given all ≡ all) × StandsFor records others given pair × Appends base now (difference_lines all)
PrintedAll records others pair all base (Err e) now =
    (n : ℕ) × StandsFor records others (n + 1) pair × Appends base now (difference_lines (take n all))

-- All known differences that had not been printed yet are now printed. If the sink failed, only a prefix of these
-- differences was printed.
pub record PrintsDifferences (pair pair' : PairState) (out out' : SinkState) (waits waits' : List ℕ) (result : Result Unit Failed) : Type 0 where
  pub printed : (records others : List Record) (given : ℕ) (base : Option (List ℕ)) → StandsFor records others given pair
      → Appends base (written out.held waits) (difference_lines (take given (differences (known_by pair records others))))
      → PrintedAll records others pair' (differences (known_by pair records others)) base result (written out'.held waits')
  pub through : OnOk result (IsThrough pair')
  pub ends : EndsAreClosed pair'
  pub keeps : KeepsPair pair pair'
  pub sink : KeepsSink out out' result

-- ---- a step

-- the reading ended with a read fault
abbrev pub is_fault : End → Bool
is_fault end.ReadFault = true
is_fault how = false

-- the pair was given the records `mine` of the side `which`, and the records `theirs` of the other side
abbrev pub StandsOn : Which → List Record → List Record → ℕ → PairState → Type 0
StandsOn A mine theirs given pair = StandsFor mine theirs given pair
StandsOn B mine theirs given pair = StandsFor theirs mine given pair

-- The pair took `r`, the next record of the side `which`.
pub record Takes (which : Which) (r : Record) (old new : PairState) : Type 0 where
  pub stands : (mine theirs : List Record) (given : ℕ) → StandsOn which mine theirs given old → StandsOn which (mine ++ r ∷ []) theirs given new
  pub changes : Changes which 1 false old new

-- The pair was told that the side `which` has no more records.
pub record Shuts (which : Which) (old new : PairState) : Type 0 where
  pub stands : (mine theirs : List Record) (given : ℕ) → StandsOn which mine theirs given old → StandsOn which mine theirs given new
  pub changes : Changes which 0 true old new

-- If the step is `Took`, the pair took the record `held`. With `NoMemory`, there was no memory for the record, and the
-- pair is unchanged.
abbrev pub TakesHeld : Which → Option Record → PairState → PairState → Step → Type 0
TakesHeld which held old new step.Took = (r : Record) × (held ≡ Some r) × Takes which r old new
TakesHeld which held old new step.NoMemory = new ≡ old
TakesHeld which held old new other = ⊥

-- One step of reading the capture `which` was done: its next record was given to the pair, there was no memory for this
-- record, or the reading ended.
abbrev pub StepsTo : Which → ShelfState → ShelfState → Side → Side → PairState → PairState → Step → Type 0
StepsTo which shelf shelf' side side' pair pair' step.Took =
    (side'.end ≡ None) × GivesNext shelf shelf' side.source side'.source None × TakesHeld which (held_in side'.source) pair pair' step.Took
StepsTo which shelf shelf' side side' pair pair' (step.Ended how) =
    (side'.end ≡ Some how) × GivesNext shelf shelf' side.source side'.source (Some how) × (how ≢ end.ReadFault) × Shuts which pair pair'
StepsTo which shelf shelf' side side' pair pair' step.Fault =
    (side'.end ≡ Some end.ReadFault) × GivesNext shelf shelf' side.source side'.source (Some end.ReadFault) × (pair' ≡ pair)
StepsTo which shelf shelf' side side' pair pair' step.NoMemory =
    (side'.end ≡ None) × GivesNext shelf shelf' side.source side'.source None × (pair' ≡ pair)

-- With `Ok`, the pending text was written if necessary, and then one step of reading the capture `which` was done. If
-- the result is `Err`, writing the pending text failed, and nothing was read.
pub record ReadsSide (which : Which) (shelf shelf' : ShelfState) (side side' : Side) (pair pair' : PairState) (out out' : SinkState) (waits waits' : List ℕ) (result : Result Step Failed) : Type 0 where
  pub steps : IfOk result (StepsTo which shelf shelf' side side' pair pair')
  pub cut : OnErr result ((shelf' ≡ shelf) × (slot_of side'.source ≡ slot_of side.source))
  pub kept : Keeps (written out.held waits) (written out'.held waits')
  pub sink : KeepsSink out out' result

-- the capture `which`
abbrev pub side_of : Which → Comparing → Side
side_of A c = c.a
side_of B c = c.b

-- One step of reading the capture `which` was done. The other capture is unchanged.
pub record ReadsOn (which : Which) (shelf shelf' : ShelfState) (c c' : Comparing) (out out' : SinkState) (waits waits' : List ℕ) (result : Result Step Failed) : Type 0 where
  pub here : ReadsSide which shelf shelf' (side_of which c) (side_of which c') c.pair c'.pair out out' waits waits' result
  pub other : side_of (other_of which) c' ≡ side_of (other_of which) c

-- ---- two captures, as far as they were compared

-- A capture that is read, and its listener. The listener is closed if and only if the reading has ended. No read fault
-- ended the reading.
pub record IsSideAt (side : Side) (listener : ListenState) : Type 0 where
  pub going : side.end ≡ None → (side.source.ended ≡ None) × (listener.counts.frames + to_do side.source ≤ 2 ^ 41)
  pub closed : is_closed listener ≡ is_some side.end
  pub no_fault : side.end ≢ Some end.ReadFault

-- how much of a capture is still to be read; this number falls with each record and when the reading ends
abbrev pub left_by : Side → Option End → ℕ
left_by side None = to_do side.source + 1
left_by side (Some how) = 0

abbrev pub left_of : Side → ℕ
left_of side = left_by side side.end

-- Two captures were read further, each in the slot where it was opened.
pub record ReadsBoth (shelf shelf' : ShelfState) (old new : Comparing) : Type 0 where
  pub two : ReadsTwo shelf shelf' (slot_of old.a.source) (slot_of old.b.source)
  pub slot_a : slot_of new.a.source ≡ slot_of old.a.source
  pub slot_b : slot_of new.b.source ≡ slot_of old.b.source

-- Two captures were read further, and no read fault was counted.
pub record IsAmidTwo (shelf shelf' : ShelfState) (old new : Comparing) : Type 0 where
  pub reads : ReadsBoth shelf shelf' old new
  pub quiet : shelf'.reading_faults ≡ shelf.reading_faults
  pub a : IsSideAt new.a new.pair.a
  pub b : IsSideAt new.b new.pair.b
  pub plan_a : new.pair.a.plan ≡ old.pair.a.plan
  pub plan_b : new.pair.b.plan ≡ old.pair.b.plan

-- If the reading of the capture has ended, `records` are all its records within the limit. If the reading has not
-- ended, `records` are the records that `source` has given so far.
abbrev pub SideRead : ℕ → List ℕ → ShelfState → Sourcing → Option End → List Record → Type 0
SideRead limit bytes shelf source None records = HasGivenOf limit bytes shelf source records
SideRead limit bytes shelf source (Some how) records = (how ≡ end_of limit bytes) × (records ≡ records_in (take limit bytes))

-- Captures with the bytes `x` and `y` were read up to some point. A prefix of the differences known by then was
-- printed.
pub record IsComparedTo (asked : Agreeing) (x y : List ℕ) (shelf : ShelfState) (c : Comparing) (before now : Option (List ℕ)) : Type 0 where
  pub records_a : List Record
  pub records_b : List Record
  pub given : ℕ
  pub a : SideRead asked.listener.limit x shelf c.a.source c.a.end records_a
  pub b : SideRead asked.listener.limit y shelf c.b.source c.b.end records_b
  pub stands : StandsFor records_a records_b given c.pair
  pub printed : Appends before now (difference_lines (take given (differences (known_by c.pair records_a records_b))))

-- A read fault occurred in one of two captures, after the bytes `prefix`. All differences that are known despite the
-- fault were printed.
pub data IsCutIn (asked : Agreeing) (x y : List ℕ) (fault : FaultPlace → Type 0) (before now : Option (List ℕ)) : Type 0 where
  in_a : (prefix : List ℕ) → EndsAt asked.listener.limit (Some x) fault end.ReadFault prefix
      → Appends before now (difference_lines (differences (known false true (merged (due_in asked prefix) (presented_in asked y))))) → IsCutIn asked x y fault before now
  in_b : (prefix : List ℕ) → EndsAt asked.listener.limit (Some y) fault end.ReadFault prefix
      → Appends before now (difference_lines (differences (known true false (merged (presented_in asked x) (due_in asked prefix))))) → IsCutIn asked x y fault before now

-- The readings of both captures have ended, and all differences between the captures were printed.
pub record HasCompared (asked : Agreeing) (x y : List ℕ) (ended : Ended) (before now : Option (List ℕ)) : Type 0 where
  pub a : ended.a ≡ end_of asked.listener.limit x
  pub b : ended.b ≡ end_of asked.listener.limit y
  pub counts : ended.counts ≡ counts_of (merged_in asked x y)
  pub lines : Appends before now (difference_lines (differences (merged_in asked x y)))

-- the result of comparing two captures with the bytes `x` and `y`, and what the comparison printed
abbrev pub ComparesTo : Agreeing → List ℕ → List ℕ → (FaultPlace → Type 0) → Option (List ℕ) → Option (List ℕ) → Result Compared Failed → Type 0
ComparesTo asked x y fault before now (Ok (compared.Ended ended)) = HasCompared asked x y ended before now
ComparesTo asked x y fault before now (Ok compared.Fault) = IsCutIn asked x y fault before now
ComparesTo asked x y fault before now (Ok compared.NoMemory) = AppendsPrefix before now (difference_lines (differences (merged_in asked x y)))
ComparesTo asked x y fault before now (Err e) = AppendsPrefix before now (difference_lines (differences (merged_in asked x y)))

-- One more reading fault was counted if a read fault stopped the comparison. If no read fault stopped the comparison, the
-- faults are unchanged. If the result is `Ended`, neither reading ended with a read fault.
abbrev pub CountsCompared : Result Compared Failed → ReadingFaults → ReadingFaults → Type 0
CountsCompared (Ok (compared.Ended ended)) before after = (ended.a ≢ end.ReadFault) × (ended.b ≢ end.ReadFault) × (after ≡ before)
CountsCompared (Ok compared.Fault) before after = HasOneMore before after
CountsCompared (Ok compared.NoMemory) before after = after ≡ before
CountsCompared (Err e) before after = after ≡ before

-- both readings have ended, and `ended` is the result of the comparison
pub record EndsCompared (c : Comparing) (ended : Ended) : Type 0 where
  pub a : c.a.end ≡ Some ended.a
  pub b : c.b.end ≡ Some ended.b
  pub counts : (records others : List Record) (given : ℕ) → StandsFor records others given c.pair → ended.counts ≡ counts_of (known_by c.pair records others)

-- Two captures were compared, as far as they could be read, and their differences were printed.
pub record Compares (shelf shelf' : ShelfState) (old new : Comparing) (out out' : SinkState) (waits waits' : List ℕ) (result : Result Compared Failed) : Type 0 where
  pub told : (asked : Agreeing) (x y : List ℕ) → AreUnread asked x y shelf old → ComparesTo asked x y (FailsAt shelf.reading_faults shelf'.reading_faults) (written out.held waits) (written out'.held waits') result
  pub reads : ReadsBoth shelf shelf' old new
  pub counted : CountsCompared result shelf.reading_faults shelf'.reading_faults
  pub sink : KeepsSink out out' result
