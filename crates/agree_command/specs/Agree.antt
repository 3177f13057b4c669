-- What `agree` prints and how it ends.
use Rattle.std.specs.Prelude.{zero, suc, ℕ, List, flat_map, ◌++◌, ◌==◌, if◌then◌else◌, take, true, false, ◌≡◌, [], ◌∷◌, Some, Option, None, Any, slice_get, ◌^◌, ◌≤◌}
use Rattle.std.specs.List.{AllByRecursion}
use Rattle.listener_pair.specs.declared.difference.Way.{Way}
use Rattle.listener_pair.specs.declared.difference.Way.TheVariants.{Count, At, Bytes}
use Rattle.avtp_text.specs.Agree.{differ_at_line, differ_bytes_line, differ_count_line, end_agree_line}
use Rattle.listener_pair.specs.declared.difference.Difference.{Difference}
use Rattle.listener_pair.specs.declared.difference.PairCounts.{PairCounts}
use Rattle.capture_io.specs.declared.end.End.{End}
use Rattle.capture_io.specs.Formats.{records_in}
use Rattle.sample_schedule.specs.Batches.{Presented}
use Rattle.listener.specs.Heard.{shown_of, due_of, schedule_plan}
use Rattle.listener.specs.Laws.{presented_of, IsOfPacket, by_clock}
use Rattle.avtp_words.specs.Grammar.{Agreeing}
use Rattle.listener_pair.specs.Merged.{Sided, merged, known}
use Rattle.capture_io.specs.Ends.{end_of}
use Rattle.listener_pair.specs.Differences.{counts_of, differences}
use Rattle.avtp_text.specs.Notices.{read_fault_line}
use Rattle.avtp_base.specs.declared.failed.FaultPlace.{FaultPlace}
use Rattle.avtp_base.specs.Files.{Files}
use Rattle.packet_journal.specs.Packets.{PacketJournal}
use Rattle.listener_pair.specs.Pairs.{pairs}
use Rattle.pair_laws.specs.Agreeing.{IsOneOf, IsPairOf}
use Rattle.sample_schedule.specs.Limits.{IsPlan}
use Rattle.capture_io.specs.declared.end.End.TheVariants as end
use Rattle.run_report.specs.Endings.{side_line}
use Rattle.run_report.specs.declared.status.Status.{Status}
use Rattle.run_report.specs.Status.{status_of}
use Rattle.run_report.specs.Listener.{plan_of}
use Rattle.run_report.specs.Yield.{Yield, says}
use Rattle.run_report.specs.RunReport.{Halts, RunReport, ends_unread}
use Rattle.run_report.specs.Halt.{CanHalt, Halt, no_halt, not_opened, stopped_after}
use Rattle.run_report.specs.declared.status.Status.TheVariants as status

-- ---- lines

-- the line of a difference between the batches of frames `a` and `b`, both with sequence number `seq`
abbrev pub way_line : ℕ → ℕ → ℕ → Way → List ℕ
way_line a b seq (Count count_a count_b) = differ_count_line a b seq count_a count_b
way_line a b seq (At sample at_a at_b) = differ_at_line a b seq sample at_a at_b
way_line a b seq (Bytes sample) = differ_bytes_line a b seq sample

-- the line of a difference
abbrev pub difference_line : Difference → List ℕ
difference_line d = way_line d.frame_a d.frame_b d.seq d.way

-- a line for each difference
abbrev pub difference_lines : List Difference → List ℕ
difference_lines list = flat_map difference_line list

-- the line of the counts
abbrev pub counts_line : PairCounts → List ℕ
counts_line counts = end_agree_line counts.matched counts.only_a counts.only_b counts.differ

-- The last lines, given how the readings of A and B ended. If both captures were read to their ends, the last lines are
-- the counts. If a capture was not read to its end, there is a line for this capture. The line for A comes before the
-- line for B.
abbrev pub last_lines : ℕ → PairCounts → End → End → List ℕ
last_lines limit counts end.Whole end.Whole = counts_line counts
last_lines limit counts a b = side_line limit a ++ side_line limit b

-- The status, given the number of differences and how the readings of A and B ended. If both captures were read to
-- their ends, the status says whether there are differences. If A was not read to its end, the status is that of A's
-- reading; if only B was not read to its end, the status is that of B's reading.
abbrev pub agree_status : ℕ → End → End → Status
agree_status found end.Whole end.Whole = if found == 0 then status.Done else status.Findings
agree_status found end.Whole b = status_of b
agree_status found a b = status_of a

-- ---- two captures that are read without a fault

-- what a listener presents from a capture of these bytes, up to the capture's end, a refused field or the limit
abbrev pub presented_in : Agreeing → List ℕ → List Presented
presented_in asked bytes = presented_of (shown_of (plan_of asked.listener) (records_in (take asked.listener.limit bytes)))

-- what a listener presents from two captures, merged into one list
abbrev pub merged_in : Agreeing → List ℕ → List ℕ → List Sided
merged_in asked x y = merged (presented_in asked x) (presented_in asked y)

-- the whole text that `agree` prints of two captures: their differences, then the last lines
abbrev pub compared_text : Agreeing → List ℕ → List ℕ → List ℕ
compared_text asked x y =
    difference_lines (differences (merged_in asked x y))
    ++ last_lines asked.listener.limit (counts_of (merged_in asked x y)) (end_of asked.listener.limit x) (end_of asked.listener.limit y)

-- the status of `agree` for two captures
abbrev pub compared_status : Agreeing → List ℕ → List ℕ → Status
compared_status asked x y =
    agree_status (counts_of (merged_in asked x y)).differ (end_of asked.listener.limit x) (end_of asked.listener.limit y)

-- ---- a read fault

-- what a listener presents by the time it has read `prefix`, the first bytes of a capture
abbrev pub due_in : Agreeing → List ℕ → List Presented
due_in asked prefix = presented_of (due_of (plan_of asked.listener) (records_in prefix))

-- The text of `agree` if a read fault occurs in A after `prefix`, given the bytes `y` of B. The text has the
-- differences that are known from `prefix` and `y`, and the line of the fault.
abbrev pub text_without_a : Agreeing → List ℕ → List ℕ → List ℕ
text_without_a asked prefix y = difference_lines (differences (known false true (merged (due_in asked prefix) (presented_in asked y)))) ++ read_fault_line

-- The text of `agree` if a read fault occurs in B after `prefix`, given the bytes `x` of A. The text has the
-- differences that are known from `x` and `prefix`, and the line of the fault.
abbrev pub text_without_b : Agreeing → List ℕ → List ℕ → List ℕ
text_without_b asked x prefix = difference_lines (differences (known true false (merged (presented_in asked x) (due_in asked prefix)))) ++ read_fault_line

-- ---- a run

-- a run of `agree` that opened both files, ends with this status and prints this text
abbrev pub agreed : Agreeing → Status → List ℕ → RunReport
agreed asked ended text = record { came = asked.a ∷ asked.b ∷ []; ended = ended; yields = says text; made = None }

-- What `agree` does. The two options hold the bytes of A and of B; an option is `None` for a missing file. If A is not
-- opened, B is not asked for.
abbrev pub agree_report : Agreeing → Option (List ℕ) → Option (List ℕ) → Halt → RunReport
agree_report asked None b halt = ends_unread (asked.a ∷ [])
agree_report asked (Some x) b (not_opened zero) = ends_unread (asked.a ∷ [])
agree_report asked (Some x) (Some y) no_halt = agreed asked (compared_status asked x y) (compared_text asked x y)
agree_report asked (Some x) (Some y) (stopped_after zero after) = agreed asked status.ReadFault (text_without_a asked (take after x) y)
agree_report asked (Some x) (Some y) (stopped_after (suc place) after) = agreed asked status.ReadFault (text_without_b asked x (take after y))
agree_report asked (Some x) b halt = ends_unread (asked.a ∷ asked.b ∷ [])

-- ---- two captures of a talker that keeps the rules

-- If two captures are of one talker that keeps the rules, `agree` finds no difference and prints only the last lines,
-- whichever packets are missing from each capture. The two batches of each pair are of the same packet, or for H.264 of
-- the same NAL unit. If a packet or NAL unit is presented from both captures, its two batches form a pair.
pub record HasAgreement (asked : Agreeing) (p : PacketJournal) (x y : List ℕ) (text : List ℕ) : Type 0 where
  pub printed : text ≡ last_lines asked.listener.limit (counts_of (merged_in asked x y)) (end_of asked.listener.limit x) (end_of asked.listener.limit y)
  pub none : (counts_of (merged_in asked x y)).differ ≡ 0
  pub one : AllByRecursion (IsOneOf (by_clock (plan_of asked.listener)) p) (pairs (merged_in asked x y))
  pub paired : (n i k : ℕ) (a b : Presented) → slice_get (presented_in asked x) i ≡ Some a → slice_get (presented_in asked y) k ≡ Some b
      → IsOfPacket (by_clock (plan_of asked.listener)) p n a → IsOfPacket (by_clock (plan_of asked.listener)) p n b → Any (IsPairOf a b) (pairs (merged_in asked x y))

-- the values that the words give to `agree` are within their bounds
pub record IsAgreeing (asked : Agreeing) : Type 0 where
  pub limit : asked.listener.limit ≤ 2 ^ 40
  pub plan : IsPlan (schedule_plan (plan_of asked.listener))

-- what a run of `agree` over these files did, under one of the read faults that are possible
abbrev pub AgreeYields : Agreeing → Files → (FaultPlace → Type 0) → List (List ℕ) → Status → Yield → Type 0
AgreeYields asked files fault came ended yields =
    Halts (CanHalt asked.listener.limit (asked.a ∷ asked.b ∷ []) files fault) (agree_report asked (files asked.a) (files asked.b)) came ended yields None
