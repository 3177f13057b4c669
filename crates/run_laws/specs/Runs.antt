-- Runs of the command, and what a run of `listen` gave to devices.
use Rattle.std.specs.Prelude.{◌≡◌, ℕ, Bool, false, pos, List, Some}
use Rattle.std.specs.List.{range_with_len}
use Rattle.avtp_base.specs.Files.{Files}
use Rattle.avtp_base.specs.States.{ShelfState, SinkState}
use Rattle.capture_io.specs.Formats.{records_in}
use Rattle.sample_schedule.specs.declared.shown.Shown.{Shown}
use Rattle.listener.specs.Headline.{KeepsHeadline}
use Rattle.talk_plan.specs.declared.plan.TalkPlan.{TalkPlan}
use Rattle.talker.specs.Frames.{capture}
use Rattle.talker.specs.Journal.{journal}
use Rattle.talked_presented.specs.Whole.{ArePresented, default_listener}
use Rattle.avtp_words.specs.Grammar.{IsCommandLine, Request}
use Rattle.run_report.specs.declared.status.Status.{Status}
use Rattle.avtp_tool.specs.HasRun.{HasRun, ReadsAll}

-- A run with these words ended with the status `ended`. All that is known of the run is what `run` promises of one
-- request, namely `HasRun` with these `handed`, `still` and `failed`. No read fault occurred. The shelf shows its
-- files: `files` before the run and `files'` after it.
pub record Ran (words : List (List ℕ)) (handed : List Shown → Type 0) (still : Type 0) (failed : Bool) (files files' : Files) (ended : Status) : Type 0 where
  pub shelf : ShelfState
  pub shelf' : ShelfState
  pub out : SinkState
  pub out' : SinkState
  pub promised : (request : Request) → IsCommandLine words request → HasRun request handed still failed shelf shelf' out out' ended
  pub told : shelf.files ≡ Some files
  pub told_after : shelf'.files ≡ Some files'
  pub read : ReadsAll shelf shelf'

-- The devices got the items that a listener shows of a capture of the plan, and `KeepsHeadline` holds for these items.
-- The listener presents the packets `packets` or, for H.264, the NAL units that these packets complete. Each packet or
-- NAL unit is presented once, in order, with its bytes and at its instants. Nothing else is shown.
pub record GaveAll (plan : TalkPlan) (input packets : List ℕ) (handed : List Shown → Type 0) : Type 0 where
  pub items : List Shown
  pub given : handed items
  pub headline : KeepsHeadline (pos 0) (journal plan input) (default_listener plan.id) (records_in (capture plan input)) items
  pub all : ArePresented false (journal plan input) packets items

-- the numbers of all packets of the plan's stream, in order
abbrev pub each_packet : TalkPlan → List ℕ → List ℕ
each_packet plan input = range_with_len 0 (journal plan input).times.packets
