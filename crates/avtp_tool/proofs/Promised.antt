-- If a run did what the words ask for and its text was then written, the command's promise `HasRun` holds for the run.
use Rattle.std.proofs.Common.{◌≡◌, ℕ, ℤ, List, Bool, refl, sym, subst, ◌∙◌, ◌∷◌, ◌++◌, Some, ◌≢◌, [], Result, false, inl, inr, arith}
use Rattle.std.specs.Prelude.{IfOk, IsSome}
use Rattle.avtp_base.specs.declared.failed.FaultPlace.{FaultPlace}
use Rattle.avtp_base.specs.Files.{Files}
use Rattle.packet_journal.specs.Packets.{PacketJournal}
use Rattle.avtp_words.specs.Grammar.{Agreeing, Request, listen, Listening, IsCommandLine, gateway, Turning, output_of}
use Rattle.avtp_words.proofs.Commands.{gateway_id}
use Rattle.avtp_base.specs.declared.failed.Failed.{Failed}
use Rattle.avtp_base.specs.States.{Asks, ShelfState, SinkState}
use Rattle.avtp_text.specs.Written.{Grows, written}
use Rattle.sample_schedule.specs.declared.shown.Shown.{Shown}
use Rattle.avtp_base.specs.Faults.{FailsAt, IsCounted}
use Rattle.avtp_text.proofs.Growth.{grows_further}
use Rattle.avtp_base.proofs.Files.{KeepsFiles-refl}
use Rattle.avtp_base.proofs.Told.{Appends-nil, Keeps-refl}
use Rattle.avtp_text.proofs.Printing.{prefix_none}
use Rattle.avtp_text.specs.Notices.{words_line}
use Rattle.run_report.specs.Yield.{Gives}
use Rattle.run_report.specs.declared.status.Status.{Status}
use Rattle.run_report.specs.Made.{MakesOutput}
use Rattle.run_report.specs.Runs.{Runs}
use Rattle.run_report.proofs.Making.{files_still, part_kept, slots_here}
use Rattle.run_report.specs.Outcome.{EndsWith}
use Rattle.run_report.specs.declared.status.Status.TheVariants as status
use Rattle.listen_command.specs.Listen.{HasHeadline}
use Rattle.listen_command.proofs.Headline.{has_headline}
use Rattle.agree_command.specs.Agree.{HasAgreement, compared_text}
use Rattle.agree_command.proofs.AgreeRun.{has_agreement}
use Rattle.gateway_command.specs.Gateway.{KeepsInput}
use Rattle.gateway_command.proofs.GatewayRun.{keeps_input}
use Rattle.avtp_tool.specs.HasRun.{ComparesTalker, Follows, ReadsAll, Reports, HasRun, RefusesWords}
use Rattle.avtp_tool.specs.Run.{CanEndWith, is_listening, names_of, report_for}
use Rattle.avtp_tool.specs.state.Run.{task_of, Finishes}
use Rattle.run_report.specs.Halt.{Halt, no_halt}
use Rattle.run_report.specs.RunReport.{RunReport, run_of}
use Rattle.avtp_tool.proofs.Halts.{can_end, never_ends_with}
use Rattle.avtp_tool.proofs.Ended.{quiet_not, asks_same, ended_as, not_ended, quiet_if, through_to, asks_nothing, ends_prefix, ends_whole, offence_ends}
use Rattle.avtp_tool.proofs.Finished.{flushed, gains_prefix, rose_later}

-- ---- what is printed

agreement_of : (request : Request) (files : Files) (failed : Bool) (halt : Halt) (asked : Agreeing) (x y : List ℕ) (shift : ℤ) (p : PacketJournal)
    → halt ≡ no_halt → ComparesTalker request files asked x y shift p → HasAgreement asked p x y (report_for request files failed halt).yields.text
agreement_of request files failed halt asked x y shift p none compares =
    let same : (report_for request files failed halt).yields.text ≡ compared_text asked x y = rw (none, compares.compares, compares.told_a, compares.told_b) refl in
    subst (HasAgreement asked p x y) (sym same) (has_agreement asked x y shift p compares.hears_a compares.hears_b)

headline_of : (request : Request) (files : Files) (fault : FaultPlace → Type 0) (failed : Bool) (halt : Halt) → CanEndWith request files fault halt
    → (asked : Listening) (earlier later : List (List ℕ)) (name bytes : List ℕ) → request ≡ listen asked → (report_for request files failed halt).came ≡ earlier ++ name ∷ later → files name ≡ Some bytes
    → HasHeadline asked files fault earlier name bytes (report_for request files failed halt).yields
headline_of request files fault failed halt can asked earlier later name bytes is reached told =
    subst (λ (q : Request). HasHeadline asked files fault earlier name bytes (report_for q files failed halt).yields) (sym is)
    (has_headline asked files fault failed halt earlier later name bytes (subst (λ (q : Request). CanEndWith q files fault halt) is can) (subst (λ (q : Request). (report_for q files failed halt).came ≡ earlier ++ name ∷ later) is reached) told)

kept_of : (words : List (List ℕ)) (request : Request) (files : Files) (fault : FaultPlace → Type 0) (failed : Bool) (halt : Halt) (asked : Turning) (capture : List ℕ) → IsCommandLine words request → CanEndWith request files fault halt → request ≡ gateway asked
    → (report_for request files failed halt).made ≡ Some capture → KeepsInput asked files fault (report_for request files failed halt).ended capture
kept_of words request files fault failed halt asked capture line can same some =
    let says = subst (IsCommandLine words) same line in
    subst (λ (q : Request). KeepsInput asked files fault (report_for q files failed halt).ended capture) (sym same)
    (keeps_input asked files fault halt capture (gateway_id words asked says.0) (subst (λ (q : Request). CanEndWith q files fault halt) same can) (subst (λ (q : Request). (report_for q files failed halt).made ≡ Some capture) same some))

reports_of : (words : List (List ℕ)) {request : Request} {handed : List Shown → Type 0} {failed : Bool} {shelf shelf' : ShelfState} {out mid out' : SinkState} {w w1 w2 : List ℕ} {r : Result Status Failed} {ended : Status}
    → IsCommandLine words request → w ≡ [] → Runs (task_of request) handed failed shelf shelf' out mid w w1 r → Finishes mid out' w1 w2 r ended → Grows out.held out'.held
    → (files : Files) → shelf.files ≡ Some files → IsSome shelf'.files → Reports request files failed handed shelf shelf' out out' ended
reports_of words {request} {handed} {failed} {shelf} {shelf'} {out} {mid} {out'} {w} {w1} {w2} {r} {ended} line none runs finishes grown files told some =
    let so = runs.tells files told some in
    let tells = so.tells in
    let at = tells.outcome in
    let follows : Follows (run_of tells.came tells.ended tells.yields so.made) request handed shelf shelf' out out' ended = record {
      whole = λ memory write.
          let done = finishes.whole write in
          let all = subst (λ (q : Result Status Failed). IfOk q (λ s. s ≢ status.Memory → s ≢ status.WriteFault
          → (s ≡ tells.ended) × Gives handed (written out.held w) (written mid.held w1) tells.yields × Asks tells.came shelf shelf')) done.0 tells.whole memory write in
          let output = subst (λ (q : Result Status Failed). IfOk q (λ s. s ≢ status.Memory → s ≢ status.WriteFault → MakesOutput (output_of request) so.made shelf.files shelf'.files)) done.0 so.whole memory write in
          (all.0, flushed _ _ _ _ _ _ none done.1 all.1.text finishes.kept, all.1.items, all.2, output);
      written = gains_prefix _ _ _ _ _ tells.yields.text none tells.part.text finishes.kept grown;
      items = tells.part.front;
      first = tells.part.first;
      given = tells.part.items;
      begun = so.begun;
    } in
    let complete = λ (quiet : ReadsAll shelf shelf'). never_ends_with request files (FailsAt shelf.reading_faults shelf'.reading_faults) at.0 (quiet_not _ _ quiet) at.1 in
    record {
      halt = at.0;
      possible = at.1;
      complete = complete;
      did = subst (λ (report : RunReport). Follows report request handed shelf shelf' out out' ended) at.2 follows;
      headline = headline_of request files (FailsAt shelf.reading_faults shelf'.reading_faults) failed at.0 at.1;
      agreement = λ quiet asked x y shift p compares. agreement_of request files failed at.0 asked x y shift p (complete quiet) compares;
      kept = λ asked capture same makes. kept_of words request files (FailsAt shelf.reading_faults shelf'.reading_faults) failed at.0 asked capture line at.1 same makes;
    }

-- ---- the command

pub has_run : (words : List (List ℕ)) {request : Request} {handed : List Shown → Type 0} {still : Type 0} {failed : Bool} {shelf shelf' : ShelfState} {out mid out' : SinkState} {w w1 w2 : List ℕ} {r : Result Status Failed} {ended : Status}
    → IsCommandLine words request → w ≡ [] → Runs (task_of request) handed failed shelf shelf' out mid w w1 r → Finishes mid out' w1 w2 r ended → (is_listening request ≡ false → still)
    → HasRun request handed still failed shelf shelf' out out' ended
has_run words {request} {handed} {still} {failed} {shelf} {shelf'} {out} {mid} {out'} {w} {w1} {w2} {r} {ended} line none runs finishes silent =
    let grown = grows_further _ _ _ runs.sink.grows finishes.grows in
    record {
      reports = reports_of words line none runs finishes grown;
      grows = grown;
      files = runs.files;
      slots = runs.slots;
      names = asks_same (names_of request) (through_to finishes) runs.asks;
      devices = record {
        fault = λ is. runs.devices.fault (ended_as status.DeviceFault (λ e. cc) finishes is);
        quiet = λ listens is. runs.devices.quiet listens (ended_as status.Done (λ e. cc) finishes is);
      };
      silent = silent;
      causes = record {
        read = λ is. runs.counts.fault (ended_as status.ReadFault (λ e. cc) finishes is);
        not_read = λ fault write memory. quiet_if ended (finishes.whole write).0 fault memory write runs.counts.quiet;
        write = λ is. elim (finishes.fault is) [
          | inl err ↦ inl (rose_later _ _ _ r err runs.sink.counted finishes.never_falls)
          | inr other ↦ elim other [
            | inl failed ↦ inr (runs.writing.failed failed)
            | inr rose ↦ inl (omega (arith, rose, runs.sink.counted.never_falls))
          ]
        ];
        not_write = λ write. (
          finishes.quiet write ∙ (subst (λ (q : Result Status Failed). IsCounted out.faults mid.faults q) (finishes.whole write).0 runs.sink.counted).ok,
          runs.writing.other (not_ended ended status.WriteFault (finishes.whole write).0 write),
        );
        no_output = runs.writing.unwritten;
        reading = runs.counts.never_falls;
        writing = runs.writing.never_falls;
      };
      not_words = λ is. runs.no_words (ended_as status.Words (λ e. cc) finishes is);
    }

-- if there is no memory for the buffer of the text, nothing is done
pub no_memory : (words : List (List ℕ)) (request : Request) (handed : List Shown → Type 0) (still : Type 0) (failed : Bool) (shelf : ShelfState) (out : SinkState) → IsCommandLine words request → handed [] → still
    → HasRun request handed still failed shelf shelf out out status.Memory
no_memory words request handed still failed shelf out line nothing kept = record {
  reports = λ files told some. record {
    halt = no_halt;
    possible = can_end request files (FailsAt shelf.reading_faults shelf.reading_faults);
    complete = λ quiet. refl;
    did = record {
      whole = λ memory write. absurd (memory refl);
      written = prefix_none _ _ _ (Keeps-refl _);
      items = [];
      first = (_, refl);
      given = nothing;
      begun = part_kept (output_of request) (report_for request files failed no_halt).made shelf.files shelf.files (KeepsFiles-refl shelf.files);
    };
    headline = headline_of request files (FailsAt shelf.reading_faults shelf.reading_faults) failed no_halt (can_end request files (FailsAt shelf.reading_faults shelf.reading_faults));
    agreement = λ quiet asked x y shift p compares. agreement_of request files failed no_halt asked x y shift p refl compares;
    kept = λ asked capture same makes. kept_of words request files (FailsAt shelf.reading_faults shelf.reading_faults) failed no_halt asked capture line (can_end request files (FailsAt shelf.reading_faults shelf.reading_faults)) same makes;
  };
  grows = record { more = []; appends = Appends-nil out.held };
  files = files_still (output_of request) shelf.files;
  slots = slots_here (output_of request) shelf.files shelf.slots;
  names = asks_nothing (names_of request) shelf (λ e. cc);
  devices = record { fault = λ is. absurd cc; quiet = λ listens is. absurd cc };
  silent = λ deaf. kept;
  causes = record {
    read = λ is. absurd cc;
    not_read = λ fault write memory. refl;
    write = λ is. absurd cc;
    not_write = λ write. (refl, refl);
    no_output = λ none. refl;
    reading = omega arith;
    writing = omega arith;
  };
  not_words = λ is. cc;
}

pub refuses_words : {position : ℕ} {still : Type 0} {out mid out' : SinkState} {w w1 w2 : List ℕ} {r : Result Status Failed} {ended : Status}
    → w ≡ [] → still → EndsWith status.Words out mid w w1 r (words_line position) → Finishes mid out' w1 w2 r ended → RefusesWords position still out out' ended
refuses_words {position} {still} {out} {mid} {out'} {w} {w1} {w2} {r} {ended} none kept ends finishes =
    let grown = grows_further _ _ _ ends.sink.grows finishes.grows in
    record {
      whole = λ memory write. let done = finishes.whole write in let all = ends_whole ended done.0 ends in (all.0, flushed _ _ _ _ _ _ none done.1 all.1 finishes.kept);
      written = gains_prefix _ _ _ _ _ (words_line position) none (ends_prefix r ends) finishes.kept grown;
      grows = grown;
      kept = kept;
      write = λ is. elim (finishes.fault is) [
        | inl err ↦ rose_later _ _ _ r err ends.sink.counted finishes.never_falls
        | inr other ↦ elim other [
          | inl failed ↦ absurd (offence_ends status.WriteFault (λ e. cc) ends failed)
          | inr rose ↦ omega (arith, rose, ends.sink.counted.never_falls)
        ]
      ];
      not_write = λ write. finishes.quiet write ∙ (subst (λ (q : Result Status Failed). IsCounted out.faults mid.faults q) (finishes.whole write).0 ends.sink.counted).ok;
    }

-- if there is no memory to print the position of the wrong word, nothing is printed
pub tells_nothing : (position : ℕ) (still : Type 0) (out : SinkState) → still → RefusesWords position still out out status.Memory
tells_nothing position still out kept = record {
  whole = λ memory write. absurd (memory refl);
  written = prefix_none _ _ _ (Keeps-refl _);
  grows = record { more = []; appends = Appends-nil out.held };
  kept = kept;
  write = λ is. absurd cc;
  not_write = λ write. refl;
}
