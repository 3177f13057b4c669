-- The batches of a heard capture are put one after another.
use Rattle.std.proofs.Common.{ℕ, List, [], Option, ◌≡◌, Some, None, refl, sym, ◌∙◌, subst, ap, ◌∷◌, ◌++◌, Ok, append-nil, zero, suc, take, length, arith, Result, Err}
use Rattle.std.specs.Prelude.{flat_map, ◌≢◌, IsSome}
use Rattle.std.proofs.lemmas.List.{take_all}
use mathlib.Core.List.{IsPrefix}
use Rattle.avtp_base.specs.Files.{Files, KeepsFiles, name_in}
use Rattle.avtp_base.specs.States.{ShelfState, SinkState}
use Rattle.avtp_base.specs.Told.{Appends, Keeps}
use Rattle.capture_io.specs.CaptureWriting.{HoldsCapture, capture_bytes}
use Rattle.sample_schedule.specs.Batches.{Presented}
use Rattle.am824_gateway.specs.declared.scan.Shape.{Shape}
use Rattle.am824_gateway.specs.declared.scan.To.{To}
use Rattle.avtp_words.specs.Grammar.{Turning}
use Rattle.am824_gateway.specs.Pieces.{nothing_given, Given, skip_of}
use Rattle.am824_gateway.specs.Gateways.{Gating}
use Rattle.avtp_base.proofs.Told.{Appends-nil, Appends-kept, Appends-trans, Keeps-refl}
use Rattle.capture_io.proofs.CaptureWriting.{holds_beside}
use Rattle.avtp_text.specs.Written.{written, AppendsPrefix}
use Rattle.capture_io.specs.Source.{Sourcing, slot_of}
use Rattle.sample_schedule.specs.declared.shown.Shown.{Shown}
use Rattle.listener.specs.Laws.{presented_of}
use Rattle.listener.specs.Listening.{ListenState, is_closed}
use Rattle.avtp_files.specs.ShelfCalls.{IsMadeIn}
use Rattle.avtp_base.proofs.Files.{KeepsFiles-refl}
use Rattle.sample_schedule.specs.declared.shown.Reason.{Reason}
use Rattle.sample_schedule.specs.declared.shown.Shown.TheVariants.{Present, Flag}
use Rattle.pcap_frames.specs.Capture.{Record}
use Rattle.capture_io.specs.Writing.{Writing}
use Rattle.capture_io.specs.Formats.{records_in}
use Rattle.avtp_text.proofs.Printing.{prefix_before, prefix_whole}
use Rattle.avtp_base.specs.declared.failed.Failed.{Failed}
use Rattle.avtp_base.specs.Faults.{FailsAt, ReadingFaults}
use Rattle.capture_io.specs.declared.end.End.{End}
use Rattle.capture_io.specs.Ends.{CountsFault}
use Rattle.listener.specs.declared.heard.Counts.{Counts}
use Rattle.presenter_ring.specs.declared.receiver.Pull.{Pull}
use Rattle.presenter_ring.specs.Pulls.{ending_of, items_of}
use Rattle.capture_io.specs.declared.end.End.TheVariants as end
use Rattle.presenter_ring.specs.declared.receiver.Pull.TheVariants as pull
use Rattle.run_report.specs.Outcome.{KeepsSink, WritesWaiting}
use Rattle.run_report.proofs.Outcomes.{sink_still, sink_ok, sink_then, sink_err}
use Rattle.run_report.specs.Listener.{plan_of}
use Rattle.capture_hearing.specs.declared.hearing.Stage.{Stage}
use Rattle.capture_hearing.specs.Hearing.{read_end, GoesOn, closed_at, heard_at, pull_at}
use Rattle.capture_hearing.specs.declared.hearing.Stage.TheVariants.{Reading, Ended, Showing, NoMemory}
use Rattle.capture_hearing.specs.Shown.{shown_by}
use Rattle.capture_hearing.proofs.ShownTo.{all_heard}
use Rattle.gateway_command.specs.declared.turning.Output.{Output}
use Rattle.gateway_command.specs.Gateway.{format_of, skipped_line, skips_in, skipped_at, batches_by}
use Rattle.gateway_command.specs.state.Turning.{HasPut, records_for, given_over, PutsBatch, given_back, IsToTurn, HoldsFirst, IsCutShort, Turns, TurnsTo, ended_turn, wrote_all, HasHeard, turned_as}
use Rattle.gateway_command.specs.declared.turning.Put.{Put}
use Rattle.gateway_command.proofs.PutBatches.{lines_more, lines_first, records_first}
use Rattle.gateway_command.proofs.HeardBeside.{presented-append, IsHeard, ReadsAndWrites, beside_none, heard_none, beside_read, beside_written, heard_on, heard_still, left_written, only_moves, presented_flag, same_plan, batches_within, presented_count}
use Rattle.gateway_command.specs.declared.turning.Turned.{Turned}
use Rattle.gateway_command.specs.declared.turning.Put.TheVariants as did
use Rattle.gateway_command.specs.declared.turning.Turned.TheVariants as turned

-- ---- batches that were put

-- While the shelf went from `s` to `t` and the output from `old` to `new`, these batches were put. The lines of the
-- skipped batches were printed.
pub record PutsAll (s t : ShelfState) (old new : Output) (batches : List Presented) (before now : Option (List ℕ)) : Type 0 where
  pub put : (to : To) (shape : Option Shape) (id : ℕ) → HasPut to shape id [] old.gateway → HasPut to shape id batches new.gateway
  pub holds : (to : To) (shape : Option Shape) (id : ℕ) (files : Option Files) (name : List ℕ) → HasPut to shape id [] old.gateway → HoldsCapture files s old.writer name [] → HoldsCapture files t new.writer name (records_for to shape id batches)
  pub lines : (asked : Turning) (shape : Option Shape) → HasPut (format_of asked.to) shape asked.id [] old.gateway → Appends before now (flat_map skipped_line (skips_in asked shape batches))

pub none_for : (to : To) (shape : Option Shape) (id : ℕ) → records_for to shape id [] ≡ []
none_for to None id = refl
none_for to (Some shape) id = refl

none_over : (to : To) (shape : Option Shape) → given_over to shape [] ≡ nothing_given
none_over to None = refl
none_over to (Some shape) = refl

put_none : (g : Gating) → g.given ≡ nothing_given → HasPut g.to g.shape g.id [] g
put_none g none = record { to_is = refl; shape_is = refl; id_is = refl; given = none ∙ sym (none_over g.to g.shape) }

puts_none : (s : ShelfState) (o : Output) (before : Option (List ℕ)) → PutsAll s s o o [] before before
puts_none s o before = record {
  put = λ to shape id none. none;
  holds = λ to shape id files name none held. subst (HoldsCapture files s o.writer name) (sym (none_for to shape id)) held;
  lines = λ asked shape none. Appends-nil before;
}

-- reading another file or writing the pending text changes nothing about the batches that were put
puts_still : {s t u : ShelfState} {old new : Output} {batches : List Presented} {before mid now : Option (List ℕ)} → KeepsFiles t.files u.files → u.slots new.writer.slot ≡ t.slots new.writer.slot → Keeps mid now
    → PutsAll s t old new batches before mid → PutsAll s u old new batches before now
puts_still {s} {t} {u} {old} {new} {batches} {before} {mid} {now} files slot kept puts = record {
  put = puts.put;
  holds = λ to shape id all name none held. holds_beside all t u new.writer name (capture_bytes (records_for to shape id batches)) (puts.holds to shape id all name none held) files slot;
  lines = λ asked shape none. Appends-kept before mid now (flat_map skipped_line (skips_in asked shape batches)) (puts.lines asked shape none) kept;
}

skip_is : (g : Gating) (to : To) (shape : Option Shape) (id : ℕ) (batches : List Presented) (batch : Presented) → HasPut to shape id batches g → skip_of g.to g.shape g.given batch ≡ skip_of to shape (given_over to shape batches) batch
skip_is g to shape id batches batch put =
    ap (λ (x : To). skip_of x g.shape g.given batch) put.to_is ∙ (ap (λ (x : Option Shape). skip_of to x g.given batch) put.shape_is ∙ ap (λ (x : Given). skip_of to shape x batch) put.given)

module _ {s t u : ShelfState} {old mid new : Output} {batches : List Presented} {batch : Presented} {before : Option (List ℕ)} {out out' : SinkState} {waits waits' : List ℕ} where
  lines_one : (so : Put) → PutsAll s t old mid batches before (written out.held waits) → PutsBatch batch t u mid new out out' waits waits' (Ok so) → (asked : Turning) (shape : Option Shape) → HasPut (format_of asked.to) shape asked.id [] old.gateway
      → Appends before (written out'.held waits') (flat_map skipped_line (skips_in asked shape (batches ++ batch ∷ [])))
  lines_one so puts one asked shape none =
      let skip = skip_is mid.gateway (format_of asked.to) shape asked.id batches batch (puts.put (format_of asked.to) shape asked.id none) in
      let line = subst (λ (x : _). Appends (written out.held waits) (written out'.held waits') (flat_map skipped_line (skipped_at batch.frame x))) skip one.lines in
      subst (Appends before (written out'.held waits')) (sym (lines_more asked shape batches batch))
      (Appends-trans before (written out.held waits) (written out'.held waits') (flat_map skipped_line (skips_in asked shape batches)) _ (puts.lines asked shape none) line)

  puts_one : PutsAll s t old mid batches before (written out.held waits) → PutsBatch batch t u mid new out out' waits waits' (Ok did.Done) → PutsAll s u old new (batches ++ batch ∷ []) before (written out'.held waits')
  puts_one puts one = record {
    put = λ to shape id none. one.put refl to shape id batches (puts.put to shape id none);
    holds = λ to shape id files name none held. one.frames refl to shape id batches files name (puts.put to shape id none) (puts.holds to shape id files name none held);
    lines = lines_one did.Done puts one;
  }

-- returning the samples of the latest batch does not change which batches a gateway was given
put_given_back : {to : To} {shape : Option Shape} {id : ℕ} {batches : List Presented} (o : Output) → HasPut to shape id batches o.gateway → HasPut to shape id batches (given_back o).gateway
put_given_back o has = record { to_is = has.to_is; shape_is = has.shape_is; id_is = has.id_is; given = has.given }

puts_given_back : {s t : ShelfState} {old new : Output} {batches : List Presented} {before now : Option (List ℕ)} → PutsAll s t old new batches before now → PutsAll s t old (given_back new) batches before now
puts_given_back {new = new} puts = record {
  put = λ to shape id none. put_given_back new (puts.put to shape id none);
  holds = puts.holds;
  lines = puts.lines;
}

-- ---- between two items

-- While the shelf went from `s` to `t` and the output from `old` to `new`, items were heard and their batches were put.
-- The items `more` were heard after the items whose batches were put, but the batches of `more` are not put yet.
pub record IsPutSoFar (s t : ShelfState) (first source : Sourcing) (fresh listener : ListenState) (stage : Stage) (old new : Output) (out out' : SinkState) (waits waits' : List ℕ) (more : List Shown) : Type 0 where
  pub plan : listener.plan ≡ fresh.plan
  pub slot : new.writer.slot ≡ old.writer.slot
  pub beside : ReadsAndWrites s t (slot_of first) (slot_of source) old.writer.slot (read_end stage) (Ok tt)
  pub batches : List Presented
  pub puts : PutsAll s t old new batches (written out.held waits) (written out'.held waits')
  pub told : name_in s.slots (slot_of first) ≢ name_in s.slots old.writer.slot → (items : List Shown) × (batches ≡ presented_of items) × IsHeard s t first source fresh listener stage (items ++ more)
  pub sink : KeepsSink {T = Unit} out out' (Ok tt)

pub so_far_none : (s : ShelfState) (source : Sourcing) (listener : ListenState) (stage : Stage) (o : Output) (out : SinkState) (waits : List ℕ) → IsSome (s.slots (slot_of source)) → IsMadeIn s.slots o.writer.slot → stage ≡ Reading → IsPutSoFar s s source source listener listener stage o o out out waits waits []
so_far_none s source listener stage o out waits live made is = record {
  plan = refl;
  slot = refl;
  beside = beside_none s (slot_of source) o.writer.slot stage live made is;
  batches = [];
  puts = puts_none s o (written out.held waits);
  told = λ apart. ([], refl, heard_none s source listener stage live is);
  sink = sink_still out tt;
}

module _ {s t : ShelfState} {first source : Sourcing} {fresh listener : ListenState} {stage : Stage} {old new : Output} {out mid : SinkState} {waits waits' : List ℕ} where
  pub so_far_flushed : {out' : SinkState} {waits'' : List ℕ} {more : List Shown} {x : Unit} → WritesWaiting mid out' waits' waits'' (Ok x)
      → IsPutSoFar s t first source fresh listener stage old new out mid waits waits' more → IsPutSoFar s t first source fresh listener stage old new out out' waits waits'' more
  so_far_flushed flushed so_far = record {
    plan = so_far.plan;
    slot = so_far.slot;
    beside = so_far.beside;
    batches = so_far.batches;
    puts = puts_still (KeepsFiles-refl t.files) refl flushed.kept so_far.puts;
    told = so_far.told;
    sink = sink_ok tt (sink_then so_far.sink flushed.sink);
  }

  pub so_far_heard : {u : ShelfState} {source' : Sourcing} {listener' : ListenState} {stage' : Stage} {more : List Shown} → slot_of first ≢ old.writer.slot → GoesOn t u source source' listener listener' stage stage' more
      → IsPutSoFar s t first source fresh listener stage old new out mid waits waits' [] → IsPutSoFar s u first source' fresh listener' stage' old new out mid waits waits' more
  so_far_heard {u} {source'} {listener'} {stage'} {more} apart on so_far =
      let moves = only_moves first so_far.beside on in
      record {
        plan = same_plan first so_far.beside on ∙ so_far.plan;
        slot = so_far.slot;
        beside = beside_read first apart so_far.beside on;
        batches = so_far.batches;
        puts = puts_still moves.files (moves.others new.writer.slot (λ e. apart (sym e ∙ so_far.slot))) (Keeps-refl (written mid.held waits')) so_far.puts;
        told = λ names.
            let was = so_far.told names in
            (was.0, was.1, subst (λ (items : List Shown). IsHeard s u first source' fresh listener' stage' (items ++ more)) (append-nil was.0) (heard_on so_far.beside so_far.plan on was.2));
        sink = so_far.sink;
      }

  -- a flagged item has no batch to put
  pub so_far_flagged : {frame seq : ℕ} {reason : Reason} → IsPutSoFar s t first source fresh listener stage old new out mid waits waits' (Flag frame seq reason ∷ [])
      → IsPutSoFar s t first source fresh listener stage old new out mid waits waits' []
  so_far_flagged {frame} {seq} {reason} so_far = record {
    plan = so_far.plan;
    slot = so_far.slot;
    beside = so_far.beside;
    batches = so_far.batches;
    puts = so_far.puts;
    told = λ names.
        let was = so_far.told names in
        let items : List Shown = was.0 ++ Flag frame seq reason ∷ [] in
        (items, was.1 ∙ sym (presented_flag was.0 frame seq reason), subst (IsHeard s t first source fresh listener stage) (sym (append-nil items)) was.2);
    sink = so_far.sink;
  }

  pub so_far_put : {u : ShelfState} {later : Output} {out' : SinkState} {waits'' : List ℕ} {batch : Presented} → PutsBatch batch t u new later mid out' waits' waits'' (Ok did.Done)
      → IsPutSoFar s t first source fresh listener stage old new out mid waits waits' (Present batch ∷ []) → IsPutSoFar s u first source fresh listener stage old later out out' waits waits'' []
  so_far_put {u} {later} {batch = batch} one so_far = record {
    plan = so_far.plan;
    slot = one.writes.slot ∙ so_far.slot;
    beside = beside_written so_far.beside so_far.slot one.writes;
    batches = so_far.batches ++ batch ∷ [];
    puts = puts_one so_far.puts one;
    told = λ names.
        let was = so_far.told names in
        let items : List Shown = was.0 ++ Present batch ∷ [] in
        let still = heard_still one.writes.reading (left_written so_far.beside so_far.slot one.writes names) was.2 in (
          items,
          ap (λ (l : List Presented). l ++ batch ∷ []) was.1 ∙ sym (presented-append was.0 (Present batch ∷ [])),
          subst (IsHeard s u first source fresh listener stage) (sym (append-nil items)) still,
        );
    sink = sink_ok tt (sink_then so_far.sink one.sink);
  }

  pub so_far_given_back : IsPutSoFar s t first source fresh listener stage old new out mid waits waits' []
      → IsPutSoFar s t first source fresh listener stage old (given_back new) out mid waits waits' []
  so_far_given_back so_far = record {
    plan = so_far.plan;
    slot = so_far.slot;
    beside = so_far.beside;
    batches = so_far.batches;
    puts = puts_given_back so_far.puts;
    told = so_far.told;
    sink = so_far.sink;
  }

-- ---- a capture that was cut short

names_apart : {asked : Turning} {shape : Option Shape} {bytes : List ℕ} {files : Option Files} {s : ShelfState} {source : Sourcing} {listener : ListenState} {o : Output} → IsToTurn asked shape bytes files s source listener o
    → name_in s.slots (slot_of source) ≢ name_in s.slots o.writer.slot
names_apart {asked} to_turn same =
    let e : Some asked.input ≡ Some asked.output = sym to_turn.named ∙ same ∙ to_turn.fresh.named in
    to_turn.fresh.apart cc

-- each prefix of the records `xs` is a prefix of `xs ++ ys`
first_taken : (n : ℕ) (xs ys : List Record) → (m : ℕ) × (take m (xs ++ ys) ≡ take n xs)
first_taken zero xs ys = (0, refl)
first_taken (suc n) [] ys = (0, refl)
first_taken (suc n) (x ∷ xs) ys = let on = first_taken n xs ys in (suc on.0, ap (λ (l : List Record). x ∷ l) on.1)

first_further : {files : Option Files} {s : ShelfState} {w : Writing} {name : List ℕ} (records rest all : List Record) → all ≡ records ++ rest → HoldsFirst files s w name records → HoldsFirst files s w name all
first_further {files} {s} {w} {name} records rest all is holds =
    let some = first_taken holds.count records rest in
    record { count = some.0; holds = subst (HoldsCapture files s w name) (sym (ap (take some.0) is ∙ some.1)) holds.holds }

-- a file that holds all of `records` holds a prefix of `records`
first_whole : (files : Option Files) (s : ShelfState) (w : Writing) (name : List ℕ) (records : List Record) → HoldsCapture files s w name records → HoldsFirst files s w name records
first_whole files s w name records holds = record { count = length records; holds = subst (HoldsCapture files s w name) (sym (take_all (length records) records (omega arith))) holds }

cut_by : {before now : Option (List ℕ)} {s : ShelfState} {o : Output} {files : Option Files} (asked : Turning) (shape : Option Shape) (bytes : List ℕ) (batches : List Presented) → IsPrefix batches (batches_by asked (records_in (take asked.listener.limit bytes)) end.Whole)
    → AppendsPrefix before now (flat_map skipped_line (skips_in asked shape batches)) → HoldsFirst files s o.writer asked.output (records_for (format_of asked.to) shape asked.id batches) → IsCutShort asked shape bytes files s o before now
cut_by {before} {now} asked shape bytes batches first lines holds =
    let all : List Presented = batches_by asked (records_in (take asked.listener.limit bytes)) end.Whole in
    let text = lines_first asked shape batches all first in
    let records = records_first (format_of asked.to) shape asked.id batches all first in
    record {
      lines = subst (AppendsPrefix before now) (sym text.1) (prefix_before before now (flat_map skipped_line (skips_in asked shape batches)) text.0 lines);
      holds = first_further (records_for (format_of asked.to) shape asked.id batches) records.0 (records_for (format_of asked.to) shape asked.id all) records.1 holds;
    }

module _ {s t : ShelfState} {first source : Sourcing} {fresh listener : ListenState} {stage : Stage} {old new : Output} {out mid : SinkState} {waits waits' : List ℕ} where
  -- the items that were shown so far are a prefix of all items
  all_within : {more : List Shown} (asked : Turning) (shape : Option Shape) (bytes : List ℕ) (files : Option Files) → is_closed listener ≡ closed_at stage → IsToTurn asked shape bytes files s first fresh old
      → (so_far : IsPutSoFar s t first source fresh listener stage old new out mid waits waits' more) → IsPrefix (so_far.batches ++ presented_of more) (batches_by asked (records_in (take asked.listener.limit bytes)) end.Whole)
  all_within {more} asked shape bytes files closed to_turn so_far =
      let told = so_far.told (names_apart to_turn) in
      let shown = told.2.shown asked.listener.limit bytes to_turn.given to_turn.stands to_turn.going in
      subst (λ (l : List Presented). IsPrefix l (batches_by asked (records_in (take asked.listener.limit bytes)) end.Whole)) (presented-append told.0 more ∙ ap (λ (l : List Presented). l ++ presented_of more) (sym told.1))
      (batches_within (plan_of asked.listener) stage asked.listener.limit bytes (FailsAt s.reading_faults t.reading_faults) _ source listener (told.0 ++ more) (so_far.plan ∙ to_turn.plan) closed shown)

  -- the conversion was cut short before the next item
  cut_still : {now : Option (List ℕ)} (asked : Turning) (shape : Option Shape) (bytes : List ℕ) (files : Option Files) → is_closed listener ≡ closed_at stage → IsToTurn asked shape bytes files s first fresh old → Keeps (written mid.held waits') now
      → IsPutSoFar s t first source fresh listener stage old new out mid waits waits' [] → IsCutShort asked shape bytes files t new (written out.held waits) now
  cut_still {now} asked shape bytes files closed to_turn kept so_far =
      let none = to_turn.fresh.none in
      let text : List ℕ = flat_map skipped_line (skips_in asked shape so_far.batches) in
      let all = subst (λ (l : List Presented). IsPrefix l (batches_by asked (records_in (take asked.listener.limit bytes)) end.Whole)) (append-nil so_far.batches) (all_within asked shape bytes files closed to_turn so_far) in
      cut_by asked shape bytes so_far.batches all (prefix_whole (written out.held waits) now text (Appends-kept (written out.held waits) (written mid.held waits') now text (so_far.puts.lines asked shape none) kept))
      (first_whole files t new.writer asked.output (records_for (format_of asked.to) shape asked.id so_far.batches) (so_far.puts.holds (format_of asked.to) shape asked.id files asked.output none to_turn.fresh.holds))

  -- the conversion was cut short while the next batch was put
  module _ {u : ShelfState} {later : Output} {out' : SinkState} {waits'' : List ℕ} {batch : Presented} where
    cut_lines : (result : Result Put Failed) → PutsBatch batch t u new later mid out' waits' waits'' result → (so_far : IsPutSoFar s t first source fresh listener stage old new out mid waits waits' (Present batch ∷ []))
        → (asked : Turning) (shape : Option Shape) → HasPut (format_of asked.to) shape asked.id [] old.gateway → AppendsPrefix (written out.held waits) (written out'.held waits'') (flat_map skipped_line (skips_in asked shape (so_far.batches ++ batch ∷ [])))
    cut_lines (Ok so) one so_far asked shape none =
        prefix_whole (written out.held waits) (written out'.held waits'') (flat_map skipped_line (skips_in asked shape (so_far.batches ++ batch ∷ []))) (lines_one so so_far.puts one asked shape none)
    cut_lines (Err e) one so_far asked shape none =
        let first = Appends-kept (written out.held waits) (written mid.held waits') (written out'.held waits'') (flat_map skipped_line (skips_in asked shape so_far.batches)) (so_far.puts.lines asked shape none) one.cut in
        subst (AppendsPrefix (written out.held waits) (written out'.held waits'')) (sym (lines_more asked shape so_far.batches batch))
        (prefix_before (written out.held waits) (written out'.held waits'') (flat_map skipped_line (skips_in asked shape so_far.batches)) _ (prefix_whole (written out.held waits) (written out'.held waits'') _ first))

    cut_in_batch : (result : Result Put Failed) (asked : Turning) (shape : Option Shape) (bytes : List ℕ) (files : Option Files) → is_closed listener ≡ closed_at stage → IsToTurn asked shape bytes files s first fresh old
        → PutsBatch batch t u new later mid out' waits' waits'' result → IsPutSoFar s t first source fresh listener stage old new out mid waits waits' (Present batch ∷ []) → IsCutShort asked shape bytes files u later (written out.held waits) (written out'.held waits'')
    cut_in_batch result asked shape bytes files closed to_turn one so_far =
        let none = to_turn.fresh.none in
        let to : To = format_of asked.to in
        cut_by asked shape bytes (so_far.batches ++ batch ∷ []) (all_within asked shape bytes files closed to_turn so_far) (cut_lines result one so_far asked shape none)
        (one.part to shape asked.id so_far.batches files asked.output (so_far.puts.put to shape asked.id none) (so_far.puts.holds to shape asked.id files asked.output none to_turn.fresh.holds))

-- ---- a capture that was heard to its end

module _ {s t : ShelfState} {first source : Sourcing} {fresh : ListenState} {old new : Output} {out out' : SinkState} {waits waits' : List ℕ} {how : Option End} where
  turns_by : (result : Result Turned Failed) → ReadsAndWrites s t (slot_of first) (slot_of source) old.writer.slot how (wrote_all result) → new.writer.slot ≡ old.writer.slot
      → ((files : Option Files) (name : List ℕ) → HoldsCapture files s old.writer name [] → (more : List Record) × HoldsCapture files t new.writer name more)
      → ((asked : Turning) (shape : Option Shape) (bytes : List ℕ) (files : Option Files) → IsToTurn asked shape bytes files s first fresh old → TurnsTo asked shape bytes (FailsAt s.reading_faults t.reading_faults) files t new (written out.held waits) (written out'.held waits') result)
      → ((h : End) → ended_turn result ≡ Some h → CountsFault None (Some h) s.reading_faults t.reading_faults) → KeepsSink out out' result → Turns s t first source fresh old new out out' waits waits' result
  turns_by result beside slot holds told counted sink = record {
    told = told;
    slot = beside.slot;
    same = beside.same;
    left = beside.left;
    writes = record {
      slot = slot;
      made = beside.made;
      holds = holds;
      unwritten = beside.writing.failed;
      written = beside.writing.ok;
      falls = beside.writing.never_falls;
      reading = beside.reading;
    };
    counted = counted;
    asked = beside.asked;
    sink = sink;
  }

module _ {s t : ShelfState} {first source : Sourcing} {fresh listener : ListenState} {stage : Stage} {old new : Output} {out mid : SinkState} {waits waits' : List ℕ} where
  -- the file holds a prefix of the capture's records
  some_held : {more : List Shown} → old.gateway.given ≡ nothing_given → IsPutSoFar s t first source fresh listener stage old new out mid waits waits' more
      → (files : Option Files) (name : List ℕ) → HoldsCapture files s old.writer name [] → (records : List Record) × HoldsCapture files t new.writer name records
  some_held none so_far files name held =
      let g : Gating = old.gateway in
      (records_for g.to g.shape g.id so_far.batches, so_far.puts.holds g.to g.shape g.id files name (put_none g none) held)

  pub turns_unflushed : {out' : SinkState} {waits'' : List ℕ} (x e : Failed) → old.gateway.given ≡ nothing_given → is_closed listener ≡ closed_at stage → WritesWaiting mid out' waits' waits'' (Err x)
      → IsPutSoFar s t first source fresh listener stage old new out mid waits waits' [] → Turns s t first source fresh old new out out' waits waits'' (Err e)
  turns_unflushed x e none closed flushed so_far =
      turns_by (Err e) so_far.beside so_far.slot (some_held none so_far) (λ asked shape bytes files to_turn. cut_still asked shape bytes files closed to_turn flushed.kept so_far) (λ h over. absurd cc)
      (sink_err (sink_then so_far.sink flushed.sink))

  module _ {u : ShelfState} {later : Output} {out' : SinkState} {waits'' : List ℕ} {batch : Presented} where
    part_held : {result : Result Put Failed} → old.gateway.given ≡ nothing_given → PutsBatch batch t u new later mid out' waits' waits'' result → IsPutSoFar s t first source fresh listener stage old new out mid waits waits' (Present batch ∷ [])
        → (files : Option Files) (name : List ℕ) → HoldsCapture files s old.writer name [] → (records : List Record) × HoldsCapture files u later.writer name records
    part_held none one so_far files name held =
        let g : Gating = old.gateway in
        let part = one.part g.to g.shape g.id so_far.batches files name (so_far.puts.put g.to g.shape g.id (put_none g none)) (so_far.puts.holds g.to g.shape g.id files name (put_none g none) held) in
        (take part.count (records_for g.to g.shape g.id (so_far.batches ++ batch ∷ [])), part.holds)

    pub turns_unprinted : (x e : Failed) → old.gateway.given ≡ nothing_given → is_closed listener ≡ closed_at stage → PutsBatch batch t u new later mid out' waits' waits'' (Err x)
        → IsPutSoFar s t first source fresh listener stage old new out mid waits waits' (Present batch ∷ []) → Turns s u first source fresh old later out out' waits waits'' (Err e)
    turns_unprinted x e none closed one so_far =
        turns_by (Err e) (beside_written so_far.beside so_far.slot one.writes) (one.writes.slot ∙ so_far.slot) (part_held none one so_far)
        (λ asked shape bytes files to_turn. cut_in_batch (Err x) asked shape bytes files closed to_turn one so_far) (λ h over. absurd cc) (sink_err (sink_then so_far.sink one.sink))

    pub turns_unwritten : old.gateway.given ≡ nothing_given → is_closed listener ≡ closed_at stage → PutsBatch batch t u new later mid out' waits' waits'' (Ok did.Unwritten)
        → IsPutSoFar s t first source fresh listener stage old new out mid waits waits' (Present batch ∷ []) → Turns s u first source fresh old later out out' waits waits'' (Ok turned.Unwritten)
    turns_unwritten none closed one so_far =
        turns_by (Ok turned.Unwritten) (beside_written so_far.beside so_far.slot one.writes) (one.writes.slot ∙ so_far.slot) (part_held none one so_far)
        (λ asked shape bytes files to_turn. cut_in_batch (Ok did.Unwritten) asked shape bytes files closed to_turn one so_far) (λ h over. absurd cc) (sink_ok turned.Unwritten (sink_then so_far.sink one.sink))

-- all batches that a listener presents up to the end of the reading were put
whole_heard : {s t : ShelfState} {first source : Sourcing} {fresh listener : ListenState} {old new : Output} {out mid : SinkState} {waits waits' : List ℕ} (how : End) (asked : Turning) (shape : Option Shape) (bytes : List ℕ) (files : Option Files) → is_closed listener ≡ closed_at (Ended how) → IsToTurn asked shape bytes files s first fresh old
    → IsPutSoFar s t first source fresh listener (Ended how) old new out mid waits waits' []
    → HasHeard asked shape bytes (FailsAt s.reading_faults t.reading_faults) files t new how listener.counts.presented (written out.held waits) (written mid.held waits')
whole_heard {s} {t} {source = source} {listener = listener} {old = old} {new} {out} {mid} {waits} {waits'} how asked shape bytes files closed to_turn so_far =
    let told = so_far.told (names_apart to_turn) in
    let shown = told.2.shown asked.listener.limit bytes to_turn.given to_turn.stands to_turn.going in
    let plan = plan_of asked.listener in
    let heard = all_heard plan asked.listener.limit bytes how (FailsAt s.reading_faults t.reading_faults) _ source listener (told.0 ++ []) (so_far.plan ∙ to_turn.plan) closed shown in
    let list : told.0 ≡ shown_by plan shown.records how = sym (append-nil told.0) ∙ heard.items_are in
    let read : shown_by plan shown.records how ≡ shown_by plan (records_in shown.read.prefix) how = ap (λ (rs : List Record). shown_by plan rs how) (sym shown.read.whole) in
    let all : so_far.batches ≡ batches_by asked (records_in shown.read.prefix) how = told.1 ∙ ap presented_of (list ∙ read) in
    let puts = subst (λ (l : List Presented). PutsAll s t old new l (written out.held waits) (written mid.held waits')) all so_far.puts in
    let none = to_turn.fresh.none in
    record {
      prefix = shown.read.prefix;
      ends = shown.read.ends;
      turned = record {
        put = puts.put (format_of asked.to) shape asked.id none;
        lines = puts.lines asked shape none;
        holds = puts.holds (format_of asked.to) shape asked.id files asked.output none to_turn.fresh.holds;
      };
      counted = ap (λ (c : Counts). c.presented) heard.counted ∙ presented_count (shown_by plan shown.records how) ∙ ap (λ (l : List Shown). length (presented_of l)) read;
    }

over_counted : (stage : Stage) (listener : ListenState) (h : End) (before after : ReadingFaults) → CountsFault None (read_end stage) before after → ended_turn (Ok (turned_as (heard_at stage listener))) ≡ Some h → CountsFault None (Some h) before after
over_counted Reading listener h before after counted is = absurd cc
over_counted (Showing how) listener h before after counted is = absurd cc
over_counted (Ended how) listener h before after counted is = let same : how ≡ h = cc in subst (λ (x : End). CountsFault None (Some x) before after) same counted
over_counted NoMemory listener h before after counted is = absurd cc

over_wrote : (stage : Stage) (listener : ListenState) → wrote_all (Ok (turned_as (heard_at stage listener))) ≡ Ok tt
over_wrote Reading listener = refl
over_wrote (Showing how) listener = refl
over_wrote (Ended how) listener = refl
over_wrote NoMemory listener = refl

-- the hearing has ended, and no item is left to put
module _ {s t : ShelfState} {first source : Sourcing} {fresh listener : ListenState} {old new : Output} {out out' : SinkState} {waits waits' : List ℕ} where
  over_told : (stage : Stage) → IsSome (pull_at stage) → is_closed listener ≡ closed_at stage → IsPutSoFar s t first source fresh listener stage old new out out' waits waits' []
      → (asked : Turning) (shape : Option Shape) (bytes : List ℕ) (files : Option Files) → IsToTurn asked shape bytes files s first fresh old
      → TurnsTo asked shape bytes (FailsAt s.reading_faults t.reading_faults) files t new (written out.held waits) (written out'.held waits') (Ok (turned_as (heard_at stage listener)))
  over_told Reading over closed so_far asked shape bytes files to_turn = absurd cc
  over_told (Showing how) over closed so_far asked shape bytes files to_turn = absurd cc
  over_told (Ended how) over closed so_far asked shape bytes files to_turn = whole_heard how asked shape bytes files closed to_turn so_far
  over_told NoMemory over closed so_far asked shape bytes files to_turn = cut_still asked shape bytes files closed to_turn (Keeps-refl (written out'.held waits')) so_far

  pub turns_over : (stage : Stage) → IsSome (pull_at stage) → old.gateway.given ≡ nothing_given → is_closed listener ≡ closed_at stage → IsPutSoFar s t first source fresh listener stage old new out out' waits waits' []
      → Turns s t first source fresh old new out out' waits waits' (Ok (turned_as (heard_at stage listener)))
  turns_over stage over none closed so_far =
      turns_by (Ok (turned_as (heard_at stage listener))) (subst (ReadsAndWrites s t (slot_of first) (slot_of source) old.writer.slot (read_end stage)) (sym (over_wrote stage listener)) so_far.beside) so_far.slot (some_held none so_far) (over_told stage over closed so_far)
      (λ h is. over_counted stage listener h s.reading_faults t.reading_faults so_far.beside.counted is) (sink_ok (turned_as (heard_at stage listener)) so_far.sink)

-- the file that is written is still open
pub still_made : {s t : ShelfState} {first source : Sourcing} {fresh listener : ListenState} {stage : Stage} {old new : Output} {out out' : SinkState} {waits waits' : List ℕ} {more : List Shown} → IsPutSoFar s t first source fresh listener stage old new out out' waits waits' more → IsMadeIn t.slots new.writer.slot
still_made {t = t} so_far = subst (IsMadeIn t.slots) (sym so_far.slot) so_far.beside.made

-- ---- one more item

-- if the result of putting a batch is not `Unwritten`, the result is `Done`
pub done_left : (so : Put) → so ≢ did.Unwritten → so ≡ did.Done
done_left did.Done other = refl
done_left did.Unwritten other = absurd (other refl)

-- a receiver that returns no item has ended
pub ended_pull : (answer : Pull) → ((x : Shown) → answer ≡ pull.Item x → ⊥) → (items_of answer ≡ []) × IsSome (ending_of answer)
ended_pull (pull.Item x) other = absurd (other x refl)
ended_pull pull.Done other = (refl, refl)
ended_pull (pull.Refused refusal) other = (refl, refl)
ended_pull pull.ReadFault other = (refl, refl)
ended_pull pull.Limit other = (refl, refl)
ended_pull pull.Memory other = (refl, refl)
