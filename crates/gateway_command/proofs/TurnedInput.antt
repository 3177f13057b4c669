-- A capture that is opened, converted and closed.
use Rattle.std.proofs.Common.{◌≡◌, ℕ, List, [], take, Option, Some, Result, Ok, Err, ap, ◌∙◌, arith, length, refl, sym, subst, None, inl, inr, ◌≤◌, true, ◌∷◌, ◌++◌, false}
use Rattle.std.specs.Prelude.{option_and_then, IsErrOf, ◌⊎◌, ◌≢◌, OnErr, OnOk, option_map, IsSome}
use Rattle.std.proofs.lemmas.Bool.Decides.{eqb_tells}
use Rattle.avtp_base.specs.declared.failed.FaultPlace.TheVariants as fault_place
use Rattle.avtp_base.specs.declared.failed.FaultPlace.{FaultPlace}
use Rattle.avtp_base.specs.declared.failed.Failed.{Failed}
use Rattle.avtp_base.specs.Files.{Files, KeepsFiles, Open, IsMissing, file_of, KeepsOtherFiles, left_in, name_in}
use Rattle.avtp_base.specs.States.{ShelfState, SinkState}
use Rattle.capture_io.specs.CaptureWriting.{capture_bytes, HoldsCapture}
use Rattle.capture_io.proofs.CaptureWriting.{holds_beside}
use Rattle.capture_io.proofs.Ending.{ends_weaker}
use Rattle.am824_gateway.specs.declared.scan.Shape.{Shape}
use Rattle.avtp_words.specs.Grammar.{Turning}
use Rattle.pcap_frames.specs.Capture.{Record}
use Rattle.capture_io.specs.Formats.{records_in}
use Rattle.capture_io.proofs.Formats.{short_records, short_certain}
use Rattle.listener.specs.Laws.{presented_of}
use Rattle.listener.specs.Heard.{due_of}
use Rattle.listener.proofs.Due.{due_none}
use Rattle.avtp_base.specs.declared.failed.OpenFault.{OpenFault}
use Rattle.avtp_base.proofs.Told.{Appends-nil, Keeps-refl}
use Rattle.capture_io.specs.Source.{Sourcing, slot_of, OpensSource, HasGivenOf}
use Rattle.sample_schedule.specs.Batches.{Presented}
use Rattle.avtp_text.proofs.Printing.{prefix_none}
use Rattle.avtp_base.specs.Faults.{FailsAt, HasOneMore, ReadingFaults, Rose}
use Rattle.capture_io.specs.Reads.{TriesOpen}
use Rattle.capture_io.specs.declared.end.End.{End}
use Rattle.avtp_files.specs.ShelfCalls.{IsMadeIn, ClosesSlot}
use Rattle.listener.specs.Listening.{ListenState, StandsFor, is_closed}
use Rattle.capture_io.specs.Ends.{CountsFault}
use Rattle.capture_io.specs.declared.end.End.TheVariants as end
use Rattle.avtp_base.specs.declared.failed.OpenFault.TheVariants as open_fault
use Rattle.avtp_text.specs.Written.{written}
use Rattle.run_report.specs.Listener.{plan_of}
use Rattle.run_report.proofs.Outcomes.{sink_still}
use Rattle.run_report.proofs.DoesFile.{around}
use Rattle.run_report.proofs.Leaving.{quiet_end, same_count, some_same}
use Rattle.gateway_command.specs.declared.turning.Output.{Output}
use Rattle.gateway_command.specs.declared.turning.Turned.{Turned}
use Rattle.gateway_command.specs.state.Turning.{IsCutShort, IsFreshOutput, TurnsTo, HasTurned, ended_turn, wrote_all, WritesOutput, AreOpenIn, Turns}
use Rattle.gateway_command.specs.Gateway.{batches_by, format_of, FailsAgain}
use Rattle.gateway_command.specs.state.Gateway.{unread_as, TurnsInput}
use Rattle.gateway_command.proofs.TurningTo.{none_for}
use Rattle.gateway_command.proofs.HeardBeside.{live_same}
use Rattle.gateway_command.specs.declared.turning.Turned.TheVariants as turned

-- ---- the output, while other files are opened and closed

module _ (asked : Turning) (shape : Option Shape) (files : Option Files) (s t : ShelfState) (o : Output) (keeps : KeepsFiles s.files t.files) (slot : t.slots o.writer.slot ≡ s.slots o.writer.slot) where
  fresh_still : IsFreshOutput asked shape files s o → IsFreshOutput asked shape files t o
  fresh_still fresh = record {
    apart = fresh.apart;
    named = ap (option_and_then (λ (f : Open). f.name)) slot ∙ fresh.named;
    none = fresh.none;
    holds = holds_beside files s t o.writer asked.output (capture_bytes []) fresh.holds keeps slot;
  }

  cut_as : (before now : Option (List ℕ)) (bytes : List ℕ) → IsCutShort asked shape bytes files s o before now → IsCutShort asked shape bytes files t o before now
  cut_as before now bytes cut = record {
    lines = cut.lines;
    holds = record { count = cut.holds.count; holds = holds_beside files s t o.writer asked.output (capture_bytes (take cut.holds.count _)) cut.holds.holds keeps slot };
  }

  -- `TurnsTo` still holds if the condition for a read fault is weakened
  turned_still : (before now : Option (List ℕ)) (bytes : List ℕ) (cause cause' : FaultPlace → Type 0) (result : Result Turned Failed) → ((place : FaultPlace) → cause place → cause' place) → TurnsTo asked shape bytes cause files s o before now result → TurnsTo asked shape bytes cause' files t o before now result
  turned_still before now bytes cause cause' (Ok (turned.Ended how presented)) make heard = record {
    prefix = heard.prefix;
    ends = ends_weaker asked.listener.limit (Some bytes) cause cause' how heard.prefix make heard.ends;
    turned = record { put = heard.turned.put; lines = heard.turned.lines; holds = holds_beside files s t o.writer asked.output (capture_bytes _) heard.turned.holds keeps slot };
    counted = heard.counted;
  }
  turned_still before now bytes cause cause' (Ok turned.NoMemory) make cut = cut_as before now bytes cut
  turned_still before now bytes cause cause' (Ok turned.Unwritten) make cut = cut_as before now bytes cut
  turned_still before now bytes cause cause' (Err e) make cut = cut_as before now bytes cut

-- ---- a capture that could not be opened again

-- a capture without records has no batches
none_presented : (asked : Turning) → batches_by asked (records_in []) end.ReadFault ≡ []
none_presented asked = ap (λ (rs : List Record). presented_of (due_of (plan_of asked.listener) rs)) (short_records [] (omega arith)) ∙ ap presented_of (due_none (plan_of asked.listener))

module _ (asked : Turning) (shape : Option Shape) (files : Option Files) (s : ShelfState) (o : Output) (before : Option (List ℕ)) (bytes : List ℕ) (cause : FaultPlace → Type 0) (fresh : IsFreshOutput asked shape files s o) where
  none_turned : (batches : List Presented) → batches ≡ [] → HasTurned asked shape batches files s o before before
  none_turned batches none = subst (λ (l : List Presented). HasTurned asked shape l files s o before before) (sym none) (record {
    put = fresh.none;
    lines = Appends-nil before;
    holds = subst (HoldsCapture files s o.writer asked.output) (sym (none_for (format_of asked.to) shape asked.id)) fresh.holds;
  })

  none_to : (fault : OpenFault) → (IsErrOf {T = Sourcing} (Err fault) open_fault.Missing → ⊥) → (IsErrOf {T = Sourcing} (Err fault) open_fault.Failed → cause (fault_place.Reading (length bytes))) → TurnsTo asked shape bytes cause files s o before before (Ok (unread_as fault))
  none_to open_fault.Memory there rose = record { lines = prefix_none before before _ (Keeps-refl before); holds = record { count = 0; holds = fresh.holds } }
  none_to open_fault.Missing there rose = absurd (there refl)
  none_to open_fault.Failed there rose = record {
    prefix = [];
    ends = (bytes, refl, rose refl, omega arith, short_certain [] (omega arith));
    turned = none_turned (batches_by asked (records_in []) end.ReadFault) (none_presented asked);
    counted = sym (ap (λ (l : List Presented). length l) (none_presented asked));
  }

-- if the shelf shows the bytes of a file, the file is not missing
missing_not : (files : Option Files) (all : Files) (name bytes : List ℕ) → files ≡ Some all → all name ≡ Some bytes → IsMissing files name → ⊥
missing_not None all name bytes told has missing = missing
missing_not (Some f) all name bytes told has missing = (let same : f ≡ all = cc in let none : all name ≡ None = ap (λ (g : Files). g name) (sym same) ∙ missing in let t : None ≡ Some bytes = sym none ∙ has in cc)

module _ {s t : ShelfState} {name : List ℕ} where
  unread_fault : (fault : OpenFault) (presented : ℕ) → TriesOpen {T = Sourcing} slot_of s t name (Err fault) → ◌≡◌ {A = Result Turned Failed} (Ok (unread_as fault)) (Ok (turned.Ended end.ReadFault presented)) → HasOneMore s.reading_faults t.reading_faults ⊎ IsMissing s.files name
  unread_fault open_fault.Memory presented tries is = absurd cc
  unread_fault open_fault.Missing presented tries is = inr (tries.missing refl)
  unread_fault open_fault.Failed presented tries is = inl (tries.counted.failed refl).once

unread_quiet : (fault : OpenFault) (how : End) (before after : ReadingFaults) → ended_turn (Ok (unread_as fault)) ≡ Some how → how ≢ end.ReadFault → after ≡ before
unread_quiet open_fault.Memory how before after is other = absurd cc
unread_quiet open_fault.Missing how before after is other = absurd (other cc)
unread_quiet open_fault.Failed how before after is other = absurd (other cc)

unread_wrote : (fault : OpenFault) → wrote_all (Ok (unread_as fault)) ≡ Ok tt
unread_wrote open_fault.Memory = refl
unread_wrote open_fault.Missing = refl
unread_wrote open_fault.Failed = refl

module _ {s t : ShelfState} {o : Output} {result : Result Turned Failed} where
  writes_none : wrote_all result ≡ Ok tt → KeepsFiles s.files t.files → t.slots o.writer.slot ≡ s.slots o.writer.slot → IsMadeIn s.slots o.writer.slot → t.writing_faults ≡ s.writing_faults → s.reading_faults.count ≤ t.reading_faults.count → WritesOutput s t o o result
  writes_none wrote keeps slot made same reading = record {
    slot = refl;
    made = ap (option_map (λ (f : Open). f.made)) slot ∙ made;
    holds = λ files name held. ([], holds_beside files s t o.writer name (capture_bytes []) held keeps slot);
    unwritten = subst (λ (r : Result Unit Failed). OnErr r (Rose s.writing_faults t.writing_faults)) (sym wrote) tt;
    written = subst (λ (r : Result Unit Failed). OnOk r (t.writing_faults ≡ s.writing_faults)) (sym wrote) same;
    falls = omega (arith, same);
    reading = reading;
  }

pub input_unread : {s t : ShelfState} {listener : ListenState} {o : Output} {out : SinkState} {waits : List ℕ} (asked : Turning) (fault : OpenFault) → IsMadeIn s.slots o.writer.slot → TriesOpen {T = Sourcing} slot_of s t asked.input (Err fault)
    → TurnsInput asked s t listener o o out out waits waits (Ok (unread_as fault))
input_unread {s} {t} {o = o} {out} {waits} asked fault made tries = record {
  told = λ shape bytes files all told has shown fresh stands going plan whole.
      none_to asked shape files t o (written out.held waits) bytes (FailsAgain bytes (FailsAt s.reading_faults t.reading_faults)) (fresh_still asked shape files s t o tries.refused.files (tries.refused.slots o.writer.slot) fresh) fault
      (λ is. missing_not s.files all asked.input bytes told has (tries.missing is)) (λ is. inr (tries.counted.failed is, refl));
  slots = record { same = λ j. ap (option_map file_of) (tries.refused.slots j); left = λ j apart. ap (option_and_then (λ (f : Open). f.left)) (tries.refused.slots j) };
  writes = writes_none (unread_wrote fault) tries.refused.files (tries.refused.slots o.writer.slot) made tries.refused.writing tries.refused.reading;
  fault = λ presented is. unread_fault fault presented tries is;
  quiet = λ how is other. unread_quiet fault how s.reading_faults t.reading_faults is other;
  asks = tries.refused.asked;
  sink = sink_still out (unread_as fault);
}

-- a read fault of the second reading, under a weaker condition
pub again_weaker : (bytes : List ℕ) (a b : FaultPlace → Type 0) → ((place : FaultPlace) → a place → b place) → (place : FaultPlace) → FailsAgain bytes a place → FailsAgain bytes b place
again_weaker bytes a b weaker place fails = elim fails [ inl here ↦ inl (weaker place here) | inr opening ↦ inr (weaker fault_place.Opening opening.0, opening.1) ]

-- ---- a capture that was opened again

-- a capture is opened in one slot, and that slot differs from the slot of the file that is written
opened_apart : {s t : ShelfState} {source : Sourcing} (asked : Turning) (w : ℕ) → IsMadeIn s.slots w → OpensSource s t asked.listener.limit asked.input (Ok source) → slot_of source ≢ w
opened_apart {s} asked w made opens same =
    let none : s.slots w ≡ None = subst (λ (n : ℕ). s.slots n ≡ None) same opens.tries.opened.free in
    let t : option_map (λ (f : Open). f.made) None ≡ Some true = ap (option_map (λ (f : Open). f.made)) (sym none) ∙ made in
    cc

pub opened_open : {s t : ShelfState} {source : Sourcing} (asked : Turning) (o : Output) → IsMadeIn s.slots o.writer.slot → OpensSource s t asked.listener.limit asked.input (Ok source) → AreOpenIn t.slots source o
opened_open asked o made opens =
    let apart = opened_apart asked o.writer.slot made opens in
    record {
      apart = apart;
      live = opens.tries.opened.live;
      made = ap (option_map (λ (f : Open). f.made)) (opens.tries.opened.others o.writer.slot (λ e. apart (sym e))) ∙ made;
    }

pub still_live : {s t u : ShelfState} {source source' : Sourcing} {listener : ListenState} {old new : Output} {out out' : SinkState} {waits waits' : List ℕ} {result : Result Turned Failed} (asked : Turning) → OpensSource s t asked.listener.limit asked.input (Ok source)
    → Turns t u source source' listener old new out out' waits waits' result → IsSome (u.slots (slot_of source'))
still_live {t = t} {u} {source} asked opens turns =
    subst (λ (n : ℕ). IsSome (u.slots n)) (sym turns.slot) (live_same (t.slots (slot_of source)) (u.slots (slot_of source)) (turns.same (slot_of source)) opens.tries.opened.live)

module _ {s t u v : ShelfState} {source source' : Sourcing} {listener : ListenState} {old new : Output} {out out' : SinkState} {waits waits' : List ℕ} {result : Result Turned Failed} (asked : Turning) (made : IsMadeIn s.slots old.writer.slot)
    (opens : OpensSource s t asked.listener.limit asked.input (Ok source)) (turns : Turns t u source source' listener old new out out' waits waits' result) (closes : ClosesSlot u v (slot_of source')) where
  apart_here : slot_of source ≢ old.writer.slot
  apart_here = opened_apart asked old.writer.slot made opens

  opened_same : t.slots old.writer.slot ≡ s.slots old.writer.slot
  opened_same = opens.tries.opened.others old.writer.slot (λ e. apart_here (sym e))

  closed_same : v.slots old.writer.slot ≡ u.slots old.writer.slot
  closed_same = closes.others old.writer.slot (λ e. apart_here (sym turns.slot ∙ sym e))

  closed_new : v.slots new.writer.slot ≡ u.slots new.writer.slot
  closed_new = subst (λ (n : ℕ). v.slots n ≡ u.slots n) (sym turns.writes.slot) closed_same

  fails_around : (place : FaultPlace) → FailsAt t.reading_faults u.reading_faults place → FailsAt s.reading_faults v.reading_faults place
  fails_around place = around (λ before after. FailsAt before after place) opens.tries.counted.ok closes.reading

  input_told : (shape : Option Shape) (bytes : List ℕ) (files : Option Files) (all : Files) → s.files ≡ Some all → all asked.input ≡ Some bytes → IsFreshOutput asked shape files s old → StandsFor [] 0 listener → is_closed listener ≡ false → listener.plan ≡ plan_of asked.listener
      → TurnsTo asked shape bytes (FailsAgain bytes (FailsAt s.reading_faults v.reading_faults)) files v new (written out.held waits) (written out'.held waits') result
  input_told shape bytes files all told has fresh stands going plan =
      let begun = opens.begun all told in
      let same : begun.0 ≡ bytes = some_same (all asked.input) begun.0 bytes begun.1 has in
      turned_still asked shape files u v new closes.files closed_new (written out.held waits) (written out'.held waits') bytes (FailsAt t.reading_faults u.reading_faults) (FailsAgain bytes (FailsAt s.reading_faults v.reading_faults)) result (λ place fails. inl (fails_around place fails))
      (turns.told asked shape bytes files (record {
        fresh = fresh_still asked shape files s t old opens.tries.opened.files opened_same fresh;
        named = opens.tries.opened.named (subst IsSome (sym told) refl);
        given = subst (λ (b : List ℕ). HasGivenOf asked.listener.limit b t source []) same begun.2;
        stands = stands;
        going = going;
        plan = plan;
      }))

  -- the slot that was read is free again, and each other slot keeps its file
  input_slots : KeepsOtherFiles s.slots v.slots (name_in s.slots old.writer.slot)
  input_slots =
      let k : ℕ = slot_of source in
      let free : s.slots k ≡ None = opens.tries.opened.free in
      let ended : v.slots k ≡ None = subst (λ (n : ℕ). v.slots n ≡ None) turns.slot closes.ended in
      let closed : (j : ℕ) → j ≢ k → v.slots j ≡ u.slots j = λ j differs. closes.others j (λ e. differs (e ∙ turns.slot)) in
      record {
        same = λ j. elim (eqb_tells j k) [
          | inl at ↦ subst (λ (n : ℕ). option_map file_of (v.slots n) ≡ option_map file_of (s.slots n)) (sym at.1) (ap (option_map file_of) (ended ∙ sym free))
          | inr other ↦ ap (option_map file_of) (closed j other.1) ∙ turns.same j ∙ ap (option_map file_of) (opens.tries.opened.others j other.1)
        ];
        left = λ j names. elim (eqb_tells j k) [
          | inl at ↦ subst (λ (n : ℕ). left_in v.slots n ≡ left_in s.slots n) (sym at.1) (ap (option_and_then (λ (f : Open). f.left)) (ended ∙ sym free))
          | inr other ↦
              let opened = opens.tries.opened.others j other.1 in
              ap (option_and_then (λ (f : Open). f.left)) (closed j other.1)
              ∙ turns.left j other.1 (λ e. names (sym (ap (option_and_then (λ (f : Open). f.name)) opened) ∙ e ∙ ap (option_and_then (λ (f : Open). f.name)) opened_same))
              ∙ ap (option_and_then (λ (f : Open). f.left)) opened
        ];
      }

  input_writes : WritesOutput s v old new result
  input_writes = record {
    slot = turns.writes.slot;
    made = ap (option_map (λ (f : Open). f.made)) closed_same ∙ turns.writes.made;
    holds = λ files name held.
        let mid = turns.writes.holds files name (holds_beside files s t old.writer name (capture_bytes []) held opens.tries.opened.files opened_same) in
        (mid.0, holds_beside files u v new.writer name (capture_bytes mid.0) mid.1 closes.files closed_new);
    unwritten = subst (λ (n : ℕ). OnErr (wrote_all result) (Rose n v.writing_faults)) opens.tries.opened.writing
        (subst (λ (n : ℕ). OnErr (wrote_all result) (Rose t.writing_faults n)) (sym closes.writing) turns.writes.unwritten);
    written = subst (λ (n : ℕ). OnOk (wrote_all result) (v.writing_faults ≡ n)) opens.tries.opened.writing
        (subst (λ (n : ℕ). OnOk (wrote_all result) (n ≡ t.writing_faults)) (sym closes.writing) turns.writes.written);
    falls = omega (arith, opens.tries.opened.writing, turns.writes.falls, closes.writing);
    reading = omega (arith, opens.tries.opened.reading, turns.writes.reading, same_count closes.reading);
  }

  pub input_turned : TurnsInput asked s v listener old new out out' waits waits' result
  input_turned = record {
    told = λ shape bytes files all told has shown fresh stands going plan whole. input_told shape bytes files all told has fresh stands going plan;
    slots = input_slots;
    writes = input_writes;
    fault = λ presented is. inl (around HasOneMore opens.tries.counted.ok closes.reading (turns.counted end.ReadFault (ap ended_turn is)));
    quiet = λ how is other. closes.reading ∙ quiet_end how t.reading_faults u.reading_faults other (turns.counted how is) ∙ opens.tries.counted.ok;
    asks = λ earlier was. closes.asked (earlier ++ asked.input ∷ []) (turns.asked (earlier ++ asked.input ∷ []) (opens.tries.opened.asked earlier was));
    sink = turns.sink;
  }
