-- A run of `gateway` after its scan: OUT is made, IN is read again, and OUT is finished.
use Rattle.std.proofs.Common.{ℕ, List, Option, Some, None, ◌≡◌, ◌≢◌, refl, ap, ◌∙◌, sym, ◌-◌, ◌++◌, Result, Ok, Err, true, false, take, length, inl, inr, subst, arith, append-nil, [], ◌∷◌, ◌≤◌, append_assoc}
use Rattle.std.specs.Prelude.{IsSome, ◌==◌, if◌then◌else◌, flat_map, IfOk, IsErr, ◌⊎◌, map}
use Rattle.avtp_base.specs.declared.failed.FaultPlace.{FaultPlace}
use Rattle.avtp_base.specs.Files.{Files, PutsFile, IsMissing}
use Rattle.avtp_base.specs.declared.failed.Failed.{Failed}
use Rattle.avtp_base.specs.States.{SinkState, ShelfState, WasAsked}
use Rattle.avtp_base.specs.Told.{Appends}
use Rattle.avtp_base.proofs.Told.{Appends-trans, Keeps-refl}
use Rattle.avtp_text.specs.Written.{written, AppendsPrefix}
use Rattle.avtp_text.proofs.Printing.{prefix_after, prefix_none, prefix_whole, prefix_before}
use Rattle.capture_io.specs.declared.end.End.{End}
use Rattle.capture_io.specs.Formats.{records_in}
use Rattle.sample_schedule.specs.Batches.{Presented}
use Rattle.avtp_words.specs.Grammar.{Turning}
use Rattle.capture_io.specs.Ends.{end_of, EndsAt}
use Rattle.am824_gateway.specs.declared.scan.Shape.{Shape}
use Rattle.capture_io.specs.Writing.{MakesPrefix, PutsPrefix}
use Rattle.avtp_base.proofs.Files.{KeepsFiles-refl}
use Rattle.avtp_base.specs.declared.failed.OpenFault.{OpenFault}
use Rattle.capture_io.specs.CaptureWriting.{BeginsCapture, ClosesCapture, FinishesCapture, HoldsCapture, capture_bytes}
use Rattle.avtp_base.specs.Faults.{FailsAt, HasOneMore, ReadingFaults}
use Rattle.listener.specs.Listening.{ListenState, StandsFor, is_closed}
use Rattle.pcap_frames.specs.Capture.{Record}
use Rattle.capture_io.proofs.Ending.{ends_weaker}
use Rattle.talker.specs.Frames.{record_of}
use Rattle.am824_gateway.specs.declared.scan.To.{To}
use Rattle.am824_gateway.specs.Gateways.{Gating}
use Rattle.am824_gateway.specs.Pieces.{nothing_given}
use Rattle.capture_io.specs.declared.end.End.TheVariants as end
use Rattle.avtp_base.specs.declared.failed.OpenFault.TheVariants as open_fault
use Rattle.run_report.specs.Made.{KeepsFilesBut, MakesOutput, Produces, CountsWriting}
use Rattle.run_report.specs.declared.status.Status.{Status}
use Rattle.run_report.specs.Outcome.{EndsWith, TellsText, AsksFor, CountsReading, IsOneMissing, KeepsSink}
use Rattle.run_report.proofs.Outcomes.{IsCut, tells_cut, sink_still, ok_same, sink_ok, sink_err, sink_then}
use Rattle.run_report.proofs.Making.{files_still, slots_still, kept_but, slots_but, capture_first, prefix_further, whole_prefix, slots_closed}
use Rattle.run_report.specs.Endings.{unmade_as}
use Rattle.run_report.specs.Listener.{plan_of}
use Rattle.run_report.specs.declared.status.Status.TheVariants as status
use Rattle.gateway_command.specs.Gateway.{turned_status, batches_by, skips_in, turned_capture, turned_text, skipped_line, turned_last, turned_frames, format_of, FailsAgain}
use Rattle.gateway_command.specs.state.Gateway.{is_of_gateway, TurnedOutcome, TurnsFile, EndsOutput, finished, unfinished, TurnsInput, ended_line}
use Rattle.gateway_command.specs.declared.turning.Output.{Output}
use Rattle.gateway_command.specs.declared.turning.Turned.{Turned}
use Rattle.gateway_command.specs.state.Turning.{IsCutShort, TurnsTo, HasPut, IsFreshOutput}
use Rattle.gateway_command.proofs.PutBatches.{batches_count, packets_count}
use Rattle.gateway_command.specs.declared.turning.Turned.TheVariants as turn
use Rattle.gateway_command.proofs.TurnedInput.{again_weaker}
use Rattle.run_report.proofs.DoesFile.{around}
use Rattle.run_report.proofs.Leaving.{same_count}

-- ---- files

-- writing a file leaves all other files unchanged
puts_but : (f g : Option Files) (name bytes : List ℕ) → PutsFile f g name bytes → KeepsFilesBut (Some name) f g
puts_but None None name bytes put = tt
puts_but None (Some g) name bytes put = absurd put
puts_but (Some f) None name bytes put = tt
puts_but (Some f) (Some g) name bytes put = put.1

told_put : (f g : Option Files) (name bytes : List ℕ) (all : Files) → f ≡ Some all → PutsFile f g name bytes → IsSome g → (now : Files) × (g ≡ Some now) × ((other : List ℕ) → other ≢ name → now other ≡ all other)
told_put None g name bytes all is put some = absurd cc
told_put (Some f) None name bytes all is put some = absurd cc
told_put (Some f) (Some g) name bytes all is put some = (g, refl, λ other differs. put.1 other differs ∙ ap (λ (h : Files). h other) (some_is f all is)) where
  some_is : (x y : Files) → Some x ≡ Some y → x ≡ y
  some_is x y e = cc

some_before : (f g : Option Files) (name bytes : List ℕ) → PutsFile f g name bytes → IsSome g → IsSome f
some_before None None name bytes put some = some
some_before None (Some g) name bytes put some = absurd put
some_before (Some f) g name bytes put some = refl

some_of : (f : Option Files) → IsSome f → (all : Files) × (f ≡ Some all)
some_of None some = absurd cc
some_of (Some all) some = (all, refl)

-- writing the file `name` does not make the file `other` missing
missing_put : (f g : Option Files) (name bytes other : List ℕ) → other ≢ name → PutsFile f g name bytes → IsMissing g other → IsMissing f other
missing_put f None name bytes other differs put missing = absurd missing
missing_put None (Some g) name bytes other differs put missing = absurd put
missing_put (Some f) (Some g) name bytes other differs put missing = sym (put.1 other differs) ∙ missing

-- ---- texts

text_end : {Outcome : Status → List ℕ → Type 0} {before : Option (List ℕ)} {h h' : SinkState} {w w' : List ℕ} {result : Result Status Failed} {ended : Status} {line : List ℕ} (text : List ℕ)
    → Outcome ended (text ++ line) → Appends before (written h.held w) text → EndsWith ended h h' w w' result line → TellsText Outcome before (written h'.held w') result
text_end {before = before} {h} {h'} {w} {w'} {result = Ok s} {ended} {line} text outcome first last =
    let all = Appends-trans before (written h.held w) (written h'.held w') text line first last.written in
    record { ended = ended; yields = text ++ line; outcome = outcome; whole = λ memory write. (last.status, all); part = prefix_whole before (written h'.held w') (text ++ line) all }
text_end {before = before} {h} {h'} {w} {w'} {result = Err e} {ended} {line} text outcome first last =
    record { ended = ended; yields = text ++ line; outcome = outcome; whole = tt; part = prefix_after before (written h.held w) (written h'.held w') text line first (prefix_none (written h.held w) (written h'.held w') line last.written) }

-- ---- statuses

of_gateway : (skipped : ℕ) (how : End) → is_of_gateway (turned_status skipped how) ≡ true
of_gateway skipped end.Whole = elim (skipped == 0) as (λ b. is_of_gateway (if b then status.Done else status.Findings) ≡ true) [ true ↦ refl | false ↦ refl ]
of_gateway skipped (end.Refused refusal) = refl
of_gateway skipped end.ReadFault = refl
of_gateway skipped end.Limit = refl

-- the status of a conversion is neither `Memory` nor `WriteFault`
turned_own : (skipped : ℕ) (how : End) → (turned_status skipped how ≢ status.Memory) × (turned_status skipped how ≢ status.WriteFault)
turned_own skipped end.Whole = elim (skipped == 0) as (λ b. ((if b then status.Done else status.Findings) ≢ status.Memory) × ((if b then status.Done else status.Findings) ≢ status.WriteFault)) [ true ↦ (λ e. cc, λ e. cc) | false ↦ (λ e. cc, λ e. cc) ]
turned_own skipped (end.Refused refusal) = (λ e. cc, λ e. cc)
turned_own skipped end.ReadFault = (λ e. cc, λ e. cc)
turned_own skipped end.Limit = (λ e. cc, λ e. cc)

-- the status is `ReadFault` if and only if the reading ended with a read fault
turned_fault : (skipped : ℕ) (how : End) → (turned_status skipped how ≡ status.ReadFault → how ≡ end.ReadFault) × (how ≡ end.ReadFault → turned_status skipped how ≡ status.ReadFault)
turned_fault skipped end.Whole = (elim (skipped == 0) as (λ b. (if b then status.Done else status.Findings) ≡ status.ReadFault → end.Whole ≡ end.ReadFault) [ true ↦ λ e. cc | false ↦ λ e. cc ], λ e. cc)
turned_fault skipped (end.Refused refusal) = (λ e. cc, λ e. cc)
turned_fault skipped end.ReadFault = (λ e. refl, λ e. refl)
turned_fault skipped end.Limit = (λ e. cc, λ e. cc)

-- ---- outcomes

-- all batches that a listener presents from the whole capture
abbrev pub all_batches : Turning → List ℕ → List Presented
all_batches asked bytes = batches_by asked (records_in (take asked.listener.limit bytes)) end.Whole

whole_outcome : (asked : Turning) (shape : Option Shape) (bytes : List ℕ) (fault : FaultPlace → Type 0) → end_of asked.listener.limit bytes ≡ end.Whole
    → TurnedOutcome asked shape bytes fault (turned_status (length (skips_in asked shape (all_batches asked bytes))) end.Whole) (turned_text asked shape (all_batches asked bytes) end.Whole) (Some (turned_capture asked shape (all_batches asked bytes)))
whole_outcome asked shape bytes fault whole = record { how = end.Whole; prefix = take asked.listener.limit bytes; ends = (sym whole, refl); status = refl; printed = refl; written = refl }

-- If a run was cut short, printed a prefix of the lines and wrote a prefix of the capture, `Produces` holds for the
-- run.
produces_cut : {before now : Option (List ℕ)} {f g : Option Files} {result : Result Status Failed} (asked : Turning) (shape : Option Shape) (bytes : List ℕ) (fault : FaultPlace → Type 0) → end_of asked.listener.limit bytes ≡ end.Whole → IsCut result
    → AppendsPrefix before now (flat_map skipped_line (skips_in asked shape (all_batches asked bytes))) → MakesPrefix f g asked.output (turned_capture asked shape (all_batches asked bytes))
    → Produces (TurnedOutcome asked shape bytes fault) (Some asked.output) before now f g result
produces_cut {before} {now} {f} {g} {result} asked shape bytes fault whole cut lines part = record {
  made = Some (turned_capture asked shape (all_batches asked bytes));
  tells = tells_cut _ (turned_text asked shape (all_batches asked bytes) end.Whole) (whole_outcome asked shape bytes fault whole) cut (prefix_before before now _ (turned_last asked shape (all_batches asked bytes) end.Whole) lines);
  whole = never result cut;
  begun = part;
} where
  never : (r : Result Status Failed) → IsCut r → IfOk r (λ s. s ≢ status.Memory → s ≢ status.WriteFault → MakesOutput (Some asked.output) (Some (turned_capture asked shape (all_batches asked bytes))) f g)
  never (Ok s) cut = λ memory write. elim cut [ inl is ↦ absurd (memory is) | inr is ↦ absurd (write is) ]
  never (Err e) cut = tt

-- ---- nothing was done

asks_none : {p : Type 0} (names : List (List ℕ)) (a : ShelfState) → (p → ⊥) → AsksFor names a a p
asks_none names a never = record { count = 0; within = omega arith; all = λ done. absurd (never done); asked = λ before stands. subst (WasAsked a.asked) (sym (append-nil before)) stands }

-- if memory ran out before OUT was created, nothing was done
pub turns_nothing : {s : ShelfState} {out : SinkState} {waits : List ℕ} (asked : Turning) (shape : Option Shape) → TurnsFile asked shape s s out out waits waits (Ok status.Memory)
turns_nothing {s} {out} {waits} asked shape = record {
  told = λ all bytes told has some whole. produces_cut asked shape bytes _ whole (inl refl) (prefix_none (written out.held waits) (written out.held waits) _ (Keeps-refl _)) (inl (KeepsFiles-refl s.files));
  files = files_still (Some asked.output) s.files;
  slots = slots_still s.files s.slots asked.output;
  reading = record { never_falls = omega arith; fault = λ e. absurd cc; quiet = λ fault memory write. refl };
  writing = record { never_falls = omega arith; failed = λ e. absurd cc; other = λ e. refl; unwritten = λ e. absurd cc };
  own = refl;
  asks = asks_none (asked.output ∷ asked.input ∷ []) s (λ d. d.0 refl);
  sink = sink_still out status.Memory;
}

pub turns_unmade : {s t : ShelfState} {out : SinkState} {waits : List ℕ} (asked : Turning) (shape : Option Shape) (why : OpenFault) → BeginsCapture s t asked.output (Err why) → TurnsFile asked shape s t out out waits waits (Ok (unmade_as why))
turns_unmade {s} {t} {out} {waits} asked shape why begins = record {
  told = λ all bytes told has some whole. produces_cut asked shape bytes _ whole (unmade_cut why) (prefix_none (written out.held waits) (written out.held waits) _ (Keeps-refl _)) (inl begins.not_made.files);
  files = kept_but s.files t.files asked.output begins.not_made.files;
  slots = slots_but s.files s.slots t.slots asked.output begins.not_made.slots;
  reading = record { never_falls = omega (arith, same_count begins.reading); fault = λ e. absurd (unmade_reads why (ok_same (Ok (unmade_as why)) (unmade_as why) status.ReadFault refl e)); quiet = λ fault memory write. begins.reading };
  writing = unmade_writes why begins;
  own = unmade_own why;
  asks = record { count = 1; within = omega arith; all = λ d. absurd (unmade_never why d); asked = begins.asked };
  sink = sink_still out (unmade_as why);
} where
  unmade_cut : (fault : OpenFault) → IsCut (Ok (unmade_as fault))
  unmade_cut open_fault.Memory = inl refl
  unmade_cut open_fault.Missing = inr refl
  unmade_cut open_fault.Failed = inr refl

  unmade_reads : (fault : OpenFault) → unmade_as fault ≢ status.ReadFault
  unmade_reads open_fault.Memory e = cc
  unmade_reads open_fault.Missing e = cc
  unmade_reads open_fault.Failed e = cc

  unmade_writes : (fault : OpenFault) → BeginsCapture s t asked.output (Err fault) → CountsWriting (Some asked.output) s.writing_faults t.writing_faults (Ok (unmade_as fault))
  unmade_writes open_fault.Memory b = record { never_falls = b.counted.never_falls; failed = λ e. absurd cc; other = λ e. b.counted.memory refl; unwritten = λ e. absurd cc }
  unmade_writes open_fault.Missing b = absurd (b.not_missing refl)
  unmade_writes open_fault.Failed b = record { never_falls = b.counted.never_falls; failed = λ e. b.counted.failed refl; other = λ e. absurd (e refl); unwritten = λ e. absurd cc }

  unmade_own : (fault : OpenFault) → is_of_gateway (unmade_as fault) ≡ true
  unmade_own open_fault.Memory = refl
  unmade_own open_fault.Missing = refl
  unmade_own open_fault.Failed = refl

  unmade_never : (fault : OpenFault) → (unmade_as fault ≢ status.Memory) × (unmade_as fault ≢ status.WriteFault) → ⊥
  unmade_never open_fault.Memory d = d.0 refl
  unmade_never open_fault.Missing d = d.1 refl
  unmade_never open_fault.Failed d = d.1 refl

-- ---- how the output is closed

-- The file of the output was closed.
pub record IsClosed (u v : ShelfState) (o : Output) : Type 0 where
  pub result : Result Unit Failed
  pub closes : ClosesCapture u v o.writer result

module _ (limit : ℕ) (u v : ShelfState) (o : Output) (mid out' : SinkState) (waits waits' : List ℕ) (result : Result Status Failed) where
  closed_by : (turned : Result Turned Failed) → EndsOutput limit turned u v o mid out' waits waits' result → IsClosed u v o
  closed_by (Ok (turn.Ended how presented)) (finished fin last) = record { result = Ok tt; closes = fin.closes }
  closed_by (Ok (turn.Ended how presented)) (unfinished e fin is nothing) = record { result = Err e; closes = fin.closes }
  closed_by (Ok turn.NoMemory) ab = record { result = Ok tt; closes = ab.closes }
  closed_by (Ok turn.Unwritten) ab = record { result = Ok tt; closes = ab.closes }
  closed_by (Err e) ab = record { result = Ok tt; closes = ab.closes }

-- ---- counts

ended_as : (result : Result Status Failed) (ended other : Status) → IfOk result (λ s. s ≡ ended) → result ≡ Ok other → ended ≡ other
ended_as (Ok s) ended other is e = sym is ∙ ok_same (Ok s) s other refl e
ended_as (Err x) ended other is e = absurd cc

ended_never : (result : Result Status Failed) (ended other : Status) → ended ≢ other → IfOk result (λ s. s ≡ ended) → result ≡ Ok other → ⊥
ended_never result ended other differs is e = differs (ended_as result ended other is e)

err_never : (result : Result Status Failed) (other : Status) → IsErr result → result ≡ Ok other → ⊥
err_never (Ok s) other err e = absurd cc
err_never (Err x) other err e = cc

cut_reading : {names : List (List ℕ)} {files : Option Files} {before after : ReadingFaults} (result : Result Status Failed) → before.count ≤ after.count → (result ≡ Ok status.Memory) ⊎ (result ≡ Ok status.WriteFault) → CountsReading names files before after result
cut_reading (Ok s) falls cut = record {
  never_falls = falls;
  fault = λ e. elim cut [
    | inl is ↦ absurd (let t : status.Memory ≡ status.ReadFault = ok_same (Ok s) status.Memory status.ReadFault is e in cc)
    | inr is ↦ absurd (let t : status.WriteFault ≡ status.ReadFault = ok_same (Ok s) status.WriteFault status.ReadFault is e in cc)
  ];
  quiet = λ fault memory write. elim cut [ inl is ↦ absurd (memory (ok_same (Ok s) s status.Memory refl is)) | inr is ↦ absurd (write (ok_same (Ok s) s status.WriteFault refl is)) ];
}
cut_reading (Err e) falls cut = record { never_falls = falls; fault = λ r. absurd cc; quiet = tt }

err_reading : {names : List (List ℕ)} {files : Option Files} {before after : ReadingFaults} (result : Result Status Failed) → before.count ≤ after.count → IsErr result → CountsReading names files before after result
err_reading (Ok s) falls err = absurd cc
err_reading (Err e) falls err = record { never_falls = falls; fault = λ r. absurd cc; quiet = tt }

module _ {s t u : ShelfState} (v : ShelfState) {o o' : Output} {listener : ListenState} {out mid : SinkState} (out' : SinkState) {waits waits1 : List ℕ} (waits' : List ℕ) (result : Result Status Failed) (asked : Turning) (begins : BeginsCapture s t asked.output (Ok o.writer)) where
  writing_by : (turned : Result Turned Failed) → TurnsInput asked t u listener o o' out mid waits waits1 turned → EndsOutput asked.listener.limit turned u v o' mid out' waits1 waits' result → CountsWriting (Some asked.output) s.writing_faults v.writing_faults result
  writing_by (Ok (turn.Ended how presented)) input (finished fin last) = record {
    never_falls = omega (arith, begins.counted.ok, input.writes.falls, fin.closes.counted.never_falls);
    failed = λ e. absurd (ended_never result _ status.WriteFault (turned_own _ how).1 last.status e);
    other = λ e. fin.closes.counted.ok ∙ input.writes.written ∙ begins.counted.ok;
    unwritten = λ e. absurd cc;
  }
  writing_by (Ok (turn.Ended how presented)) input (unfinished e fin is nothing) = record {
    never_falls = omega (arith, begins.counted.ok, input.writes.falls, fin.closes.counted.never_falls);
    failed = λ r. omega (arith, begins.counted.ok, input.writes.falls, fin.closes.counted.failed);
    other = λ r. absurd (r is);
    unwritten = λ r. absurd cc;
  }
  writing_by (Ok turn.NoMemory) input ab = record {
    never_falls = omega (arith, begins.counted.ok, input.writes.falls, ab.closes.counted.never_falls);
    failed = λ r. absurd (let t : status.Memory ≡ status.WriteFault = ok_same result status.Memory status.WriteFault ab.ended r in cc);
    other = λ r. ab.closes.counted.ok ∙ input.writes.written ∙ begins.counted.ok;
    unwritten = λ r. absurd cc;
  }
  writing_by (Ok turn.Unwritten) input ab = record {
    never_falls = omega (arith, begins.counted.ok, input.writes.falls, ab.closes.counted.never_falls);
    failed = λ r. omega (arith, begins.counted.ok, input.writes.unwritten, ab.closes.counted.never_falls);
    other = λ r. absurd (r ab.ended);
    unwritten = λ r. absurd cc;
  }
  writing_by (Err e) input ab = record {
    never_falls = omega (arith, begins.counted.ok, input.writes.falls, ab.closes.counted.never_falls);
    failed = λ r. absurd (err_never result status.WriteFault ab.ended r);
    other = λ r. ab.closes.counted.ok ∙ input.writes.written ∙ begins.counted.ok;
    unwritten = λ r. absurd cc;
  }

  reading_by : (turned : Result Turned Failed) → asked.input ≢ asked.output → TurnsInput asked t u listener o o' out mid waits waits1 turned → EndsOutput asked.listener.limit turned u v o' mid out' waits1 waits' result
      → v.reading_faults ≡ u.reading_faults → CountsReading (asked.input ∷ []) s.files s.reading_faults v.reading_faults result
  reading_by (Ok (turn.Ended how presented)) apart input (finished fin last) still = record {
    never_falls = omega (arith, same_count begins.reading, input.writes.reading, same_count still);
    fault = λ e. faulted how input (ended_fault how last.status e);
    quiet = quieted how input result last.status;
  } where
    ended_fault : (h : End) → IfOk result (λ x. x ≡ turned_status (presented - o'.gateway.given.batches) h) → result ≡ Ok status.ReadFault → h ≡ end.ReadFault
    ended_fault h is e = (turned_fault (presented - o'.gateway.given.batches) h).0 (ended_as result _ status.ReadFault is e)

    faulted : (h : End) → TurnsInput asked t u listener o o' out mid waits waits1 (Ok (turn.Ended h presented)) → h ≡ end.ReadFault → HasOneMore s.reading_faults v.reading_faults ⊎ IsOneMissing (asked.input ∷ []) s.files
    faulted h read is =
        elim (read.fault presented (ap (λ (x : End). Ok (turn.Ended x presented)) is)) [
          | inl once ↦ inl (around HasOneMore begins.reading still once)
          | inr missing ↦ inr (record { name = asked.input; one = (0, omega arith, refl); missing = missing_put s.files t.files asked.output begins.begun.held asked.input apart begins.begun.put missing })
        ]

    quieted : (h : End) → TurnsInput asked t u listener o o' out mid waits waits1 (Ok (turn.Ended h presented)) → (r : Result Status Failed) → IfOk r (λ x. x ≡ turned_status (presented - o'.gateway.given.batches) h)
        → IfOk r (λ x. x ≢ status.ReadFault → x ≢ status.Memory → x ≢ status.WriteFault → v.reading_faults ≡ s.reading_faults)
    quieted h read (Ok x) is = λ fault memory write. still ∙ read.quiet h refl (λ e. fault (is ∙ (turned_fault (presented - o'.gateway.given.batches) h).1 e)) ∙ begins.reading
    quieted h read (Err e) is = tt
  reading_by (Ok (turn.Ended how presented)) apart input (unfinished e fin is nothing) still = cut_reading result (omega (arith, same_count begins.reading, input.writes.reading, same_count still)) (inr is)
  reading_by (Ok turn.NoMemory) apart input ab still = cut_reading result (omega (arith, same_count begins.reading, input.writes.reading, same_count still)) (inl ab.ended)
  reading_by (Ok turn.Unwritten) apart input ab still = cut_reading result (omega (arith, same_count begins.reading, input.writes.reading, same_count still)) (inr ab.ended)
  reading_by (Err e) apart input ab still = err_reading result (omega (arith, same_count begins.reading, input.writes.reading, same_count still)) ab.ended

-- ---- the status and the sink

own_as : (result : Result Status Failed) (ended : Status) → is_of_gateway ended ≡ true → IfOk result (λ s. s ≡ ended) → IfOk result (λ s. is_of_gateway s ≡ true)
own_as (Ok s) ended own is = ap is_of_gateway is ∙ own
own_as (Err e) ended own is = tt

own_is : (result : Result Status Failed) (ended : Status) → is_of_gateway ended ≡ true → result ≡ Ok ended → IfOk result (λ s. is_of_gateway s ≡ true)
own_is result ended own is = subst (λ (r : Result Status Failed). IfOk r (λ s. is_of_gateway s ≡ true)) (sym is) own

own_err : (result : Result Status Failed) → IsErr result → IfOk result (λ s. is_of_gateway s ≡ true)
own_err (Ok s) err = absurd cc
own_err (Err e) err = tt

sink_is : {h h' h'' : SinkState} {x : Turned} (result : Result Status Failed) (ended : Status) → result ≡ Ok ended → h'' ≡ h' → KeepsSink h h' (Ok x) → KeepsSink h h'' result
sink_is {h} {h'} {h''} result ended is same sink = subst (λ (r : Result Status Failed). KeepsSink h h'' r) (sym is) (subst (λ (k : SinkState). KeepsSink {T = Status} h k (Ok ended)) (sym same) (sink_ok ended sink))

sink_fails : {h h' h'' : SinkState} {e : Failed} (result : Result Status Failed) → IsErr result → h'' ≡ h' → KeepsSink {T = Turned} h h' (Err e) → KeepsSink h h'' result
sink_fails (Ok s) err same sink = absurd cc
sink_fails {h} {h'} {h''} {e} (Err x) err same sink = subst (λ (k : SinkState). KeepsSink {T = Status} h k (Err x)) (sym same) (sink_err sink)

module _ (limit : ℕ) (u v : ShelfState) (o' : Output) (out mid out' : SinkState) (waits1 waits' : List ℕ) where
  ends_own : (turned : Result Turned Failed) (result : Result Status Failed) → EndsOutput limit turned u v o' mid out' waits1 waits' result → IfOk result (λ e. is_of_gateway e ≡ true)
  ends_own (Ok (turn.Ended how presented)) result (finished fin last) = own_as result _ (of_gateway (presented - o'.gateway.given.batches) how) last.status
  ends_own (Ok (turn.Ended how presented)) result (unfinished e fin is nothing) = own_is result status.WriteFault refl is
  ends_own (Ok turn.NoMemory) result ab = own_is result status.Memory refl ab.ended
  ends_own (Ok turn.Unwritten) result ab = own_is result status.WriteFault refl ab.ended
  ends_own (Err e) result ab = own_err result ab.ended

  ends_sink : (turned : Result Turned Failed) (result : Result Status Failed) → KeepsSink out mid turned → EndsOutput limit turned u v o' mid out' waits1 waits' result → KeepsSink out out' result
  ends_sink (Ok (turn.Ended how presented)) result sink (finished fin last) = sink_then sink last.sink
  ends_sink (Ok (turn.Ended how presented)) result sink (unfinished e fin is nothing) = sink_is result status.WriteFault is nothing.sink sink
  ends_sink (Ok turn.NoMemory) result sink ab = sink_is result status.Memory ab.ended ab.nothing.sink sink
  ends_sink (Ok turn.Unwritten) result sink ab = sink_is result status.WriteFault ab.ended ab.nothing.sink sink
  ends_sink (Err e) result sink ab = sink_fails result ab.ended ab.nothing.sink sink

-- ---- what was given out and made

line_is : (asked : Turning) (shape : Option Shape) (batches : List Presented) (presented : ℕ) (o : Output) (how : End) → presented ≡ length batches → o.gateway.given.packets ≡ length (turned_frames asked shape batches)
    → presented - o.gateway.given.batches ≡ length (skips_in asked shape batches) → ended_line asked.listener.limit presented o.gateway how ≡ turned_last asked shape batches how
line_is asked shape batches presented o end.Whole all packets skipped = rw (packets, skipped, all) refl
line_is asked shape batches presented o (end.Refused refusal) all packets skipped = refl
line_is asked shape batches presented o end.ReadFault all packets skipped = refl
line_is asked shape batches presented o end.Limit all packets skipped = refl

made_always : {P : Type 0} (result : Result Status Failed) → P → IfOk result (λ s. s ≢ status.Memory → s ≢ status.WriteFault → P)
made_always (Ok s) p = λ memory write. p
made_always (Err e) p = tt

cut_is : (result : Result Status Failed) → (result ≡ Ok status.Memory) ⊎ (result ≡ Ok status.WriteFault) → IsCut result
cut_is (Ok s) cut = elim cut [ inl is ↦ inl (ok_same (Ok s) s status.Memory refl is) | inr is ↦ inr (ok_same (Ok s) s status.WriteFault refl is) ]
cut_is (Err e) cut = tt

cut_err : (result : Result Status Failed) → IsErr result → IsCut result
cut_err (Ok s) err = absurd cc
cut_err (Err e) err = tt

module _ (s t u v : ShelfState) (o' : Output) (out mid out' : SinkState) (waits waits1 waits' : List ℕ) (asked : Turning) (shape : Option Shape) (bytes : List ℕ) (whole : end_of asked.listener.limit bytes ≡ end.Whole)
    (fails : (place : FaultPlace) → FailsAt t.reading_faults u.reading_faults place → FailsAt s.reading_faults v.reading_faults place) where
  first_part : {r : Result Unit Failed} → IsCutShort asked shape bytes s.files u o' (written out.held waits) (written mid.held waits1) → ClosesCapture u v o'.writer r → MakesPrefix s.files v.files asked.output (turned_capture asked shape (all_batches asked bytes))
  first_part short closes =
      let records : List Record = map record_of (turned_frames asked shape (all_batches asked bytes)) in
      let rest = capture_first records short.holds.count in
      inr (prefix_further rest.0 rest.1 (closes.prefix s.files asked.output (take short.holds.count records) short.holds.holds))

  cut_made : {r : Result Unit Failed} (result : Result Status Failed) → IsCut result → IsCutShort asked shape bytes s.files u o' (written out.held waits) (written mid.held waits1) → ClosesCapture u v o'.writer r → out' ≡ mid → waits' ≡ waits1
      → Produces (TurnedOutcome asked shape bytes (FailsAt s.reading_faults v.reading_faults)) (Some asked.output) (written out.held waits) (written out'.held waits') s.files v.files result
  cut_made result cut short closes same still =
      produces_cut asked shape bytes _ whole cut (rw (same, still) short.lines) (first_part short closes)

  outcome_by : (how : End) (prefix : List ℕ) → EndsAt asked.listener.limit (Some bytes) (FailsAgain bytes (FailsAt t.reading_faults u.reading_faults)) how prefix
      → TurnedOutcome asked shape bytes (FailsAt s.reading_faults v.reading_faults) (turned_status (length (skips_in asked shape (batches_by asked (records_in prefix) how))) how) (turned_text asked shape (batches_by asked (records_in prefix) how) how)
      (Some (turned_capture asked shape (batches_by asked (records_in prefix) how)))
  outcome_by how prefix ends = record { how = how; prefix = prefix; ends = ends_weaker asked.listener.limit (Some bytes) (FailsAgain bytes (FailsAt t.reading_faults u.reading_faults)) (FailsAgain bytes (FailsAt s.reading_faults v.reading_faults)) how prefix (again_weaker bytes _ _ fails) ends; status = refl; printed = refl; written = refl }

  produces_by : (turned : Result Turned Failed) (result : Result Status Failed) → TurnsTo asked shape bytes (FailsAgain bytes (FailsAt t.reading_faults u.reading_faults)) s.files u o' (written out.held waits) (written mid.held waits1) turned
      → EndsOutput asked.listener.limit turned u v o' mid out' waits1 waits' result
      → Produces (TurnedOutcome asked shape bytes (FailsAt s.reading_faults v.reading_faults)) (Some asked.output) (written out.held waits) (written out'.held waits') s.files v.files result
  produces_by (Ok (turn.Ended how presented)) result heard (finished fin last) =
      let batches : List Presented = batches_by asked (records_in heard.prefix) how in
      let given = heard.turned.put.given in
      let batches_are : o'.gateway.given.batches ≡ _ = ap (λ g. g.batches) given in
      let skipped : presented - o'.gateway.given.batches ≡ length (skips_in asked shape batches) = omega (arith, heard.counted, batches_count asked shape batches, batches_are) in
      let packets : o'.gateway.given.packets ≡ length (turned_frames asked shape batches) = ap (λ g. g.packets) given ∙ packets_count (format_of asked.to) shape asked.id batches in
      let line = line_is asked shape batches presented o' how heard.counted packets skipped in
      let ended : EndsWith (turned_status (length (skips_in asked shape batches)) how) mid out' waits1 waits' result (turned_last asked shape batches how) = rw (skipped, line) at last in
      let put = fin.put s.files asked.output _ heard.turned.holds in
      record {
        made = Some (turned_capture asked shape batches);
        tells = text_end (flat_map skipped_line (skips_in asked shape batches)) (outcome_by how heard.prefix heard.ends) heard.turned.lines ended;
        whole = made_always result put;
        begun = inr (whole_prefix s.files v.files asked.output _ put);
      }
  produces_by (Ok (turn.Ended how presented)) result heard (unfinished e fin is nothing) =
      let batches : List Presented = batches_by asked (records_in heard.prefix) how in
      record {
        made = Some (turned_capture asked shape batches);
        tells = tells_cut _ (turned_text asked shape batches how) (outcome_by how heard.prefix heard.ends) (cut_is result (inr is))
            (prefix_before (written out.held waits) (written out'.held waits') _ (turned_last asked shape batches how)
            (rw (nothing.sink, nothing.text) (prefix_whole (written out.held waits) (written mid.held waits1) _ heard.turned.lines)));
        whole = never _ result is;
        begun = inr (fin.closes.prefix s.files asked.output _ heard.turned.holds);
      } where
        never : (P : Type 0) (r : Result Status Failed) → r ≡ Ok status.WriteFault → IfOk r (λ x. x ≢ status.Memory → x ≢ status.WriteFault → P)
        never P (Ok x) is = λ memory write. absurd (write (ok_same (Ok x) x status.WriteFault refl is))
        never P (Err x) is = tt
  produces_by (Ok turn.NoMemory) result short ab = cut_made result (cut_is result (inl ab.ended)) short ab.closes ab.nothing.sink ab.nothing.text
  produces_by (Ok turn.Unwritten) result short ab = cut_made result (cut_is result (inr ab.ended)) short ab.closes ab.nothing.sink ab.nothing.text
  produces_by (Err e) result short ab = cut_made result (cut_err result ab.ended) short ab.closes ab.nothing.sink ab.nothing.text

-- ---- the file was made

pub ends_unfinished : {before after : ShelfState} (o : Output) (out : SinkState) (waits : List ℕ) (limit : ℕ) (so : Turned) (how : End) (presented : ℕ) (e : Failed) → so ≡ turn.Ended how presented → FinishesCapture before after o.writer (Err e)
    → EndsOutput limit (Ok so) before after o out out waits waits (Ok status.WriteFault)
ends_unfinished {before} {after} o out waits limit so how presented e is fin =
    subst (λ (x : Turned). EndsOutput limit (Ok x) before after o out out waits waits (Ok status.WriteFault)) (sym is) (unfinished e fin refl (record { sink = refl; text = refl }))

-- a new gateway was given no batch
pub put_none : {to : To} {g : Gating} (asked : Turning) (shape : Option Shape) → to ≡ format_of asked.to → g ≡ record { to = to; shape = shape; id = asked.id; given = nothing_given; frames = [] } → HasPut (format_of asked.to) shape asked.id [] g
put_none asked None is begun = record { to_is = cc; shape_is = cc; id_is = cc; given = cc }
put_none asked (Some shape) is begun = record { to_is = cc; shape_is = cc; id_is = cc; given = cc }

puts_again : (f g : Option Files) (name bytes : List ℕ) → PutsFile f g name bytes → PutsFile g g name bytes
puts_again f None name bytes put = tt
puts_again None (Some g) name bytes put = absurd put
puts_again (Some f) (Some g) name bytes put = (put.0, λ other differs. refl)

holds_again : (files : Option Files) (s : ShelfState) (w : _) (name : List ℕ) (records : List Record) → HoldsCapture files s w name records → HoldsCapture s.files s w name records
holds_again files s w name records h = record {
  held = h.held;
  split = h.split;
  put = puts_again files s.files name h.held h.put;
  made = h.made;
  named = λ told. h.named (some_before files s.files name h.held h.put told);
}

module _ {s t u : ShelfState} (v : ShelfState) {o o' : Output} {listener : ListenState} {out mid : SinkState} (out' : SinkState) {waits waits1 : List ℕ} (waits' : List ℕ) {turned : Result Turned Failed} (result : Result Status Failed) (asked : Turning) (shape : Option Shape)
    (apart : asked.input ≢ asked.output) (begins : BeginsCapture s t asked.output (Ok o.writer)) (input : TurnsInput asked t u listener o o' out mid waits waits1 turned)
    (ends : EndsOutput asked.listener.limit turned u v o' mid out' waits1 waits' result) where
  closed : IsClosed u v o'
  closed = closed_by asked.listener.limit u v o' mid out' waits1 waits' result turned ends

  held : (more : List Record) × HoldsCapture s.files u o'.writer asked.output more
  held = input.writes.holds s.files asked.output begins.begun

  part : PutsPrefix s.files v.files asked.output (capture_bytes held.0)
  part = closed.closes.prefix s.files asked.output held.0 held.1

  -- if the shelf shows its files at the end, it showed them before the output was closed
  shown_u : IsSome v.files → IsSome u.files
  shown_u told =
      let again = closed.closes.prefix u.files asked.output held.0 (holds_again s.files u o'.writer asked.output held.0 held.1) in
      some_before u.files v.files asked.output again.prefix again.put told

  shown_t : IsSome u.files → IsSome t.files
  shown_t told =
      let again = (input.writes.holds t.files asked.output (holds_again s.files t o.writer asked.output [] begins.begun)).1 in
      some_before t.files u.files asked.output again.held again.put told

  pub turns_file : HasPut (format_of asked.to) shape asked.id [] o.gateway → StandsFor [] 0 listener → is_closed listener ≡ false → listener.plan ≡ plan_of asked.listener → TurnsFile asked shape s v out out' waits waits' result
  turns_file none stands going plan = record {
    told = λ all bytes told has some whole.
        let still = shown_u some in
        let now = told_put s.files t.files asked.output begins.begun.held all told begins.begun.put (shown_t still) in
        let fresh : IsFreshOutput asked shape s.files t o = record { apart = apart; named = begins.begun.named (subst IsSome (sym told) refl); none = none; holds = begins.begun } in
        produces_by s t u v o' out mid out' waits waits1 waits' asked shape bytes whole (λ place. around (λ before after. FailsAt before after place) begins.reading closed.closes.reading) turned result
        (input.told shape bytes s.files now.0 now.1 (now.2 asked.input apart ∙ has) still fresh stands going plan whole) ends;
    files = puts_but s.files v.files asked.output part.prefix part.put;
    slots = slots_closed held.0 begins input.slots input.writes.slot held.1 closed.closes;
    reading = reading_by v out' waits' result asked begins turned apart input ends closed.closes.reading;
    writing = writing_by v out' waits' result asked begins turned input ends;
    own = ends_own asked.listener.limit u v o' out mid out' waits1 waits' turned result ends;
    asks = record {
      count = 2;
      within = omega arith;
      all = λ done. refl;
      asked = λ earlier stands.
          closed.closes.asked (earlier ++ asked.output ∷ asked.input ∷ [])
          (subst (WasAsked u.asked) (append_assoc earlier (asked.output ∷ []) (asked.input ∷ [])) (input.asks (earlier ++ asked.output ∷ []) (begins.asked earlier stands)));
    };
    sink = ends_sink asked.listener.limit u v o' out mid out' waits1 waits' turned result input.sink ends;
  }
