-- How far a capture was checked, and what was printed of it.
use Rattle.std.proofs.Common.{◌≡◌, ℕ, ◌+◌, List, [], ◌∷◌, ◌++◌, map, refl, ap, ◌∙◌, append-nil, sym, append_assoc, length, Option, subst, Ok, arith, length-append, take, Result, Some, Bool, true, false, if◌then◌else◌, inl, inr, None, ◌≤◌, Err}
use Rattle.std.specs.Prelude.{flat_map, ◌⊎◌, ◌==◌, IfOk}
use Rattle.std.proofs.lemmas.Grind.{flat_map-append}
use Rattle.avtp_base.specs.Faults.{ReadingFaults}
use Rattle.pcap_frames.specs.Capture.{Record}
use Rattle.sequence_track.specs.declared.seen.Seen.{Seen}
use Rattle.avtp_text.specs.Listen.{capture_line}
use Rattle.avtp_base.specs.declared.failed.FaultPlace.{FaultPlace}
use Rattle.avtp_base.specs.Told.{Appends, Keeps}
use Rattle.sequence_track.specs.declared.stream.StreamKey.{StreamKey}
use Rattle.sequence_track.specs.declared.stream.StreamState.{StreamState}
use Rattle.sequence_track.specs.Tracking.{StandsFor}
use Rattle.capture_io.specs.Source.{HasGiven, Sourcing}
use Rattle.avtp_base.proofs.Told.{Appends-trans, Appends-kept}
use Rattle.avtp_text.specs.Written.{written, AppendsPrefix}
use Rattle.avtp_base.specs.States.{SinkState}
use Rattle.capture_io.specs.Formats.{records_in}
use Rattle.avtp_text.proofs.Printing.{prefix_before}
use Rattle.avtp_base.specs.declared.failed.Failed.{Failed}
use Rattle.capture_io.specs.declared.end.End.{End}
use Rattle.capture_io.specs.Ends.{CountsFault}
use Rattle.avtp_base.specs.Files.{Files}
use Rattle.capture_io.specs.declared.end.End.TheVariants as end
use Rattle.run_report.specs.Lines.{of_each}
use Rattle.run_report.proofs.Lines.{each_none, each_more, each_first}
use Rattle.run_report.specs.declared.status.Status.{Status}
use Rattle.run_report.specs.Outcome.{EndsWith, CountsReading}
use Rattle.run_report.specs.Yield.{HandsNothing, GivesPart}
use Rattle.run_report.proofs.DoesFile.{IsReadAndTold}
use Rattle.run_report.proofs.Outcomes.{tells_end, TellsFault, counts_by}
use Rattle.run_report.proofs.Yields.{part_text}
use Rattle.run_report.specs.Reading.{file_yield, IsReadingStatus}
use Rattle.run_report.specs.Halt.{no_halt}
use Rattle.run_report.proofs.Leaving.{own_as, own_ended}
use Rattle.run_report.specs.declared.status.Status.TheVariants as status
use Rattle.check_command.specs.Check.{joined_lines, checked_record, noted, notes_of, check_lines, found_lines, check_report, check_status, total_line}
use Rattle.check_command.specs.state.Check.{PrintsFound, HasChecked}
use Rattle.check_command.specs.declared.command.Total.{Total}

-- ---- lists

pub flat_lines : {A : Type 0} (line : A → List ℕ) (xs : List A) → joined_lines (map line xs) ≡ flat_map line xs
flat_lines line [] = refl
flat_lines line (x ∷ xs) = ap (λ rest. line x ++ rest) (flat_lines line xs)

pub notes_more : (records : List Record) (r : Record) → notes_of (records ++ r ∷ []) ≡ notes_of records ++ noted (checked_record r.bytes)
notes_more records r = flat_map-append (λ (x : Record). noted (checked_record x.bytes)) records (r ∷ []) ∙ ap (λ (rest : List Seen). notes_of records ++ rest) (append-nil (noted (checked_record r.bytes)))

-- ---- the text

abbrev pub text_of : List ℕ → List Record → List ℕ
text_of name records = capture_line name ++ joined_lines (of_each check_lines records)

text_none : (name : List ℕ) → text_of name [] ≡ capture_line name
text_none name = ap (λ (lines : List (List ℕ)). capture_line name ++ joined_lines lines) (each_none check_lines) ∙ append-nil (capture_line name)

text_more : (name : List ℕ) (records : List Record) (r : Record) → text_of name (records ++ r ∷ []) ≡ text_of name records ++ joined_lines (check_lines records r)
text_more name records r =
    ap (λ (lines : List (List ℕ)). capture_line name ++ joined_lines lines) (each_more check_lines records r)
    ∙ ap (λ (t : List ℕ). capture_line name ++ t) (flat_map-append (λ (line : List ℕ). line) (of_each check_lines records) (check_lines records r))
    ∙ sym (append_assoc (capture_line name) (joined_lines (of_each check_lines records)) (joined_lines (check_lines records r)))

pub text_first : (name : List ℕ) (records others : List Record) → (rest : List ℕ) × (text_of name (records ++ others) ≡ text_of name records ++ rest)
text_first name records others =
    let first = each_first check_lines records others in (
      joined_lines first.0,
      ap (λ (lines : List (List ℕ)). capture_line name ++ joined_lines lines) first.1
          ∙ ap (λ (t : List ℕ). capture_line name ++ t) (flat_map-append (λ (line : List ℕ). line) (of_each check_lines records) first.0)
          ∙ sym (append_assoc (capture_line name) (joined_lines (of_each check_lines records)) (joined_lines first.0)),
    )

-- ---- the records so far

pub record IsCheckedTo (limit : ℕ) (name bytes : List ℕ) (remains : Option (List ℕ)) (source : Sourcing) (tracker : List (StreamKey × StreamState)) (frames found : ℕ) (before now : Option (List ℕ)) : Type 0 where
  pub records : List Record
  pub given : HasGiven limit bytes remains source records
  pub stands : StandsFor tracker (notes_of records)
  pub counted : frames ≡ length records
  pub total : found ≡ length (of_each check_lines records)
  pub lines : Appends before now (text_of name records)

pub none_checked : {limit : ℕ} {bytes : List ℕ} {remains : Option (List ℕ)} {source : Sourcing} {tracker : List (StreamKey × StreamState)} {before now : Option (List ℕ)} (name : List ℕ) → HasGiven limit bytes remains source [] → StandsFor tracker []
    → Appends before now (capture_line name) → IsCheckedTo limit name bytes remains source tracker 0 0 before now
none_checked {before = before} {now} name given stands line = record {
  records = [];
  given = given;
  stands = stands;
  counted = refl;
  total = sym (ap (λ (lines : List (List ℕ)). length lines) (each_none check_lines));
  lines = subst (Appends before now) (sym (text_none name)) line;
}

pub one_checked : {limit : ℕ} {name bytes : List ℕ} {remains remains' : Option (List ℕ)} {source source' : Sourcing} {tracker tracker' : List (StreamKey × StreamState)} {frames found n : ℕ} {before : Option (List ℕ)} {h h' : SinkState} {w w' : List ℕ} (r : Record)
    → (to : IsCheckedTo limit name bytes remains source tracker frames found before (written h.held w)) → HasGiven limit bytes remains' source' (to.records ++ r ∷ [])
    → ((notes : List Seen) → StandsFor tracker notes → StandsFor tracker' (notes ++ noted (checked_record r.bytes)))
    → ((notes : List Seen) → StandsFor tracker notes → PrintsFound h h' w w' (Ok n) (found_lines (frames + 1) notes (checked_record r.bytes)))
    → IsCheckedTo limit name bytes remains' source' tracker' (frames + 1) (found + n) before (written h'.held w')
one_checked {name = name} {tracker' = tracker'} {frames} {found} {n} {before} {h} {h'} {w} {w'} r to given stands prints =
    let records = to.records in
    let here = prints (notes_of records) to.stands in
    let lines : found_lines (frames + 1) (notes_of records) (checked_record r.bytes) ≡ check_lines records r = ap (λ (k : ℕ). found_lines (k + 1) (notes_of records) (checked_record r.bytes)) to.counted in
    let more : length (of_each check_lines (records ++ r ∷ [])) ≡ length (of_each check_lines records) + length (check_lines records r) =
    ap (λ (ls : List (List ℕ)). length ls) (each_more check_lines records r) ∙ length-append (of_each check_lines records) (check_lines records r) in
    let counted : n ≡ length (check_lines records r) = here.counted ∙ ap (λ (ls : List (List ℕ)). length ls) lines in
    let count = to.counted in
    let sum = to.total in
    record {
      records = records ++ r ∷ [];
      given = given;
      stands = subst (StandsFor tracker') (sym (notes_more records r)) (stands (notes_of records) to.stands);
      counted = simp length-append (omega (arith, count));
      total = omega (arith, more, counted, sum);
      lines = subst (Appends before (written h'.held w')) (sym (text_more name records r))
          (Appends-trans before (written h.held w) (written h'.held w') (text_of name records) (joined_lines (check_lines records r)) to.lines (subst (λ (ls : List (List ℕ)). Appends (written h.held w) (written h'.held w') (joined_lines ls)) lines here.written));
    }

-- writing the pending text changes nothing about the records that were checked so far
pub checked_kept : {limit : ℕ} {name bytes : List ℕ} {remains : Option (List ℕ)} {source : Sourcing} {tracker : List (StreamKey × StreamState)} {frames found : ℕ} {before mid now : Option (List ℕ)}
    → IsCheckedTo limit name bytes remains source tracker frames found before mid → Keeps mid now → IsCheckedTo limit name bytes remains source tracker frames found before now
checked_kept to kept = record { records = to.records; given = to.given; stands = to.stands; counted = to.counted; total = to.total; lines = Appends-kept _ _ _ _ to.lines kept }

-- ---- cut short

-- a prefix of the line with the capture's name is a prefix of the text that `check` prints of the capture
pub name_checked : {before now : Option (List ℕ)} (limit : ℕ) (bytes name : List ℕ) → AppendsPrefix before now (capture_line name) → AppendsPrefix before now (text_of name (records_in (take limit bytes)))
name_checked {before} {now} limit bytes name prefix = prefix_before before now (capture_line name) (joined_lines (of_each check_lines (records_in (take limit bytes)))) prefix

-- ---- what `check` yields for a file

pub check_told : {h h' : SinkState} {w w' : List ℕ} {result : Result Status Failed} (limit : ℕ) (name bytes : List ℕ) (fault : FaultPlace → Type 0) (total : Total) (before : Option (List ℕ)) → HasChecked limit name bytes fault total before (written h.held w)
    → EndsWith (check_status total.findings total.end) h h' w w' result (total_line limit total.frames total.streams total.findings total.end) → IsReadAndTold (check_report limit name) HandsNothing limit bytes fault total.end before (written h'.held w') result
check_told limit name bytes fault total before c ends = record {
  records = c.records;
  ends = c.ends;
  tells = tells_end (text_of name c.records) [] (ap (λ (k : ℕ). check_status k total.end) c.found, rw (c.frames, c.streams, c.found) refl) c.lines refl ends;
}

pub some_lines : (limit : ℕ) (name bytes : List ℕ) (before now : Option (List ℕ)) → AppendsPrefix before now (text_of name (records_in (take limit bytes))) → GivesPart HandsNothing before now (file_yield (check_report limit name) limit (Some bytes) no_halt)
some_lines limit name bytes before now prefix = part_text refl _ (prefix_before before now (text_of name (records_in (take limit bytes))) _ prefix)

-- if a capture was read to its end, the status is `Done` or `Findings`
found_done : (found : ℕ) → (check_status found end.Whole ≡ status.Done) ⊎ (check_status found end.Whole ≡ status.Findings)
found_done found =
    elim (found == 0) as (λ (b : Bool). ((if b then status.Done else status.Findings) ≡ status.Done) ⊎ ((if b then status.Done else status.Findings) ≡ status.Findings)) [ true ↦ inl refl | false ↦ inr refl ]

checks_fault : (found : ℕ) (how : End) (before after : ReadingFaults) → CountsFault None (Some how) before after → TellsFault (check_status found how) before after
checks_fault found end.Whole before after counts =
    inl (
      elim (found_done found) [
        | inl done ↦ λ e. (let t : status.ReadFault ≡ status.Done = sym e ∙ done in cc)
        | inr findings ↦ λ e. (let t : status.ReadFault ≡ status.Findings = sym e ∙ findings in cc)
      ],
      counts,
    )
checks_fault found (end.Refused refusal) before after counts = inl (λ e. cc, counts)
checks_fault found end.ReadFault before after counts = inr (refl, counts)
checks_fault found end.Limit before after counts = inl (λ e. cc, counts)

pub counts_checked : {before after : ReadingFaults} {names : List (List ℕ)} {files : Option Files} (found : ℕ) (how : End) (result : Result Status Failed) → before.count ≤ after.count → CountsFault None (Some how) before after
    → IfOk result (λ s. s ≡ check_status found how) → CountsReading names files before after result
counts_checked {before} {after} found how result falls counts is = counts_by (check_status found how) result falls (checks_fault found how before after counts) is

pub own_checked : (found : ℕ) (how : End) (result : Result Status Failed) → IfOk result (λ s. s ≡ check_status found how) → IsReadingStatus result
own_checked found how (Err e) is = tt
own_checked found end.Whole (Ok s) is = elim (found_done found) [
  | inl done ↦ own_as (Ok s) status.Done refl (is ∙ done)
  | inr findings ↦ own_as (Ok s) status.Findings refl (is ∙ findings)
]
own_checked found (end.Refused refusal) (Ok s) is = own_ended (Ok s) (end.Refused refusal) is
own_checked found end.ReadFault (Ok s) is = own_ended (Ok s) end.ReadFault is
own_checked found end.Limit (Ok s) is = own_ended (Ok s) end.Limit is
