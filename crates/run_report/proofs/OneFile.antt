-- A file that is read, and its possible outcomes.
use Rattle.std.proofs.lemmas.List.{length-drop, length-take-le, take-append-drop}
use Rattle.std.proofs.Common.{drop, [], ◌∷◌, ◌++◌, length, length-append, arith, ◌≡◌, ℕ, List, take, Some, Option, None, refl, inl, inr, sym, subst, ap, ◌∙◌}
use Rattle.std.specs.Prelude.{◌-◌, ◌⊎◌}
use Rattle.avtp_base.specs.declared.failed.FaultPlace.{FaultPlace}
use Rattle.avtp_base.specs.declared.failed.FaultPlace.TheVariants as fault_place
use Rattle.capture_io.specs.declared.end.End.{End}
use Rattle.capture_io.specs.Ends.{EndsAt, end_of}
use Rattle.capture_io.proofs.Ending.{ends_weaker}
use Rattle.avtp_text.specs.Notices.{read_fault_line}
use Rattle.pcap_frames.specs.Capture.{Record}
use Rattle.capture_io.specs.Source.{EndsAfter}
use Rattle.capture_io.specs.Formats.{records_in, certain_in}
use Rattle.capture_io.specs.declared.end.End.TheVariants as end
use Rattle.run_report.specs.Reading.FileOutcome.{through, refused, halted}
use Rattle.run_report.specs.Reading.{FileOutcome, file_status, file_yield, Report}
use Rattle.run_report.specs.Yield.{says, Yield}
use Rattle.run_report.specs.Halt.{CanStop, no_halt}
use Rattle.run_report.specs.declared.status.Status.{Status}
use Rattle.run_report.specs.Outcome.{Only}
use Rattle.run_report.specs.declared.status.Status.TheVariants as status

-- If no read fault occurs, the bytes and the limit decide how a reading ends. All bytes within the limit are then read.
pub by_end : (limit : ℕ) (bytes prefix : List ℕ) (fault : FaultPlace → Type 0) (how : End) → ((place : FaultPlace) → fault place → ⊥) → EndsAt limit (Some bytes) fault how prefix → (how ≡ end_of limit bytes) × (prefix ≡ take limit bytes)
by_end limit bytes prefix fault end.Whole none ends = ends
by_end limit bytes prefix fault (end.Refused refusal) none ends = ends
by_end limit bytes prefix fault end.ReadFault none ends = absurd (none _ ends.2)
by_end limit bytes prefix fault end.Limit none ends = ends

-- the outcome of a file if no read fault occurs
pub file_here : (report : Report) (limit : ℕ) (told : Option (List ℕ)) (fault : FaultPlace → Type 0) → FileOutcome report limit told fault (file_status report limit told no_halt) (file_yield report limit told no_halt)
file_here report limit told fault = through refl refl

-- the outcome of a file that could not be opened
pub file_fault : (report : Report) (limit : ℕ) (told : Option (List ℕ)) (fault : FaultPlace → Type 0) → fault fault_place.Opening ⊎ (told ≡ None) → FileOutcome report limit told fault status.ReadFault (says read_fault_line)
file_fault report limit None fault cause = through refl refl
file_fault report limit (Some bytes) fault (inl cause) = refused cause refl refl
file_fault report limit (Some bytes) fault (inr none) = absurd cc

-- ---- the read fault

take_front : (xs ys : List ℕ) → take (length xs) (xs ++ ys) ≡ xs
take_front [] ys = refl
take_front (x ∷ xs) ys = ap (λ (l : List ℕ). x ∷ l) (take_front xs ys)

-- the bytes that were read before a read fault stopped the reading
pub stopped_at : (limit : ℕ) (bytes prefix : List ℕ) (fault : FaultPlace → Type 0) → EndsAt limit (Some bytes) fault end.ReadFault prefix
    → (prefix ≡ take (length prefix) bytes) × CanStop limit (Some bytes) fault (length prefix)
stopped_at limit bytes prefix fault (rest, split, cause, within, certain) =
    let front : prefix ≡ take (length prefix) bytes = sym (ap (take (length prefix)) split ∙ take_front prefix rest) in
    let left : length rest ≡ length bytes - length prefix = omega (arith, ap length split, length-append prefix rest) in (
      front,
      (
        subst (λ (n : ℕ). fault (fault_place.Reading n)) left cause,
        within,
        omega (arith, ap length split, length-append prefix rest),
        subst (λ (p : List ℕ). certain_in p ≡ None) front certain,
      ),
    )

-- the reading of a file stopped after its first `after` bytes
pub stops_here : (limit : ℕ) (bytes : List ℕ) (after : ℕ) (fault : FaultPlace → Type 0) → CanStop limit (Some bytes) fault after → EndsAt limit (Some bytes) fault end.ReadFault (take after bytes)
stops_here limit bytes after fault (cause, within, fits, certain) =
    (drop after bytes, sym (take-append-drop after bytes), subst (λ (n : ℕ). fault (fault_place.Reading n)) (sym (length-drop after bytes)) cause, omega (arith, within, fits, length-take-le after bytes), certain)

read_halts : (report : Report) (limit : ℕ) (bytes prefix : List ℕ) (fault : FaultPlace → Type 0) (how : End) (ended : Status) (yields : Yield) → EndsAt limit (Some bytes) fault how prefix
    → ended ≡ report.status (records_in prefix) how → yields ≡ report.yields (records_in prefix) how → FileOutcome report limit (Some bytes) fault ended yields
read_halts report limit bytes prefix fault end.ReadFault ended yields ends is all =
    let at = stopped_at limit bytes prefix fault ends in
    halted (length prefix) at.1 (is ∙ ap (λ (p : List ℕ). report.status (records_in p) end.ReadFault) at.0) (all ∙ ap (λ (p : List ℕ). report.yields (records_in p) end.ReadFault) at.0)
read_halts report limit bytes prefix fault end.Whole ended yields ends is all = through (is ∙ rw (ends.0, ends.1) refl) (all ∙ rw (ends.0, ends.1) refl)
read_halts report limit bytes prefix fault (end.Refused refusal) ended yields ends is all = through (is ∙ rw (ends.0, ends.1) refl) (all ∙ rw (ends.0, ends.1) refl)
read_halts report limit bytes prefix fault end.Limit ended yields ends is all = through (is ∙ rw (ends.0, ends.1) refl) (all ∙ rw (ends.0, ends.1) refl)

-- the outcome of a file that was opened and read
pub file_read : (report : Report) (limit : ℕ) (bytes : List ℕ) (told : Option (List ℕ)) (fault other : FaultPlace → Type 0) (how : End) (records : List Record) → ((place : FaultPlace) → fault place → other place) → told ≡ Some bytes → EndsAfter limit bytes fault how records
    → (ended : Status) (yields : Yield) → Only (report.status records how) (report.yields records how) ended yields → FileOutcome report limit told other ended yields
file_read report limit bytes told fault other how records weaker is after ended yields (same, all) =
    subst (λ (t : Option (List ℕ)). FileOutcome report limit t other ended yields) (sym is)
    (read_halts report limit bytes after.prefix other how ended yields (ends_weaker limit (Some bytes) fault other how after.prefix weaker after.ends)
    (subst (λ (rs : List Record). ended ≡ report.status rs how) (sym after.whole) same) (subst (λ (rs : List Record). yields ≡ report.yields rs how) (sym after.whole) all))
