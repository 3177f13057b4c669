-- The outcomes of `gateway`.
use Rattle.std.proofs.Common.{zero, suc, ◌≡◌, ℕ, List, take, Some, subst, Option, None, refl, sym, inl, ◌≢◌, [], ◌∷◌, inr, ◌∙◌, ◌++◌, ap, Bool, true, false, length, length-append, arith, ◌^◌, ◌<◌}
use Rattle.std.specs.Prelude.{◌==◌, if◌then◌else◌, IfSome}
use Rattle.std.proofs.lemmas.Bool.{eqb-true}
use Rattle.std.specs.List.{AllByRecursion}
use Rattle.capture_io.specs.declared.end.End.{End}
use Rattle.capture_io.specs.Ends.{EndsAt, end_of}
use Rattle.avtp_base.specs.declared.failed.FaultPlace.TheVariants as fault_place
use Rattle.avtp_base.specs.declared.failed.FaultPlace.{FaultPlace}
use Rattle.avtp_base.specs.Files.{Files}
use Rattle.capture_io.specs.Formats.{records_in}
use Rattle.am824_gateway.specs.Scan.{FaultAt, IsShape}
use Rattle.avtp_words.specs.Grammar.{Turning}
use Rattle.pcap_frames.specs.Capture.{Record, whole_records}
use Rattle.sample_schedule.specs.Batches.{Presented}
use Rattle.am824_gateway.specs.declared.scan.Shape.{Shape}
use Rattle.am824_gateway.specs.declared.scan.To.{To}
use Rattle.am824_gateway.specs.declared.skip.Skip.{Skip}
use Rattle.am824_gateway.specs.Laws.{given_batches}
use Rattle.am824_gateway.specs.Pieces.{Given, given_with, skip_by, unless, nothing_given}
use Rattle.gateway_laws.specs.Kept.{SkipsNone, Keeps}
use Rattle.gateway_laws.specs.Heard.{BeginsInTime}
use Rattle.gateway_laws.proofs.Timely.{due_in_time, shown_in_time}
use Rattle.am824_gateway.proofs.Scanned.{scanned_fits}
use Rattle.gateway_laws.proofs.Kept.{all_kept}
use Rattle.capture_io.specs.declared.end.End.TheVariants as end
use Rattle.run_report.specs.Endings.{IsUnopened, side_line}
use Rattle.run_report.specs.Status.{status_of}
use Rattle.run_report.proofs.OneFile.{stopped_at, stops_here}
use Rattle.capture_io.proofs.Formats.{short_certain}
use Rattle.avtp_text.specs.Notices.{read_fault_line}
use Rattle.run_report.specs.Halt.{Halt, CanHalt, CanStop, no_halt, not_opened, stopped_after}
use Rattle.run_report.specs.RunReport.{ends_unread, RunReport}
use Rattle.run_report.specs.Yield.{says}
use Rattle.run_report.specs.Listener.{plan_of}
use Rattle.run_report.specs.declared.status.Status.TheVariants as status
use Rattle.gateway_command.specs.Gateway.{CanTurn, GatewayYields, again_end, batches_by, fault_in, fault_line, gateway_by, gateway_report, read_again, records_of, shape_asked, turned_by, skipped_at, skips_after, turned_status, KeepsInput, format_of, skips_in, turned_capture, FailsAgain}
use Rattle.gateway_command.proofs.Silent.{silent}
use Rattle.capture_io.proofs.Ending.{ends_weaker}

-- ---- the possible outcomes

unread_is : (asked : Turning) (told : Option (List ℕ)) → gateway_report asked told (not_opened zero) ≡ ends_unread (asked.input ∷ [])
unread_is asked None = refl
unread_is asked (Some bytes) = refl

-- IN was not opened
pub unopened : (asked : Turning) (files : Files) (fault : FaultPlace → Type 0) → IsUnopened files fault asked.input → GatewayYields asked files fault (asked.input ∷ []) status.ReadFault (says read_fault_line) None
unopened asked files fault (inl is) = (no_halt, tt, rw is refl)
unopened asked files fault (inr f) = (not_opened zero, f, sym (unread_is asked (files asked.input)))

-- a record of IN cannot be converted
pub faulty : (asked : Turning) (files : Files) (fault : FaultPlace → Type 0) (bytes : List ℕ) (at : FaultAt) → files asked.input ≡ Some bytes → fault_in asked (records_of asked bytes) ≡ Some at
    → GatewayYields asked files fault (asked.input ∷ []) status.TalkInput (says (fault_line at)) None
faulty asked files fault bytes at is found = (no_halt, tt, rw (is, found) refl)

-- the scan was cut short, and each scanned record can be converted
pub cut : (asked : Turning) (files : Files) (fault : FaultPlace → Type 0) (bytes prefix : List ℕ) (how : End) → files asked.input ≡ Some bytes → EndsAt asked.listener.limit (Some bytes) fault how prefix → how ≢ end.Whole → fault_in asked (records_in prefix) ≡ None
    → GatewayYields asked files fault (asked.input ∷ []) (status_of how) (says (side_line asked.listener.limit how)) None
cut asked files fault bytes prefix end.Whole is ends other clean = absurd (other refl)
cut asked files fault bytes prefix (end.Refused refusal) is ends other clean =
    let good : fault_in asked (records_of asked bytes) ≡ None = subst (λ (p : List ℕ). fault_in asked (records_in p) ≡ None) ends.1 clean in
    (no_halt, tt, rw (is, good, sym ends.0) refl)
cut asked files fault bytes prefix end.Limit is ends other clean =
    let good : fault_in asked (records_of asked bytes) ≡ None = subst (λ (p : List ℕ). fault_in asked (records_in p) ≡ None) ends.1 clean in
    (no_halt, tt, rw (is, good, sym ends.0) refl)
cut asked files fault bytes prefix end.ReadFault is ends other clean =
    let at = stopped_at asked.listener.limit bytes prefix fault ends in
    let good : fault_in asked (records_in (take (length prefix) bytes)) ≡ None = subst (λ (p : List ℕ). fault_in asked (records_in p) ≡ None) at.0 clean in
    (stopped_after zero (length prefix), rw is at.1, rw (is, good) refl)

left_same : (a b : ℕ) → fault_place.Reading a ≡ fault_place.Reading b → a ≡ b
left_same a b same = cc

none_before : (bytes prefix rest : List ℕ) → bytes ≡ prefix ++ rest → length rest ≡ length bytes → prefix ≡ []
none_before bytes [] rest split same = refl
none_before bytes (x ∷ prefix) rest split same = absurd (omega (arith, same, ap length split, length-append (x ∷ prefix) rest))

-- IN was scanned, OUT was made, and IN was read again
pub turned : (asked : Turning) (files : Files) (fault : FaultPlace → Type 0) (bytes prefix : List ℕ) (how : End) → files asked.input ≡ Some bytes → CanTurn asked bytes → EndsAt asked.listener.limit (Some bytes) (FailsAgain bytes fault) how prefix
    → (halt : Halt) × CanHalt asked.listener.limit (asked.input ∷ asked.input ∷ []) files fault halt × (turned_by asked (shape_asked asked (records_of asked bytes)) (batches_by asked (records_in prefix) how) how ≡ gateway_report asked (files asked.input) halt)
turned asked files fault bytes prefix end.Whole is can ends = (no_halt, tt, rw (is, can.none, can.whole, ends.1) refl)
turned asked files fault bytes prefix (end.Refused refusal) is can ends = absurd (let e : end.Refused refusal ≡ end.Whole = ends.0 ∙ can.whole in cc)
turned asked files fault bytes prefix end.Limit is can ends = absurd (let e : end.Limit ≡ end.Whole = ends.0 ∙ can.whole in cc)
turned asked files fault bytes prefix end.ReadFault is can (rest, split, fails, within, certain) =
    let by : List ℕ → RunReport = λ (p : List ℕ). turned_by asked (shape_asked asked (records_of asked bytes)) (batches_by asked (records_in p) end.ReadFault) end.ReadFault in
    elim fails [
      | inl here ↦
          let at = stopped_at asked.listener.limit bytes prefix fault (rest, split, here, within, certain) in
          (stopped_after (suc zero) (length prefix), rw is at.1, rw (is, can.none, can.whole) (ap by at.0))
      | inr opening ↦ (not_opened (suc zero), opening.0, rw (is, can.none, can.whole) (ap by (none_before bytes prefix rest split (left_same (length rest) (length bytes) opening.1))))
    ]

-- ---- what the capture keeps

-- if no batch is skipped, all batches are given out
none_skipped : (to : To) (shape : Shape) (given : Given) (batches : List Presented) → skips_after to (Some shape) given batches ≡ [] → given_batches to shape given batches ≡ batches
none_skipped to shape given [] none = refl
none_skipped to shape given (batch ∷ batches) none = by (skip_by to shape given batch) none (λ rest. none_skipped to shape (given_with to shape given batch) batches rest) where
  by : (skip : Option Skip) → skipped_at batch.frame skip ++ skips_after to (Some shape) (unless skip (given_with to shape given batch) given) batches ≡ []
      → (skips_after to (Some shape) (given_with to shape given batch) batches ≡ [] → given_batches to shape (given_with to shape given batch) batches ≡ batches)
      → unless skip (batch ∷ given_batches to shape (given_with to shape given batch) batches) (given_batches to shape given batches) ≡ batch ∷ batches
  by None none so = ap (λ (l : List Presented). batch ∷ l) (so none)
  by (Some why) none so = absurd cc

skips_none : (to : To) (shape : Option Shape) (batches : List Presented) → skips_after to shape nothing_given batches ≡ [] → SkipsNone to shape batches
skips_none to None [] none = refl
skips_none to None (batch ∷ batches) none = absurd cc
skips_none to (Some shape) batches none = none_skipped to shape nothing_given batches none

-- a run that ends with `Done` skipped no batch
done_none : {S : Type 0} (skips : List S) (how : End) → turned_status (length skips) how ≡ status.Done → skips ≡ []
done_none [] how done = refl
done_none (skip ∷ skips) end.Whole done = absurd (by (length (skip ∷ skips) == 0) refl done) where
  by : (b : Bool) → (length (skip ∷ skips) == 0) ≡ b → (if b then status.Done else status.Findings) ≡ status.Done → ⊥
  by true none e = let n : length (skip ∷ skips) ≡ 0 = eqb-true _ _ none in omega (arith, n)
  by false some e = cc
done_none (skip ∷ skips) (end.Refused refusal) done = absurd cc
done_none (skip ∷ skips) end.ReadFault done = absurd cc
done_none (skip ∷ skips) end.Limit done = absurd cc

begin_in_time : (asked : Turning) (records : List Record) (how : End) → AllByRecursion BeginsInTime (batches_by asked records how)
begin_in_time asked records end.Whole = shown_in_time (plan_of asked.listener) records
begin_in_time asked records (end.Refused refusal) = shown_in_time (plan_of asked.listener) records
begin_in_time asked records end.ReadFault = due_in_time (plan_of asked.listener) records
begin_in_time asked records end.Limit = due_in_time (plan_of asked.listener) records

-- what is kept, if IN can be converted and was read again
keeps_turned : (asked : Turning) (files : Files) (fault : FaultPlace → Type 0) (bytes prefix capture : List ℕ) (how : End) → asked.id < 2 ^ 64 → files asked.input ≡ Some bytes → CanTurn asked bytes → EndsAt asked.listener.limit (Some bytes) (FailsAgain bytes fault) how prefix
    → let made = turned_by asked (shape_asked asked (records_of asked bytes)) (batches_by asked (records_in prefix) how) how in made.made ≡ Some capture → KeepsInput asked files fault made.ended capture
keeps_turned asked files fault bytes prefix capture how small told can ends some =
    let shape = shape_asked asked (records_of asked bytes) in
    let batches = batches_by asked (records_in prefix) how in
    let is : turned_capture asked shape batches ≡ capture = cc in
    let fits : IfSome shape IsShape = scanned_fits (format_of asked.to) asked.listener.stream (records_of asked bytes) can.none in
    let kept : Keeps (format_of asked.to) shape asked.id batches capture = subst (Keeps (format_of asked.to) shape asked.id batches) is (all_kept (format_of asked.to) shape asked.id batches fits small (begin_in_time asked (records_in prefix) how)) in
    record {
      shape = shape;
      batches = batches;
      how = how;
      heard = record { bytes = bytes; prefix = prefix; told = told; can = can; ends = ends; shape_is = refl; presented = refl };
      keeps = kept;
      silent = silent (whole_records capture) kept.checked;
      all = λ done. skips_none (format_of asked.to) shape batches (done_none (skips_in asked shape batches) how done);
    }

keeps_by : (asked : Turning) (files : Files) (fault : FaultPlace → Type 0) (bytes capture : List ℕ) (halt : Halt) (at : Option FaultAt) (how : End) → asked.id < 2 ^ 64 → files asked.input ≡ Some bytes → fault_in asked (records_of asked bytes) ≡ at → end_of asked.listener.limit bytes ≡ how
    → (how ≡ end.Whole → EndsAt asked.listener.limit (Some bytes) (FailsAgain bytes fault) (again_end halt) (read_again asked bytes halt)) → (gateway_by asked bytes halt at how).made ≡ Some capture → KeepsInput asked files fault (gateway_by asked bytes halt at how).ended capture
keeps_by asked files fault bytes capture halt (Some at) how small told found ends again some = absurd cc
keeps_by asked files fault bytes capture halt None end.Whole small told none ends again some = keeps_turned asked files fault bytes (read_again asked bytes halt) capture (again_end halt) small told (record { whole = ends; none = none }) (again refl) some
keeps_by asked files fault bytes capture halt None (end.Refused refusal) small told none ends again some = absurd cc
keeps_by asked files fault bytes capture halt None end.ReadFault small told none ends again some = absurd cc
keeps_by asked files fault bytes capture halt None end.Limit small told none ends again some = absurd cc

none_made : (asked : Turning) (bytes capture : List ℕ) (halt : Halt) (at : Option FaultAt) → (gateway_by asked bytes halt at end.ReadFault).made ≡ Some capture → ⊥
none_made asked bytes capture halt None some = absurd cc
none_made asked bytes capture halt (Some at) some = absurd cc

keeps_told : (asked : Turning) (files : Files) (fault : FaultPlace → Type 0) (capture : List ℕ) (halt : Halt) (told : Option (List ℕ)) → asked.id < 2 ^ 64 → files asked.input ≡ told → CanHalt asked.listener.limit (asked.input ∷ asked.input ∷ []) files fault halt
    → (gateway_report asked told halt).made ≡ Some capture → KeepsInput asked files fault (gateway_report asked told halt).ended capture
keeps_told asked files fault capture halt None small is can some = absurd cc
keeps_told asked files fault capture no_halt (Some bytes) small is can some =
    keeps_by asked files fault bytes capture no_halt (fault_in asked (records_of asked bytes)) (end_of asked.listener.limit bytes) small is refl refl (λ whole. (sym whole, refl)) some
keeps_told asked files fault capture (not_opened zero) (Some bytes) small is can some = absurd cc
keeps_told asked files fault capture (not_opened (suc zero)) (Some bytes) small is can some =
    keeps_by asked files fault bytes capture (not_opened 1) (fault_in asked (records_of asked bytes)) (end_of asked.listener.limit bytes) small is refl refl (λ whole. (bytes, refl, inr (can, refl), omega arith, short_certain [] (omega arith))) some
keeps_told asked files fault capture (not_opened (suc (suc place))) (Some bytes) small is can some = absurd can
keeps_told asked files fault capture (stopped_after zero after) (Some bytes) small is can some = absurd (none_made asked bytes capture (stopped_after zero after) (fault_in asked (records_in (take after bytes))) some)
keeps_told asked files fault capture (stopped_after (suc zero) after) (Some bytes) small is can some =
    keeps_by asked files fault bytes capture (stopped_after 1 after) (fault_in asked (records_of asked bytes)) (end_of asked.listener.limit bytes) small is refl refl
    (λ whole. ends_weaker asked.listener.limit (Some bytes) fault (FailsAgain bytes fault) end.ReadFault (take after bytes) (λ place. inl)
    (stops_here asked.listener.limit bytes after fault (subst (λ (o : Option (List ℕ)). CanStop asked.listener.limit o fault after) is can))) some
keeps_told asked files fault capture (stopped_after (suc (suc place)) after) (Some bytes) small is can some = absurd can

pub keeps_input : (asked : Turning) (files : Files) (fault : FaultPlace → Type 0) (halt : Halt) (capture : List ℕ) → asked.id < 2 ^ 64 → CanHalt asked.listener.limit (asked.input ∷ asked.input ∷ []) files fault halt
    → (gateway_report asked (files asked.input) halt).made ≡ Some capture → KeepsInput asked files fault (gateway_report asked (files asked.input) halt).ended capture
keeps_input asked files fault halt capture small can some = keeps_told asked files fault capture halt (files asked.input) small refl can some
