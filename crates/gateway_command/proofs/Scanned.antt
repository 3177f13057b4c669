-- What a scan found in the records of a capture.
use Rattle.std.proofs.Common.{◌≡◌, ℕ, List, length, Option, [], refl, ◌+◌, ◌∷◌, ◌++◌, arith, length-append, None, sym, subst, take, ap, ◌∙◌, Some, suc, append_assoc}
use Rattle.std.specs.Prelude.{◌≢◌, IfSome}
use Rattle.avtp_base.specs.declared.failed.FaultPlace.{FaultPlace}
use Rattle.pcap_frames.specs.Capture.{Record}
use Rattle.capture_io.specs.Source.{HasGiven, Sourcing, EndsAfter}
use Rattle.am824_gateway.specs.declared.scan.To.{To}
use Rattle.am824_gateway.specs.Scan.{HasScanned, Scanning, first_fault, shape_in, IsShape}
use Rattle.capture_io.specs.declared.end.End.{End}
use Rattle.capture_io.specs.Formats.{records_in}
use Rattle.am824_gateway.specs.declared.scan.Shape.{Shape}
use Rattle.capture_io.proofs.Giving.{given_first}
use Rattle.am824_gateway.specs.declared.scan.ScanFault.{ScanFault}
use Rattle.capture_io.specs.declared.end.End.TheVariants as end
use Rattle.gateway_command.specs.state.Scanning.{ScansTo, scanned_as, ended_scan}
use Rattle.gateway_command.specs.declared.scanning.Scanned.TheVariants as scanned

-- The records that a source gave were scanned and counted, and none of them has a fault.
pub record IsScannedTo (to : To) (stream limit : ℕ) (bytes : List ℕ) (remains : Option (List ℕ)) (source : Sourcing) (frames : ℕ) (scan : Scanning) : Type 0 where
  pub records : List Record
  pub given : HasGiven limit bytes remains source records
  pub counted : frames ≡ length records
  pub clean : HasScanned to stream records scan

pub none_scanned : {to : To} {stream limit : ℕ} {bytes : List ℕ} {remains : Option (List ℕ)} {source : Sourcing} {scan : Scanning} → HasScanned to stream [] scan → HasGiven limit bytes remains source [] → IsScannedTo to stream limit bytes remains source 0 scan
none_scanned clean given = record { records = []; given = given; counted = refl; clean = clean }

pub one_scanned : {to : To} {stream limit frames : ℕ} {bytes : List ℕ} {remains : Option (List ℕ)} {source : Sourcing} {scan : Scanning} (records : List Record) (r : Record)
    → HasGiven limit bytes remains source (records ++ r ∷ []) → frames ≡ length records → HasScanned to stream (records ++ r ∷ []) scan → IsScannedTo to stream limit bytes remains source (frames + 1) scan
one_scanned records r given counted clean = record { records = records ++ r ∷ []; given = given; counted = simp length-append (omega (arith, counted)); clean = clean }

scanned_cut : {to : To} {stream limit : ℕ} {bytes : List ℕ} {fault : FaultPlace → Type 0} {scan : Scanning} {how : End} (records : List Record) → EndsAfter limit bytes fault how records → HasScanned to stream records scan → ScansTo to stream limit bytes fault (scanned.Cut how)
scanned_cut {to} {stream} records ends clean = (ends.prefix, ends.ends, subst (λ (rs : List Record). first_fault to stream rs ≡ None) (sym ends.whole) clean.none)

pub scanned_ended : {to : To} {stream limit : ℕ} {bytes : List ℕ} {fault : FaultPlace → Type 0} {scan : Scanning} (how : End) (shape : Option Shape) (records : List Record)
    → EndsAfter limit bytes fault how records → HasScanned to stream records scan → shape ≡ shape_in stream records → ScansTo to stream limit bytes fault (scanned_as how shape)
scanned_ended {to} {stream} {limit} {bytes} end.Whole shape records ends clean is =
    let all : records ≡ records_in (take limit bytes) = sym ends.whole ∙ ap records_in ends.ends.1 in
    (sym ends.ends.0, subst (λ (rs : List Record). first_fault to stream rs ≡ None) all clean.none, is ∙ ap (shape_in stream) all)
scanned_ended (end.Refused refusal) shape records ends clean is = scanned_cut records ends clean
scanned_ended end.ReadFault shape records ends clean is = scanned_cut records ends clean
scanned_ended end.Limit shape records ends clean is = scanned_cut records ends clean

pub ended_as : (how : End) (shape : Option Shape) → Some how ≡ ended_scan (scanned_as how shape)
ended_as end.Whole shape = refl
ended_as (end.Refused refusal) shape = refl
ended_as end.ReadFault shape = refl
ended_as end.Limit shape = refl

pub cut_as : (how : End) (shape : Option Shape) (cut : End) → scanned_as how shape ≡ scanned.Cut cut → cut ≢ end.Whole
cut_as end.Whole shape cut is = absurd cc
cut_as (end.Refused refusal) shape cut is = λ whole. cc
cut_as end.ReadFault shape cut is = λ whole. cc
cut_as end.Limit shape cut is = λ whole. cc

pub sound_as : (how : End) (found : Option Shape) → IfSome found IsShape → (shape : Option Shape) → scanned_as how found ≡ scanned.Clean shape → IfSome shape IsShape
sound_as end.Whole found sound shape is =
    let same : found ≡ shape = cc in
    subst (λ (x : Option Shape). IfSome x IsShape) same sound
sound_as (end.Refused refusal) found sound shape is = absurd cc
sound_as end.ReadFault found sound shape is = absurd cc
sound_as end.Limit found sound shape is = absurd cc

pub scanned_fault : {frames limit : ℕ} {bytes : List ℕ} {remains : Option (List ℕ)} {source : Sourcing} (to : To) (stream : ℕ) (why : ScanFault) (records : List Record) (r : Record)
    → HasGiven limit bytes remains source (records ++ r ∷ []) → frames ≡ length records → ((others : List Record) → first_fault to stream (records ++ r ∷ others) ≡ Some (record { frame = suc (length records); fault = why }))
    → first_fault to stream (records_in (take limit bytes)) ≡ Some (record { frame = frames + 1; fault = why })
scanned_fault {frames} {limit} {bytes} {remains} {source} to stream why records r given counted found =
    let first = given_first limit bytes remains source (records ++ r ∷ []) given in
    let all : records_in (take limit bytes) ≡ records ++ r ∷ first.0 = first.1 ∙ append_assoc records (r ∷ []) first.0 in
    let place : suc (length records) ≡ frames + 1 = omega arith in
    ap (first_fault to stream) all ∙ subst (λ (n : ℕ). first_fault to stream (records ++ r ∷ first.0) ≡ Some (record { frame = n; fault = why })) place (found first.0)
