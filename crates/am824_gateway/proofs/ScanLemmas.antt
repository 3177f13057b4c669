-- A scan after one more record.
use Rattle.std.proofs.Common.{◌≡◌, ℕ, suc, ◌+◌, List, [], ◌∷◌, ◌++◌, length, Option, Some, None, refl, ap, ◌∙◌, arith}
use Rattle.std.specs.Prelude.{Result, Ok, Err, OnOk, IfErr}
use Rattle.pcap_frames.specs.Capture.{Record}
use Rattle.am824_gateway.specs.declared.content.Content.{Content}
use Rattle.am824_gateway.specs.declared.content.Content.TheVariants.{Silent}
use Rattle.am824_gateway.specs.declared.scan.ScanFault.{ScanFault}
use Rattle.am824_gateway.specs.declared.scan.Shape.{Shape}
use Rattle.am824_gateway.specs.declared.scan.To.{To}
use Rattle.am824_gateway.specs.Content.{content}
use Rattle.am824_gateway.specs.Scan.{FaultAt, HasScanned, Scanning, content_fault, fault_from, fault_or, first_fault, shape_after, shape_from}

shape_more : (stream : ℕ) (first : Option Shape) (xs : List Record) (r : Record) → shape_from stream first (xs ++ r ∷ []) ≡ shape_after (shape_from stream first xs) (content stream r.bytes)
shape_more stream first [] r = refl
shape_more stream first (x ∷ xs) r = shape_more stream (shape_after first (content stream x.bytes)) xs r

pub passed : (frame : ℕ) (fault : Option ScanFault) (later : Option FaultAt) → fault_or frame fault later ≡ None → (fault ≡ None) × (later ≡ None)
passed frame None later e = (refl, e)
passed frame (Some fault) later e = absurd cc

-- if the records `xs` have no fault, the first fault of all records is the first fault of the records after `xs`
none_more : (to : To) (stream : ℕ) (first : Option Shape) (frame n : ℕ) (xs : List Record) (r : Record) (others : List Record) → frame + length xs ≡ n → fault_from to stream first frame xs ≡ None
    → fault_from to stream first frame (xs ++ r ∷ others) ≡ fault_from to stream (shape_from stream first xs) n (r ∷ others)
none_more to stream first frame n [] r others at e = (let same : frame ≡ n = omega arith in ap (λ (k : ℕ). fault_from to stream first k (r ∷ others)) same)
none_more to stream first frame n (x ∷ xs) r others at e =
    let both = passed frame (content_fault to first (content stream x.bytes)) (fault_from to stream (shape_after first (content stream x.bytes)) (suc frame) xs) e in
    rw (both.0) (none_more to stream (shape_after first (content stream x.bytes)) (suc frame) n xs r others (omega arith) both.1)

pub scanned_more : (to : To) (stream : ℕ) (records : List Record) (old new : Scanning) (r : Record) (c : Content) → content old.stream r.bytes ≡ c → HasScanned to stream records old
    → new.to ≡ old.to → new.stream ≡ old.stream → new.shape ≡ shape_after old.shape c → content_fault old.to old.shape c ≡ None → HasScanned to stream (records ++ r ∷ []) new
scanned_more to stream records old new r c is has to_same stream_same shape none =
    let here : content stream r.bytes ≡ c = rw (← has.stream_is) is in
    let next = none_more to stream None 1 (suc (length records)) records r [] (omega arith) has.none in
    let no_fault : content_fault to (shape_from stream None records) (content stream r.bytes) ≡ None = rw (here, ← has.shape, ← has.to_is) none in
    record {
      to_is = to_same ∙ has.to_is;
      stream_is = stream_same ∙ has.stream_is;
      shape = rw (shape_more stream None records r, here, ← has.shape) shape;
      none = next ∙ (rw no_fault refl);
    }

-- if no earlier record has a fault, the fault of record r is the first fault
pub fault_found : (to : To) (stream : ℕ) (records others : List Record) (old : Scanning) (r : Record) (c : Content) (fault : ScanFault) → content old.stream r.bytes ≡ c → HasScanned to stream records old
    → content_fault old.to old.shape c ≡ Some fault → first_fault to stream (records ++ r ∷ others) ≡ Some (record { frame = suc (length records); fault = fault })
fault_found to stream records others old r c fault is has found =
    let here : content stream r.bytes ≡ c = rw (← has.stream_is) is in
    let next = none_more to stream None 1 (suc (length records)) records r others (omega arith) has.none in
    let known : content_fault to (shape_from stream None records) (content stream r.bytes) ≡ Some fault = rw (here, ← has.shape, ← has.to_is) found in
    next ∙ (rw known refl)

-- a record that is never presented leaves the shape as it is
pub silent_kept : (first : Option Shape) → first ≡ shape_after first Silent
silent_kept None = refl
silent_kept (Some shape) = refl

pub audio_scanned : {T : Type 0} (res : Result T ScanFault) (old new : Scanning) (bytes : List ℕ) (c : Content) → content old.stream bytes ≡ c → new.to ≡ old.to → new.stream ≡ old.stream
    → OnOk res (new.shape ≡ shape_after old.shape c) → OnOk res (content_fault old.to old.shape c ≡ None)
    → OnOk res ((to : To) (stream : ℕ) (records : List Record) (r : Record) → r.bytes ≡ bytes → HasScanned to stream records old → HasScanned to stream (records ++ r ∷ []) new)
audio_scanned (Ok x) old new bytes c here to_same stream_same shape none = λ to stream records r is has. scanned_more to stream records old new r c (rw is here) has to_same stream_same shape none
audio_scanned (Err x) old new bytes c here to_same stream_same shape none = tt

pub audio_fault : {T : Type 0} (res : Result T ScanFault) (old : Scanning) (bytes : List ℕ) (c : Content) → content old.stream bytes ≡ c → IfErr res (λ fault. content_fault old.to old.shape c ≡ Some fault)
    → IfErr res (λ fault. (to : To) (stream : ℕ) (records others : List Record) (r : Record) → r.bytes ≡ bytes → HasScanned to stream records old
    → first_fault to stream (records ++ r ∷ others) ≡ Some (record { frame = suc (length records); fault = fault }))
audio_fault (Ok x) old bytes c here fault = tt
audio_fault (Err x) old bytes c here fault = λ to stream records others r is has. fault_found to stream records others old r c x (rw is here) has fault
