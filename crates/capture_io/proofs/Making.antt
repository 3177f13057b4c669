-- A file that is written piece by piece.
use Rattle.std.proofs.Common.{◌≡◌, ℕ, List, [], ◌++◌, take, drop, Option, sym, ap, subst, ◌∙◌, append_assoc, append-nil, take-append-drop}
use Rattle.std.specs.Prelude.{Result, Ok, Err, OnOk}
use Rattle.avtp_base.specs.declared.failed.Failed.{Failed}
use Rattle.avtp_base.specs.Faults.{IsCounted}
use Rattle.avtp_base.specs.Files.{AppendsTo, Files, KeepsFiles, KeepsOtherFiles, PutsFile, name_in}
use Rattle.avtp_base.specs.States.{ShelfState}
use Rattle.avtp_base.proofs.Files.{KeepsOtherFiles-trans, PutsFile-appends, PutsFile-kept, named_as}
use Rattle.avtp_files.specs.ShelfCalls.{IsMadeIn}
use Rattle.capture_io.specs.Writing.{IsWriting, PutsPrefix, WritesSlot, Writing}

-- ---- two successive calls on a slot

pub writes_then : {s t u : ShelfState} {v v' v'' : Writing} {ok : Unit} {result : Result Unit Failed} → WritesSlot s t v v' (Ok ok) → WritesSlot t u v' v'' result → WritesSlot s u v v'' result
writes_then {s} {t} {u} {v = v} {result = result} first second = record {
  slot = second.slot ∙ first.slot;
  made = subst (IsMadeIn u.slots) first.slot second.made;
  slots = KeepsOtherFiles-trans s.slots t.slots u.slots v.slot first.slots (subst (λ (k : ℕ). KeepsOtherFiles t.slots u.slots (name_in t.slots k)) first.slot second.slots);
  reading = second.reading ∙ first.reading;
  counted = subst (λ (n : ℕ). IsCounted n u.writing_faults result) first.counted.ok second.counted;
  asked = λ names stands. second.asked names (first.asked names stands);
}

-- ---- the bytes

-- `IsWriting` still holds after the first n buffered bytes were written to the file
pub writing_more : (begun s t : ShelfState) (w : Writing) (name all : List ℕ) (n : ℕ) → IsWriting begun s w name all
    → AppendsTo s.files t.files (name_in s.slots w.slot) (take n w.waiting) → IsMadeIn t.slots w.slot → KeepsOtherFiles s.slots t.slots (name_in s.slots w.slot) → t.reading_faults ≡ s.reading_faults
    → IsWriting begun t (record w { waiting = drop n w.waiting }) name all
writing_more begun s t w name all n is more made keeps same = record {
  held = is.held ++ take n w.waiting;
  split = is.split ∙ (ap (λ (l : List ℕ). is.held ++ l) (sym (take-append-drop n w.waiting)) ∙ sym (append_assoc is.held (take n w.waiting) (drop n w.waiting)));
  put = PutsFile-appends begun.files s.files t.files name is.held (take n w.waiting) (name_in s.slots w.slot) is.named is.put more;
  free = is.free;
  made = made;
  named = λ told. named_as (s.slots w.slot) (t.slots w.slot) (keeps.same w.slot) ∙ is.named told;
  same = λ j differ. keeps.same j ∙ is.same j differ;
  left = λ told j differ other.
      keeps.left j (λ (e : name_in s.slots j ≡ name_in s.slots w.slot). other (sym (named_as (begun.slots j) (s.slots j) (is.same j differ)) ∙ (e ∙ is.named told))) ∙ is.left told j differ other;
  reading = same ∙ is.reading;
}

-- ---- closing

-- if the buffer is empty when the file is closed, the file contains all bytes that were added
pub puts_all : (begun s : ShelfState) (files : Option Files) (w : Writing) (name all : List ℕ) → IsWriting begun s w name all → w.waiting ≡ [] → KeepsFiles s.files files → PutsFile begun.files files name all
puts_all begun s files w name all is none keeps =
    let whole : is.held ≡ all = sym (is.split ∙ (ap (λ (l : List ℕ). is.held ++ l) none ∙ append-nil is.held)) in
    subst (PutsFile begun.files files name) whole (PutsFile-kept begun.files s.files files name is.held is.put keeps)

pub puts_prefix : (begun s : ShelfState) (files : Option Files) (w : Writing) (name all : List ℕ) → IsWriting begun s w name all → KeepsFiles s.files files → PutsPrefix begun.files files name all
puts_prefix begun s files w name all is keeps =
    record { prefix = is.held; rest = w.waiting; split = is.split; put = PutsFile-kept begun.files s.files files name is.held is.put keeps }

-- ---- results

pub ok_one : {T E : Type 0} (r : Result T E) (P Q : Type 0) → OnOk r P → (P → Q) → OnOk r Q
ok_one (Ok x) P Q p make = make p
ok_one (Err e) P Q p make = tt
