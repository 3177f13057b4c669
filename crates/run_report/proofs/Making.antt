-- The contents of the file that a run makes, after the run.
use Rattle.std.proofs.Common.{ℕ, List, Option, Some, None, refl, inl, inr, ◌≡◌, drop, take, take-append-drop, ◌++◌, sym, ap, ◌∙◌, append_assoc, Result, Ok, subst, [], append-nil, suc, ◌∷◌, arith}
use Rattle.std.specs.Prelude.{flat_map, ◌≢◌, IsSome, option_and_then, option_map}
use Rattle.std.proofs.lemmas.Grind.{flat_map-append}
use Rattle.std.proofs.lemmas.Bool.Decides.{eqb_tells}
use Rattle.avtp_base.specs.Files.{Files, KeepsFiles, Slots, Open, KeepsOtherFiles, file_of, left_in, name_in, PutsFile, KeepsSlots}
use Rattle.avtp_base.proofs.Files.{KeepsFiles-refl, KeepsFiles-puts, KeepsFiles-trans, named_as}
use Rattle.capture_io.specs.Writing.{MakesPrefix, KeepsSlotsBut, Writing, PutsPrefix}
use Rattle.pcap_frames.specs.Capture.{Record, header_spelling, record_spelling}
use Rattle.capture_io.specs.CaptureWriting.{capture_bytes, written_style, BeginsCapture, ClosesCapture, HoldsCapture}
use Rattle.avtp_base.specs.declared.failed.Failed.{Failed}
use Rattle.avtp_base.specs.States.{ShelfState, Asks, WasAsked}
use Rattle.run_report.specs.Made.{KeepsFilesBut, MakesPart, MakesOutput, KeepsSlotsFor}
use Rattle.run_report.specs.Outcome.{AsksFor}

-- ---- files

pub files_still : (output : Option (List ℕ)) (files : Option Files) → KeepsFilesBut output files files
files_still None files = KeepsFiles-refl files
files_still (Some name) None = tt
files_still (Some name) (Some files) = λ other differs. refl

pub part_kept : (output made : Option (List ℕ)) (f g : Option Files) → KeepsFiles f g → MakesPart output made f g
part_kept None made f g keeps = keeps
part_kept (Some name) None f g keeps = keeps
part_kept (Some name) (Some bytes) f g keeps = inl keeps

pub output_after : (output made : Option (List ℕ)) (f g k : Option Files) → KeepsFiles f g → MakesOutput output made g k → MakesOutput output made f k
output_after None made f g k keeps makes = KeepsFiles-trans f g k keeps makes
output_after (Some name) None f g k keeps makes = KeepsFiles-trans f g k keeps makes
output_after (Some name) (Some bytes) f g k keeps makes = KeepsFiles-puts f g k name bytes keeps makes

pub prefix_after : {f g k : Option Files} {name bytes : List ℕ} → KeepsFiles f g → MakesPrefix g k name bytes → MakesPrefix f k name bytes
prefix_after {f} {g} {k} {name} keeps (inl kept) = inl (KeepsFiles-trans f g k keeps kept)
prefix_after {f} {g} {k} {name} keeps (inr p) = inr (record { prefix = p.prefix; rest = p.rest; split = p.split; put = KeepsFiles-puts f g k name p.prefix keeps p.put })

pub part_after : (output made : Option (List ℕ)) (f g k : Option Files) → KeepsFiles f g → MakesPart output made g k → MakesPart output made f k
part_after None made f g k keeps makes = KeepsFiles-trans f g k keeps makes
part_after (Some name) None f g k keeps makes = KeepsFiles-trans f g k keeps makes
part_after (Some name) (Some bytes) f g k keeps makes = prefix_after keeps makes

-- ---- slots

pub slots_still : (files : Option Files) (slots : Slots) (name : List ℕ) → KeepsSlotsBut files slots slots name
slots_still files slots name = record { same = λ j. refl; left = λ told j differs. refl }

pub slots_here : (output : Option (List ℕ)) (files : Option Files) (slots : Slots) → KeepsSlotsFor output files slots slots
slots_here None files slots = λ j. refl
slots_here (Some name) files slots = slots_still files slots name

-- ---- the capture that was written

-- the capture of the first records is a prefix of the capture of all records
pub capture_first : (records : List Record) (n : ℕ) → (rest : List ℕ) × (capture_bytes records ≡ capture_bytes (take n records) ++ rest)
capture_first records n =
    let one : Record → List ℕ = record_spelling written_style in
    let header : List ℕ = header_spelling written_style in (
      flat_map one (drop n records),
      sym (append_assoc header (flat_map one (take n records)) (flat_map one (drop n records))
          ∙ ap (λ (b : List ℕ). header ++ b) (sym (flat_map-append one (take n records) (drop n records)) ∙ ap (flat_map one) (take-append-drop n records))),
    )

-- A file was created, written and closed. Each slot is then as before, but the bytes of this file that are still to be
-- read may have changed.
pub slots_closed : {s t u v : ShelfState} {w w' : Writing} {name : List ℕ} {result : Result Unit Failed} (records : List Record) → BeginsCapture s t name (Ok w) → KeepsOtherFiles t.slots u.slots (name_in t.slots w.slot) → w'.slot ≡ w.slot
    → HoldsCapture s.files u w' name records → ClosesCapture u v w' result → KeepsSlotsBut s.files s.slots v.slots name
slots_closed {s} {t} {u} {v} {w} {w'} {name} records begins others slot holds closes = record { same = same; left = left } where
  freed : v.slots w.slot ≡ s.slots w.slot
  freed = ap v.slots (sym slot) ∙ (closes.free s.files name records holds ∙ sym begins.fresh)

  same : (j : ℕ) → option_map file_of (v.slots j) ≡ option_map file_of (s.slots j)
  same j =
      elim (eqb_tells j w.slot) [
        | inl is ↦ subst (λ (n : ℕ). option_map file_of (v.slots n) ≡ option_map file_of (s.slots n)) (sym is.1) (ap (option_map file_of) freed)
        | inr other ↦ (closes.beside s.files name records holds).same j (λ e. other.1 (e ∙ slot)) ∙ (others.same j ∙ begins.beside.same j other.1)
      ]

  left : IsSome s.files → (j : ℕ) → name_in s.slots j ≢ Some name → left_in v.slots j ≡ left_in s.slots j
  left told j differs =
      elim (eqb_tells j w.slot) [
        | inl is ↦ subst (λ (n : ℕ). left_in v.slots n ≡ left_in s.slots n) (sym is.1) (ap (option_and_then (λ (x : Open). x.left)) freed)
        | inr other ↦
            let named_t : name_in t.slots j ≡ name_in s.slots j = named_as (s.slots j) (t.slots j) (begins.beside.same j other.1) in
            let named_u : name_in u.slots j ≡ name_in t.slots j = named_as (t.slots j) (u.slots j) (others.same j) in
            (closes.beside s.files name records holds).left told j (λ e. other.1 (e ∙ slot)) (λ e. differs (sym named_t ∙ (sym named_u ∙ e)))
            ∙ (others.left j (λ e. differs (sym named_t ∙ (e ∙ begins.begun.named told))) ∙ begins.beside.left told j other.1 differs)
      ]

pub prefix_further : {f g : Option Files} {name prefix bytes : List ℕ} (rest : List ℕ) → bytes ≡ prefix ++ rest → PutsPrefix f g name prefix → PutsPrefix f g name bytes
prefix_further rest split p = record { prefix = p.prefix; rest = p.rest ++ rest; split = split ∙ (ap (λ (l : List ℕ). l ++ rest) p.split ∙ append_assoc p.prefix p.rest rest); put = p.put }

pub whole_prefix : (f g : Option Files) (name bytes : List ℕ) → PutsFile f g name bytes → PutsPrefix f g name bytes
whole_prefix f g name bytes put = record { prefix = bytes; rest = []; split = sym (append-nil bytes); put = put }

-- ---- a file that was read before

pub kept_but : (f g : Option Files) (name : List ℕ) → KeepsFiles f g → KeepsFilesBut (Some name) f g
kept_but None None name keeps = tt
kept_but None (Some g) name keeps = absurd keeps
kept_but (Some f) None name keeps = tt
kept_but (Some f) (Some g) name keeps = λ other differs. keeps other

pub slots_but : (files : Option Files) (s t : Slots) (name : List ℕ) → KeepsSlots s t → KeepsSlotsBut files s t name
slots_but files s t name keeps = record { same = λ j. rw (keeps j) refl; left = λ told j differs. rw (keeps j) refl }

pub files_from : (f g k : Option Files) (name : List ℕ) → KeepsFiles f g → KeepsFilesBut (Some name) g k → KeepsFilesBut (Some name) f k
files_from None None None name first second = tt
files_from None None (Some k) name first second = absurd second
files_from None (Some g) k name first second = absurd first
files_from (Some f) g None name first second = tt
files_from (Some f) None (Some k) name first second = absurd second
files_from (Some f) (Some g) (Some k) name first second = λ other differs. second other differs ∙ first other

pub told_before : (g k : Option Files) (name : List ℕ) → KeepsFilesBut (Some name) g k → IsSome k → IsSome g
told_before None None name keeps some = some
told_before None (Some k) name keeps some = absurd keeps
told_before (Some g) k name keeps some = refl

pub slots_from : (g k : Option Files) (s t u : Slots) (name : List ℕ) → KeepsFilesBut (Some name) g k → KeepsSlots s t → KeepsSlotsBut g t u name → KeepsSlotsBut k s u name
slots_from g k s t u name files first second = record {
  same = λ j. second.same j ∙ (rw (first j) refl);
  left = λ told j differs. second.left (told_before g k name files told) j (λ (e : name_in t j ≡ Some name). differs (rw (first j) at e)) ∙ (rw (first j) refl);
}

pub asks_from : {a b c : ShelfState} {done : Type 0} {names : List (List ℕ)} (input : List ℕ) → Asks (input ∷ []) a b → AsksFor names b c done → AsksFor (input ∷ names) a c done
asks_from {c = c} {names = names} input first second = record {
  count = suc second.count;
  within = omega (arith, second.within);
  all = λ done. ap suc (second.all done);
  asked = λ before stands. subst (WasAsked c.asked) (append_assoc before (input ∷ []) (take second.count names)) (second.asked (before ++ input ∷ []) (first before stands));
}
