-- A capture that is written while other files are read.
use Rattle.std.proofs.Common.{◌≡◌, ℕ, List, [], ◌∷◌, ◌++◌, length, Option, Some, None, false, true, refl, sym, ap, subst, ◌∙◌, append_assoc, append-nil, arith}
use Rattle.std.specs.Prelude.{◌≢◌, ◌==◌, if◌then◌else◌, IsErr, Result, Ok, Err, option_and_then, option_map}
use Rattle.std.proofs.lemmas.Bool.Decides.{nat_tests}
use Rattle.std.proofs.lemmas.List.{drop_all, flat_map_more, length-append}
use Rattle.pcap_frames.specs.Layout as layout
use Rattle.pcap_frames.specs.Capture.{Record, header_spelling, record_spelling}
use Rattle.avtp_base.specs.Rows.{Writes}
use Rattle.avtp_base.specs.declared.failed.Failed.{Failed}
use Rattle.avtp_base.specs.declared.refusal.Room.{Room}
use Rattle.avtp_base.specs.Files.{Files, Open, Slots, file_of, name_in, KeepsFiles, PutsFile}
use Rattle.avtp_base.specs.States.{ShelfState}
use Rattle.avtp_base.proofs.Files.{PutsFile-kept}
use Rattle.capture_io.specs.Writing.{ClosesFile, CreatesFile, FinishesFile, IsWriting, KeepsSlotsBut, PutsPrefix, WritesSlot, Writing}
use Rattle.capture_io.specs.CaptureWriting.{AddsRecord, BeginsCapture, ClosesCapture, FinishesCapture, HoldsCapture, HoldsFile, KeepsBeside, capture_bytes, written_style}

-- ---- slots without slot k

-- the slots, with slot k free
abbrev without : Slots → ℕ → Slots
without slots k = λ j. if j == k then None else slots j

freed : (slots : Slots) (k : ℕ) → without slots k k ≡ None
freed slots k = (let test : (k == k) ≡ true = grind (arith, nat_tests) in rw test refl)

others : (slots : Slots) (k j : ℕ) → j ≢ k → without slots k j ≡ slots j
others slots k j differ = (let test : (j == k) ≡ false = grind (arith, nat_tests) in rw test refl)

pub beside_then : {files : Option Files} {a b c : Slots} {k : ℕ} {name : List ℕ} → KeepsBeside files a b k name → KeepsBeside files b c k name → KeepsBeside files a c k name
beside_then {a = a} {b} {c} {k} {name} first second = record {
  same = λ j differ. second.same j differ ∙ first.same j differ;
  left = λ told j differ other. second.left told j differ (λ e. other (sym (names j differ) ∙ e)) ∙ first.left told j differ other;
} where
  name_by : (x y : Option Open) → option_map file_of y ≡ option_map file_of x → option_and_then (λ (o : Open). o.name) y ≡ option_and_then (λ (o : Open). o.name) x
  name_by None None e = refl
  name_by None (Some y) e = absurd cc
  name_by (Some x) None e = absurd cc
  name_by (Some x) (Some y) e = (let both : file_of y ≡ file_of x = cc in ap (λ (p : _). p.1) both)

  names : (j : ℕ) → j ≢ k → name_in b j ≡ name_in a j
  names j differ = name_by (a j) (b j) (first.same j differ)

-- ---- a file that is written

-- A possible state of the shelf before the file was made: the given state, but with these files and with slot k free.
abbrev before_it : Option Files → ShelfState → ℕ → ShelfState
before_it files s k = record s { files = files; slots = without s.slots k }

writing_of : (files : Option Files) (s : ShelfState) (w : Writing) (name bytes : List ℕ) → HoldsFile files s w name bytes → IsWriting (before_it files s w.slot) s w name bytes
writing_of files s w name bytes h = record {
  held = h.held;
  split = h.split;
  put = h.put;
  free = freed s.slots w.slot;
  made = h.made;
  named = h.named;
  same = λ j differ. ap (option_map file_of) (sym (others s.slots w.slot j differ));
  left = λ told j differ other. ap (option_and_then (λ (o : Open). o.left)) (sym (others s.slots w.slot j differ));
  reading = refl;
}

pub holds_of : (begun s : ShelfState) (w : Writing) (name bytes : List ℕ) → IsWriting begun s w name bytes → HoldsFile begun.files s w name bytes
holds_of begun s w name bytes is = record { held = is.held; split = is.split; put = is.put; made = is.made; named = is.named }

-- a call that preserves `IsWriting` preserves `HoldsFile`
pub holds_on : (files : Option Files) (s t : ShelfState) (v w : Writing) (name bytes : List ℕ)
    → ((begun : ShelfState) (name all : List ℕ) → IsWriting begun s v name all → IsWriting begun t w name all) → HoldsFile files s v name bytes → HoldsFile files t w name bytes
holds_on files s t v w name bytes keeps h = holds_of (before_it files s v.slot) t w name bytes (keeps (before_it files s v.slot) name bytes (writing_of files s v name bytes h))

-- `HoldsFile` still holds after `more` is appended to the buffered bytes
pub holds_more : (files : Option Files) (s : ShelfState) (v w : Writing) (name bytes more : List ℕ) → HoldsFile files s v name bytes → w ≡ record v { waiting = v.waiting ++ more } → HoldsFile files s w name (bytes ++ more)
holds_more files s v w name bytes more h e =
    subst (λ (x : Writing). HoldsFile files s x name (bytes ++ more)) (sym e)
    (record {
      held = h.held;
      split = ap (λ (l : List ℕ). l ++ more) h.split ∙ append_assoc h.held v.waiting more;
      put = h.put;
      made = h.made;
      named = h.named;
    })

-- calls that keep the files and the writer's slot preserve `HoldsFile`
pub holds_beside : (files : Option Files) (s t : ShelfState) (w : Writing) (name bytes : List ℕ) → HoldsFile files s w name bytes → KeepsFiles s.files t.files → t.slots w.slot ≡ s.slots w.slot → HoldsFile files t w name bytes
holds_beside files s t w name bytes h keeps same = record {
  held = h.held;
  split = h.split;
  put = PutsFile-kept files s.files t.files name h.held h.put keeps;
  made = ap (option_map (λ (o : Open). o.made)) same ∙ h.made;
  named = λ told. ap (option_and_then (λ (o : Open). o.name)) same ∙ h.named told;
}

-- ---- a capture

-- if only the file header of a new file is buffered, the file is a capture without records
pub none_written : (files : Option Files) (s : ShelfState) (v w : Writing) (name : List ℕ) → HoldsFile files s v name [] → w ≡ record v { waiting = v.waiting ++ header_spelling written_style } → HoldsCapture files s w name []
none_written files s v w name h e = subst (HoldsFile files s w name) (sym (append-nil (header_spelling written_style))) (holds_more files s v w name [] (header_spelling written_style) h e)

-- If `header ++ frame` is the encoding of the record `r`, appending it to a capture appends `r` to the records.
pub one_written : (records : List Record) (r : Record) (header frame : List ℕ) → header ++ frame ≡ record_spelling written_style r → (capture_bytes records ++ header) ++ frame ≡ capture_bytes (records ++ r ∷ [])
one_written records r header frame e =
    append_assoc (capture_bytes records) header frame
    ∙ (ap (λ (l : List ℕ). capture_bytes records ++ l) e ∙ flat_map_more (record_spelling written_style) (header_spelling written_style) records r)

-- ---- closing

beside_closed : (files : Option Files) (s : ShelfState) (new : Slots) (k : ℕ) (name : List ℕ) → KeepsSlotsBut files (without s.slots k) new name → KeepsBeside files s.slots new k name
beside_closed files s new k name keeps = record {
  same = λ j differ. keeps.same j ∙ ap (option_map file_of) (others s.slots k j differ);
  left = λ told j differ other. keeps.left told j (λ e. other (sym (ap (option_and_then (λ (o : Open). o.name)) (others s.slots k j differ)) ∙ e)) ∙ ap (option_and_then (λ (o : Open). o.left)) (others s.slots k j differ);
}

pub closed_prefix : (files : Option Files) (s t : ShelfState) (w : Writing) (name bytes : List ℕ) (result : Result Unit Failed) → ClosesFile s t w result → HoldsFile files s w name bytes → PutsPrefix files t.files name bytes
closed_prefix files s t w name bytes result closes h = closes.prefix (before_it files s w.slot) name bytes (writing_of files s w name bytes h)

pub closed_beside : (files : Option Files) (s t : ShelfState) (w : Writing) (name bytes : List ℕ) (result : Result Unit Failed) → ClosesFile s t w result → HoldsFile files s w name bytes → KeepsBeside files s.slots t.slots w.slot name
closed_beside files s t w name bytes result closes h = beside_closed files s t.slots w.slot name (closes.slots (before_it files s w.slot) name bytes (writing_of files s w name bytes h))

pub finished_put : (files : Option Files) (s t : ShelfState) (w : Writing) (name bytes : List ℕ)
    → ((begun : ShelfState) (name all : List ℕ) → IsWriting begun s w name all → PutsFile begun.files t.files name all) → HoldsFile files s w name bytes → PutsFile files t.files name bytes
finished_put files s t w name bytes puts h = puts (before_it files s w.slot) name bytes (writing_of files s w name bytes h)

pub closed_free : (files : Option Files) (s t : ShelfState) (w : Writing) (name bytes : List ℕ) (result : Result Unit Failed) → ClosesFile s t w result → HoldsFile files s w name bytes → t.slots w.slot ≡ None
closed_free files s t w name bytes result closes h =
    by (t.slots w.slot) ((closes.slots (before_it files s w.slot) name bytes (writing_of files s w name bytes h)).same w.slot ∙ ap (option_map file_of) (freed s.slots w.slot))
  where
    by : (o : Option Open) → option_map file_of o ≡ None → o ≡ None
    by None e = refl
    by (Some o) e = absurd cc

pub closes_capture : (s t : ShelfState) (w : Writing) (result : Result Unit Failed) → ClosesFile s t w result → ClosesCapture s t w result
closes_capture s t w result closes = record {
  prefix = λ files name records h. closed_prefix files s t w name (capture_bytes records) result closes h;
  free = λ files name records h. closed_free files s t w name (capture_bytes records) result closes h;
  beside = λ files name records h. closed_beside files s t w name (capture_bytes records) result closes h;
  reading = closes.reading;
  counted = closes.counted;
  asked = closes.asked;
}

pub finishes_capture : (s t : ShelfState) (w : Writing) (result : Result Unit Failed) → FinishesFile s t w result → FinishesCapture s t w result
finishes_capture s t w (Ok x) finishes = record {
  put = λ files name records h. finished_put files s t w name (capture_bytes records) finishes.put h;
  closes = closes_capture s t w (Ok x) finishes.closes;
}
finishes_capture s t w (Err e) finishes = record { put = tt; closes = closes_capture s t w (Err e) finishes.closes }

-- if a file was created and the file header was appended to its buffer, a capture was begun
pub begins_capture : (s t : ShelfState) (v w : Writing) (name header : List ℕ) → CreatesFile s t name (Ok v) → header ≡ header_spelling written_style → w ≡ record v { waiting = v.waiting ++ header } → BeginsCapture s t name (Ok w)
begins_capture s t v w name header is at e = record {
  begun = none_written s.files t v w name (holds_of s t v name [] is.begun) (e ∙ ap (λ (l : List ℕ). record v { waiting = v.waiting ++ l }) at);
  fresh = ap s.slots slot ∙ is.begun.free;
  beside = subst (λ (k : ℕ). KeepsBeside s.files s.slots t.slots k name) (sym slot) (record { same = is.begun.same; left = is.begun.left });
  not_made = tt;
  not_missing = λ e. absurd cc;
  reading = is.begun.reading;
  counted = record { never_falls = is.counted.never_falls; ok = is.counted.ok; missing = λ e. absurd cc; memory = λ e. absurd cc; failed = λ e. absurd cc };
  asked = is.asked;
} where
  slot : w.slot ≡ v.slot
  slot = ap (λ (x : Writing). x.slot) e

-- if room was made in the buffer and then a record was appended, the call added that record
pub adds_record : (s t : ShelfState) (v m w : Writing) (ok : Unit) (header frame : List ℕ) (r : Record)
    → ((begun : ShelfState) (name all : List ℕ) → IsWriting begun s v name all → IsWriting begun t m name all) → WritesSlot s t v m (Ok ok) → header ++ frame ≡ record_spelling written_style r
    → w ≡ record m { waiting = (m.waiting ++ header) ++ frame } → AddsRecord s t v w r (Ok ok)
adds_record s t v m w ok header frame r keeps writes e is = record {
  added = λ files name records h.
      let room = holds_on files s t v m name (capture_bytes records) keeps h in
      let one = holds_more files t m (record m { waiting = m.waiting ++ header }) name (capture_bytes records) header room refl in
      let two = holds_more files t (record m { waiting = m.waiting ++ header }) w name (capture_bytes records ++ header) frame one is in
      subst (HoldsFile files t w name) (one_written records r header frame e) two;
  kept = tt;
  writes = record { slot = ap (λ (x : Writing). x.slot) is ∙ writes.slot; made = writes.made; slots = writes.slots; reading = writes.reading; counted = writes.counted; asked = writes.asked };
}

-- if the shelf failed, no record was added
pub adds_none : (s t : ShelfState) (v w : Writing) (r : Record) (result : Result Unit Failed) → IsErr result → ((begun : ShelfState) (name all : List ℕ) → IsWriting begun s v name all → IsWriting begun t w name all) → WritesSlot s t v w result
    → AddsRecord s t v w r result
adds_none s t v w r (Ok x) failed keeps writes = absurd cc
adds_none s t v w r (Err e) failed keeps writes = record { added = tt; kept = λ files name records h. holds_on files s t v w name (capture_bytes records) keeps h; writes = writes }

-- ---- sizes

pub header_length : length (header_spelling written_style) ≡ 24
unfolding layout.number_bytes
header_length = refl

-- 24 bytes are enough for the file header
pub header_fits : (old new : List ℕ) (room : Room) → length old ≡ 24 → Writes (header_spelling written_style) old new (Err room) → ⊥
header_fits old new room long writes = omega (arith, long, header_length, writes.1)

-- if the file header is written to 24 bytes, nothing follows it
pub header_fills : (old new : List ℕ) (n : ℕ) → length old ≡ 24 → Writes (header_spelling written_style) old new (Ok n) → new ≡ header_spelling written_style
header_fills old new n long writes =
    writes.2 ∙ (ap (λ (rest : List ℕ). header_spelling written_style ++ rest) (drop_all (length (header_spelling written_style)) old (omega (arith, long, header_length))) ∙ append-nil (header_spelling written_style))

-- if nothing was added to its file, the writer's buffer is empty
pub none_waits : (s t : ShelfState) (w : Writing) (name : List ℕ) → IsWriting s t w name [] → length w.waiting ≡ 0
none_waits s t w name is = (let whole = ap (λ (l : List ℕ). length l) is.split in let both = length-append is.held w.waiting in omega (arith, whole, both))
