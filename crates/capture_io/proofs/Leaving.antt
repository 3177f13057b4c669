-- What two successive calls together leave unchanged on a shelf.
use Rattle.std.proofs.Common.{◌≡◌, ℕ, List, [], ◌∷◌, ◌++◌, refl, sym, ap, subst, ◌∙◌, arith, append_assoc, append-nil}
use Rattle.std.specs.Prelude.{IsSome, option_map}
use Rattle.avtp_base.specs.Faults.{ReadingFaults}
use Rattle.avtp_base.specs.Files.{KeepsOthers, file_of}
use Rattle.avtp_base.specs.States.{ShelfState, WasAsked}
use Rattle.avtp_base.proofs.Files.{KeepsFiles-refl, KeepsFiles-trans, KeepsOthers-closed, KeepsOthers-trans, named_as}
use Rattle.avtp_files.specs.ShelfCalls.{ClosesSlot}
use Rattle.capture_io.specs.Reads.{OnlyReads, ReadsSlot, OpensSlot}

pub only_reads_nothing : (s : ShelfState) → OnlyReads s s []
only_reads_nothing s = record {
  files = KeepsFiles-refl s.files;
  slots = λ j. refl;
  reading = omega arith;
  writing = refl;
  asked = λ earlier stands. subst (WasAsked s.asked) (sym (append-nil earlier)) stands;
}

pub only_reads_then : (s t u : ShelfState) (names more : List (List ℕ)) → OnlyReads s t names → OnlyReads t u more → OnlyReads s u (names ++ more)
only_reads_then s t u names more first second = record {
  files = KeepsFiles-trans s.files t.files u.files first.files second.files;
  slots = λ j. second.slots j ∙ first.slots j;
  reading = omega (arith, first.reading, second.reading);
  writing = second.writing ∙ first.writing;
  asked = λ earlier stands. subst (WasAsked u.asked) (append_assoc earlier names more) (second.asked (earlier ++ names) (first.asked earlier stands));
}

-- doing nothing counts as reading slot k
pub reads_nothing : (s : ShelfState) (k : ℕ) → IsSome (s.slots k) → ReadsSlot s s k k
reads_nothing s k live = record {
  slot = refl;
  files = KeepsFiles-refl s.files;
  live = live;
  same = refl;
  others = λ j differs. refl;
  reading = omega arith;
  writing = refl;
  asked = λ names stands. stands;
}

pub reads_still : (s : ShelfState) (k j : ℕ) → j ≡ k → IsSome (s.slots k) → ReadsSlot s s k j
reads_still s k j same live = subst (ReadsSlot s s k) (sym same) (reads_nothing s k live)

pub reads_then : {s t u : ShelfState} {k j i : ℕ} → ReadsSlot s t k j → ReadsSlot t u j i → ReadsSlot s u k i
reads_then {s} {t} {u} {k} first second = record {
  slot = second.slot ∙ first.slot;
  files = KeepsFiles-trans s.files t.files u.files first.files second.files;
  live = subst (λ (n : ℕ). IsSome (u.slots n)) first.slot second.live;
  same = subst (λ (n : ℕ). option_map file_of (u.slots n) ≡ option_map file_of (t.slots n)) first.slot second.same ∙ first.same;
  others = KeepsOthers-trans s.slots t.slots u.slots k first.others (subst (KeepsOthers t.slots u.slots) first.slot second.others);
  reading = omega (arith, first.reading, second.reading);
  writing = second.writing ∙ first.writing;
  asked = λ names stands. second.asked names (first.asked names stands);
}

pub opens_then : (s t u : ShelfState) (name : List ℕ) (k j : ℕ) → OpensSlot s t name k → ReadsSlot t u k j → OpensSlot s u name k
opens_then s t u name k j first second = record {
  free = first.free;
  files = KeepsFiles-trans s.files t.files u.files first.files second.files;
  live = second.live;
  named = λ told. named_as (t.slots k) (u.slots k) second.same ∙ first.named told;
  others = KeepsOthers-trans s.slots t.slots u.slots k first.others second.others;
  reading = omega (arith, first.reading, second.reading);
  writing = second.writing ∙ first.writing;
  asked = λ earlier stands. second.asked (earlier ++ name ∷ []) (first.asked earlier stands);
}

-- opening a file, reading it and closing it again counts as a call that only reads
pub only_reads_closed : (s t u : ShelfState) (name : List ℕ) (k : ℕ) → OpensSlot s t name k → ClosesSlot t u k → OnlyReads s u (name ∷ [])
only_reads_closed s t u name k first second = record {
  files = KeepsFiles-trans s.files t.files u.files first.files second.files;
  slots = KeepsOthers-closed s.slots t.slots u.slots k first.free first.others second.others second.ended;
  reading = omega (arith, first.reading, ap (λ (faults : ReadingFaults). faults.count) second.reading);
  writing = second.writing ∙ first.writing;
  asked = λ earlier stands. second.asked (earlier ++ name ∷ []) (first.asked earlier stands);
}
