-- Two files that are open side by side.
use Rattle.std.proofs.Common.{ℕ, refl, arith, ◌≡◌, sym, subst, ◌∙◌, Option, Some, None, List, [], ◌∷◌, ◌++◌, append_assoc, inl, inr, Err}
use Rattle.std.specs.Prelude.{IsSome, ◌≢◌, IsErrOf, option_and_then}
use Rattle.std.proofs.lemmas.Bool.Decides.{eqb_tells}
use Rattle.avtp_base.specs.declared.failed.FaultPlace.TheVariants as fault_place
use Rattle.avtp_base.specs.States.{ShelfState, WasAsked}
use Rattle.avtp_base.proofs.Files.{KeepsFiles-refl, KeepsFiles-trans, KeepsOthers-closed}
use Rattle.capture_io.specs.Reads.{ReadsSlot, OpensSlot, OnlyReads}
use Rattle.avtp_files.specs.ShelfCalls.{ClosesSlot}
use Rattle.avtp_base.specs.Files.{KeepsSlots, IsMissing, KeepsFiles, Open}
use Rattle.avtp_base.specs.declared.failed.OpenFault.{OpenFault}
use Rattle.avtp_base.specs.Faults.{FailsAt, IsOpeningCounted, ReadingFaults}
use Rattle.capture_io.specs.Source.{Sourcing, HasGiven, HasGivenOf, slot_of}
use Rattle.pcap_frames.specs.Capture.{Record}
use Rattle.avtp_base.specs.declared.failed.OpenFault.TheVariants as open_fault
use Rattle.run_report.proofs.Files.{missing_before}
use Rattle.run_report.proofs.Leaving.{same_count}
use Rattle.agree_command.specs.state.Comparing.{AreOpen, ReadsTwo, OpensSlots, ClosesTwo, Refuses}

pub two_begun : (s : ShelfState) (k j : ℕ) → AreOpen s k j → ReadsTwo s s k j
two_begun s k j live = record { files = KeepsFiles-refl s.files; live = live; others = λ i p q. refl; reading = omega arith; writing = refl; asked = λ names was. was }

pub two_on_a : {s t u : ShelfState} {k j n i : ℕ} → ReadsTwo s t k j → n ≡ k → ReadsSlot t u n i → ReadsTwo s u k j
two_on_a {s} {t} {u} {k} {j} {n} {i} two same reads =
    let on = subst (λ (m : ℕ). ReadsSlot t u m i) same reads in
    record {
      files = KeepsFiles-trans s.files t.files u.files two.files on.files;
      live = record { apart = two.live.apart; a = on.live; b = subst IsSome (sym (on.others j (λ e. two.live.apart (sym e)))) two.live.b };
      others = λ x p q. on.others x p ∙ two.others x p q;
      reading = omega (arith, two.reading, on.reading);
      writing = on.writing ∙ two.writing;
      asked = λ names was. on.asked names (two.asked names was);
    }

pub two_on_b : {s t u : ShelfState} {k j n i : ℕ} → ReadsTwo s t k j → n ≡ j → ReadsSlot t u n i → ReadsTwo s u k j
two_on_b {s} {t} {u} {k} {j} {n} {i} two same reads =
    let on = subst (λ (m : ℕ). ReadsSlot t u m i) same reads in
    record {
      files = KeepsFiles-trans s.files t.files u.files two.files on.files;
      live = record { apart = two.live.apart; a = subst IsSome (sym (on.others k two.live.apart)) two.live.a; b = on.live };
      others = λ x p q. on.others x q ∙ two.others x p q;
      reading = omega (arith, two.reading, on.reading);
      writing = on.writing ∙ two.writing;
      asked = λ names was. on.asked names (two.asked names was);
    }

some_none : {A : Type 0} {P : Type 0} (o : Option A) → IsSome o → o ≡ None → P
some_none None some none = absurd cc
some_none (Some x) some none = absurd cc

pub opens_both : {s t u : ShelfState} {a b : List ℕ} {k j : ℕ} → OpensSlot s t a k → OpensSlot t u b j → t.reading_faults ≡ s.reading_faults → u.reading_faults ≡ t.reading_faults → OpensSlots s u a b k j
opens_both {s} {t} {u} {a} {b} {k} {j} first second quiet still =
    let apart : k ≢ j = λ e. some_none (t.slots j) (subst (λ (n : ℕ). IsSome (t.slots n)) e first.live) second.free in
    record {
      free_a = first.free;
      free_b = sym (first.others j (λ e. apart (sym e))) ∙ second.free;
      live = record { apart = apart; a = subst IsSome (sym (second.others k apart)) first.live; b = second.live };
      files = KeepsFiles-trans s.files t.files u.files first.files second.files;
      others = λ i p q. second.others i q ∙ first.others i p;
      reading = still ∙ quiet;
      writing = second.writing ∙ first.writing;
      asked = λ earlier was. subst (WasAsked u.asked) (append_assoc earlier (a ∷ []) (b ∷ [])) (second.asked (earlier ++ a ∷ []) (first.asked earlier was));
    }

pub closes_both : {t u v : ShelfState} (k j : ℕ) → AreOpen t k j → ClosesSlot t u j → ClosesSlot u v k → ClosesTwo t v k j
closes_both {t} {u} {v} k j live second first = record {
  ended_a = first.ended;
  ended_b = first.others j (λ e. live.apart (sym e)) ∙ second.ended;
  others = λ i p q. first.others i p ∙ second.others i q;
  files = KeepsFiles-trans t.files u.files v.files second.files first.files;
  reading = first.reading ∙ second.reading;
  writing = first.writing ∙ second.writing;
  asked = λ names was. first.asked names (second.asked names was);
}

-- two files were opened, read and closed
module _ {s t u v : ShelfState} {a b : List ℕ} {k j : ℕ} (opens : OpensSlots s t a b k j) (reads : ReadsTwo t u k j) (closes : ClosesTwo u v k j) where
  slots_same : KeepsSlots s.slots v.slots
  slots_same i =
      elim (eqb_tells i k) [
        | inl same ↦ subst (λ (n : ℕ). v.slots n ≡ s.slots n) (sym same.1) (closes.ended_a ∙ sym opens.free_a)
        | inr other ↦ elim (eqb_tells i j) [
          | inl same ↦ subst (λ (n : ℕ). v.slots n ≡ s.slots n) (sym same.1) (closes.ended_b ∙ sym opens.free_b)
          | inr differs ↦ closes.others i other.1 differs.1 ∙ reads.others i other.1 differs.1 ∙ opens.others i other.1 differs.1
        ]
      ]

  pub both_closed : OnlyReads s v (a ∷ b ∷ [])
  both_closed = record {
    files = KeepsFiles-trans s.files u.files v.files (KeepsFiles-trans s.files t.files u.files opens.files reads.files) closes.files;
    slots = slots_same;
    reading = omega (arith, same_count opens.reading, reads.reading, same_count closes.reading);
    writing = closes.writing ∙ reads.writing ∙ opens.writing;
    asked = λ earlier was. closes.asked (earlier ++ a ∷ b ∷ []) (reads.asked (earlier ++ a ∷ b ∷ []) (opens.asked earlier was));
  }

-- The first file was opened, the second file could not be opened, and the first file was closed again. Together, these
-- steps only read files.
pub second_refused : {s t u v : ShelfState} {a b : List ℕ} {k : ℕ} → OpensSlot s t a k → OnlyReads t u (b ∷ []) → ClosesSlot u v k → OnlyReads s v (a ∷ b ∷ [])
second_refused {s} {t} {u} {v} {a} {b} {k} opens only closes = record {
  files = KeepsFiles-trans s.files u.files v.files (KeepsFiles-trans s.files t.files u.files opens.files only.files) closes.files;
  slots = KeepsOthers-closed s.slots u.slots v.slots k opens.free (λ j differs. only.slots j ∙ opens.others j differs) closes.others closes.ended;
  reading = omega (arith, opens.reading, only.reading, same_count closes.reading);
  writing = closes.writing ∙ only.writing ∙ opens.writing;
  asked = λ earlier was. closes.asked (earlier ++ a ∷ b ∷ []) (subst (WasAsked u.asked) (append_assoc earlier (a ∷ []) (b ∷ [])) (only.asked (earlier ++ a ∷ []) (opens.asked earlier was)));
}

-- ---- why a file was not opened

-- Let other calls precede and follow a failed attempt to open a file. If none of the other calls counts a read fault,
-- and no call before the attempt changes a file, `Refuses` still holds.
pub refused_around : {name : List ℕ} {fault : OpenFault} (s t u v : ShelfState) → KeepsFiles s.files t.files → t.reading_faults ≡ s.reading_faults → v.reading_faults ≡ u.reading_faults
    → (IsErrOf {T = Sourcing} (Err fault) open_fault.Missing → IsMissing t.files name) → IsOpeningCounted {T = Sourcing} t.reading_faults u.reading_faults (Err fault) → Refuses s v name fault
refused_around {name} {fault} s t u v keeps first last missing counted = record {
  missing = λ is. missing_before s.files t.files name keeps (missing is);
  counted = record {
    never_falls = omega (arith, same_count first, same_count last, counted.never_falls);
    ok = tt;
    missing = λ is. last ∙ counted.missing is ∙ first;
    memory = λ is. last ∙ counted.memory is ∙ first;
    failed = λ is. subst (λ (faults : ReadingFaults). FailsAt faults v.reading_faults fault_place.Opening) first (subst (λ (faults : ReadingFaults). FailsAt t.reading_faults faults fault_place.Opening) (sym last) (counted.failed is));
  };
}

pub refused_memory : {name : List ℕ} (s v : ShelfState) → v.reading_faults ≡ s.reading_faults → Refuses s v name open_fault.Memory
refused_memory s v same = record {
  missing = λ is. absurd cc;
  counted = record { never_falls = omega (arith, same_count same); ok = tt; missing = λ is. absurd cc; memory = λ is. same; failed = λ is. absurd cc };
}

pub given_kept : {limit : ℕ} {bytes : List ℕ} {source : Sourcing} {records : List Record} (s t : ShelfState) → t.slots (slot_of source) ≡ s.slots (slot_of source) → HasGivenOf limit bytes s source records → HasGivenOf limit bytes t source records
given_kept {limit} {bytes} {source} {records} s t same given = subst (λ (o : Option Open). HasGiven limit bytes (option_and_then (λ (f : Open). f.left) o) source records) (sym same) given
