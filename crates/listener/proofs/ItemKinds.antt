-- Each item is one packet of audio or of the clock, one flagged delivery, or a whole unit.
use Rattle.std.proofs.Common.{◌≡◌, ◌⊎◌, ℕ, zero, suc, Bool, true, false, List, [], ◌∷◌, ◌++◌, All, length, map, Option, Some, None, refl, sym, ◌∙◌, subst, inl, inr, arith, append_assoc}
use Rattle.std.specs.Prelude.{◌==◌, if◌then◌else◌, slice_get}
use Rattle.std.proofs.lemmas.Bool.{eqb-true}
use Rattle.std.proofs.lemmas.List.Elements.{All-append, All-cons, All-head, All-nil, All-tail}
use Rattle.crf_format.specs.Crf.{crf_subtype}
use Rattle.cvf_format.specs.Cvf.{cvf_subtype}
use Rattle.cvf_format.specs.declared.piece.Piece.{Piece}
use Rattle.cvf_format.specs.declared.piece.Piece.TheVariants.{Whole, Held, Lost}
use Rattle.cvf_format.specs.WholeOrBroken.{given_up, piece, reason}
use Rattle.sample_schedule.specs.declared.shown.Reason.{Reason}
use Rattle.sample_schedule.specs.declared.shown.Reason.TheVariants.{Broken as BrokenUnit}
use Rattle.packet_journal.specs.Deliveries.{Delivery}
use Rattle.listener.specs.Items.{MadeItem, events_to, flagged, given_after, given_by, given_up_by, items_of, items_so_far, left_at_end, lost_for, made_of_one, own_by, piece_by, unit_by, video_by}
use Rattle.listener.specs.Units.{flaw_of, in_stream, last_ones, waiting}
use Rattle.listener.proofs.Made.{IsOther}

-- The item is made of one delivery in `ds`. The delivery is not a packet of H.264.
pub record IsOneOf (ds : List Delivery) (made : MadeItem) : Type 0 where
  pub before : List Delivery
  pub delivery : Delivery
  pub rest : List Delivery
  pub is : ds ≡ before ++ delivery ∷ rest
  pub other : IsOther delivery
  pub same : made_of_one delivery ≡ made

-- The item is a flagged delivery, which is not presented.
pub record IsFlagOf (made : MadeItem) : Type 0 where
  pub why : Reason
  pub delivery : Delivery
  pub same : flagged why delivery ≡ made

-- The item is a unit that a delivery in `ds` completes.
pub record IsWholeOf (ds : List Delivery) (made : MadeItem) : Type 0 where
  pub before : List Delivery
  pub delivery : Delivery
  pub rest : List Delivery
  pub is : ds ≡ before ++ delivery ∷ rest
  pub streamed : (delivery.subtype == crf_subtype) ≡ false
  pub video : (delivery.subtype == cvf_subtype) ≡ true
  pub flawless : flaw_of delivery ≡ None
  pub whole : piece (events_to before delivery) ≡ Whole
  pub same : unit_by before delivery ≡ made

abbrev pub IsKind : List Delivery → MadeItem → Type 0
IsKind ds made = IsOneOf ds made ⊎ (IsFlagOf made ⊎ IsWholeOf ds made)

flag_kind : (ds : List Delivery) (why : Reason) (d : Delivery) → IsKind ds (flagged why d)
flag_kind ds why d = inr (inl (record { why = why; delivery = d; same = refl }))

flag_kinds : (ds : List Delivery) (why : Reason) (xs : List Delivery) → All (IsKind ds) (map (flagged why) xs)
flag_kinds ds why [] = All-nil (IsKind ds)
flag_kinds ds why (x ∷ xs) = All-cons (IsKind ds) (flagged why x) (map (flagged why) xs) (flag_kind ds why x) (flag_kinds ds why xs)

one_kind : (ds : List Delivery) (m : MadeItem) → IsKind ds m → All (IsKind ds) (m ∷ [])
one_kind ds m k = All-cons (IsKind ds) m [] k (All-nil (IsKind ds))

clock_other : (s : ℕ) → (s == crf_subtype) ≡ true → (s == cvf_subtype) ≡ false
clock_other s e = by (s == cvf_subtype) refl
  where
    by : (b : Bool) → (s == cvf_subtype) ≡ b → b ≡ false
    by false f = refl
    by true f = absurd (let x = eqb-true s crf_subtype e in let y = eqb-true s cvf_subtype f in omega arith)

given_kinds : (ds before : List Delivery) (d : Delivery) (rest : List Delivery) → ds ≡ before ++ d ∷ rest → All (IsKind ds) (given_by before d)
given_kinds ds before d rest is = by (d.subtype == crf_subtype) refl
  where
    one : IsOther d → IsKind ds (made_of_one d)
    one other = inl (record { before = before; delivery = d; rest = rest; is = is; other = other; same = refl })

    piece_kinds : (d.subtype == crf_subtype) ≡ false → (d.subtype == cvf_subtype) ≡ true → flaw_of d ≡ None → (pk : Piece) → piece (events_to before d) ≡ pk → All (IsKind ds) (piece_by before d pk)
    piece_kinds streamed video flawless Whole whole = one_kind ds (unit_by before d) (inr (inr (record { before = before; delivery = d; rest = rest; is = is; streamed = streamed; video = video; flawless = flawless; whole = whole; same = refl })))
    piece_kinds streamed video flawless Held e = All-nil (IsKind ds)
    piece_kinds streamed video flawless (Lost why) e = one_kind ds (flagged (lost_for why) d) (flag_kind ds (lost_for why) d)

    video_kinds : (d.subtype == crf_subtype) ≡ false → (d.subtype == cvf_subtype) ≡ true → (o : Option Reason) → flaw_of d ≡ o → All (IsKind ds) (video_by before d o)
    video_kinds streamed video None flawless = piece_kinds streamed video flawless (piece (events_to before d)) refl
    video_kinds streamed video (Some reason) e = one_kind ds (flagged reason d) (flag_kind ds reason d)

    own_kinds : (d.subtype == crf_subtype) ≡ false → (v : Bool) → (d.subtype == cvf_subtype) ≡ v → All (IsKind ds) (if v then video_by before d (flaw_of d) else made_of_one d ∷ [])
    own_kinds streamed true video = video_kinds streamed video (flaw_of d) refl
    own_kinds streamed false other = one_kind ds (made_of_one d) (one other)

    by : (b : Bool) → (d.subtype == crf_subtype) ≡ b → All (IsKind ds) (if b then made_of_one d ∷ [] else given_up_by before d ++ own_by before d)
    by true e = one_kind ds (made_of_one d) (one (clock_other d.subtype e))
    by false e =
        All-append (IsKind ds) (given_up_by before d) (own_by before d)
        (flag_kinds ds (lost_for (reason (events_to before d))) (last_ones (length (given_up (events_to before d))) (in_stream before)))
        (own_kinds e (d.subtype == cvf_subtype) refl)

after_kinds : (ds before rest : List Delivery) → ds ≡ before ++ rest → All (IsKind ds) (given_after before rest)
after_kinds ds before [] is = All-nil (IsKind ds)
after_kinds ds before (d ∷ rest) is =
    All-append (IsKind ds) (given_by before d) (given_after (before ++ d ∷ []) rest) (given_kinds ds before d rest is)
    (after_kinds ds (before ++ d ∷ []) rest (is ∙ sym (append_assoc before (d ∷ []) rest)))

pub all_kinds : (ds : List Delivery) → All (IsKind ds) (items_of ds)
all_kinds ds =
    All-append (IsKind ds) (items_so_far ds) (left_at_end ds) (after_kinds ds [] ds refl) (flag_kinds ds BrokenUnit (waiting ds))

pub all_here : {X : Type 0} (P : X → Type 0) (before rest : List X) (x : X) → All P (before ++ x ∷ rest) → P x
all_here {X} P [] rest x all = All-head P x rest all
all_here {X} P (y ∷ before) rest x all = all_here P before rest x (All-tail P y (before ++ x ∷ rest) all)

pub all_before : {X : Type 0} (P : X → Type 0) (before rest : List X) → All P (before ++ rest) → All P before
all_before {X} P [] rest all = All-nil P
all_before {X} P (y ∷ before) rest all = All-cons P y before (All-head P y (before ++ rest) all) (all_before P before rest (All-tail P y (before ++ rest) all))

pub at_place : {X : Type 0} (P : X → Type 0) (xs : List X) (n : ℕ) (x : X) → All P xs → slice_get xs n ≡ Some x → P x
at_place {X} P [] n x all e = absurd cc
at_place {X} P (y ∷ xs) zero x all e = let same : y ≡ x = cc in subst P same (All-head P y xs all)
at_place {X} P (y ∷ xs) (suc n) x all e = at_place P xs n x (All-tail P y xs all) e
