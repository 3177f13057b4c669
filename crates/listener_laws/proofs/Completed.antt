-- A unit that is complete is among the items.
use Rattle.std.proofs.Common.{◌≡◌, ℕ, Bool, true, false, List, [], ◌∷◌, ◌++◌, length, Option, Some, None, refl, ap, ◌∙◌}
use Rattle.std.specs.Prelude.{◌==◌, if◌then◌else◌, slice_get}
use Rattle.crf_format.specs.Crf.{crf_subtype}
use Rattle.cvf_format.specs.Cvf.{cvf_subtype}
use Rattle.cvf_format.specs.declared.piece.Piece.{Piece}
use Rattle.cvf_format.specs.declared.piece.Piece.TheVariants.{Whole, Held, Lost}
use Rattle.cvf_format.specs.WholeOrBroken.{piece}
use Rattle.sample_schedule.specs.declared.shown.Reason.{Reason}
use Rattle.packet_journal.specs.Deliveries.{Delivery}
use Rattle.listener.specs.Items.{MadeItem, events_to, given_after, given_by, given_up_by, items_of, items_so_far, left_at_end, made_of_one, own_by, piece_by, unit_by, video_by}
use Rattle.listener.specs.Units.{flaw_of}
use Rattle.listener.proofs.Made.{so_far_more}

by_kind : (before : List Delivery) (d : Delivery) (b : Bool) → b ≡ true → (if b then video_by before d (flaw_of d) else made_of_one d ∷ []) ≡ video_by before d (flaw_of d)
by_kind before d true e = refl
by_kind before d false e = absurd cc

by_flaw : (before : List Delivery) (d : Delivery) (o : Option Reason) → o ≡ None → video_by before d o ≡ piece_by before d (piece (events_to before d))
by_flaw before d None e = refl
by_flaw before d (Some reason) e = absurd cc

by_piece : (before : List Delivery) (d : Delivery) (x : Piece) → x ≡ Whole → piece_by before d x ≡ unit_by before d ∷ []
by_piece before d Whole e = refl
by_piece before d Held e = absurd cc
by_piece before d (Lost why) e = absurd cc

of_stream : (before : List Delivery) (d : Delivery) (b : Bool) → b ≡ false → (if b then made_of_one d ∷ [] else given_up_by before d ++ own_by before d) ≡ given_up_by before d ++ own_by before d
of_stream before d true e = absurd cc
of_stream before d false e = refl

pub gives_unit : (before : List Delivery) (d : Delivery) → d.subtype ≡ cvf_subtype → flaw_of d ≡ None → piece (events_to before d) ≡ Whole → given_by before d ≡ given_up_by before d ++ unit_by before d ∷ []
gives_unit before d kind flaw whole =
    let video : (d.subtype == cvf_subtype) ≡ true = rw kind refl in
    let stream : (d.subtype == crf_subtype) ≡ false = rw kind refl in
    let own : own_by before d ≡ unit_by before d ∷ [] =
    by_kind before d (d.subtype == cvf_subtype) video ∙ (by_flaw before d (flaw_of d) flaw ∙ by_piece before d (piece (events_to before d)) whole) in
    of_stream before d (d.subtype == crf_subtype) stream ∙ ap (λ (l : List MadeItem). given_up_by before d ++ l) own

there : (sf gu more left : List MadeItem) (u : MadeItem) → slice_get ((sf ++ ((gu ++ u ∷ []) ++ more)) ++ left) (length (sf ++ gu)) ≡ Some u
there [] [] more left u = refl
there [] (g ∷ gu) more left u = there [] gu more left u
there (s ∷ sf) gu more left u = there sf gu more left u

-- a complete unit has an index among the items
pub unit_there : (before : List Delivery) (d : Delivery) (rest : List Delivery) → d.subtype ≡ cvf_subtype → flaw_of d ≡ None → piece (events_to before d) ≡ Whole
    → slice_get (items_of (before ++ d ∷ rest)) (length (items_so_far before ++ given_up_by before d)) ≡ Some (unit_by before d)
unit_there before d rest kind flaw whole =
    let place : ℕ = length (items_so_far before ++ given_up_by before d) in
    let left : List MadeItem = left_at_end (before ++ d ∷ rest) in
    let more : List MadeItem = given_after (before ++ d ∷ []) rest in
    ap (λ (l : List MadeItem). slice_get (l ++ left) place) (so_far_more before (d ∷ rest))
    ∙ (ap (λ (l : List MadeItem). slice_get ((items_so_far before ++ (l ++ more)) ++ left) place) (gives_unit before d kind flaw whole)
    ∙ there (items_so_far before) (given_up_by before d) more left (unit_by before d))
