-- Each delivery of a capture is in exactly one item.
use Rattle.std.proofs.Common.{◌≡◌, ◌⊎◌, ℕ, zero, suc, ◌+◌, ◌-◌, ◌<◌, ◌≤◌, Bool, true, false, cond, List, [], ◌∷◌, ◌++◌, All, length, map, Option, Some, None, refl, sym, ap, ◌∙◌, subst, inl, inr, arith, append-nil, append_assoc, length-append}
use Rattle.std.specs.Prelude.{◌==◌, ◌&&◌, not, if◌then◌else◌, count_by, slice_get}
use Rattle.std.specs.List.{sum_by}
use Rattle.std.proofs.Math.Seq.{drop-length}
use Rattle.std.proofs.lemmas.Bool.{cases_lt}
use Rattle.std.proofs.lemmas.List.{drop-append-le, map-append}
use Rattle.std.proofs.lemmas.List.Elements.{All-append, All-cons, All-drop, All-filter, All-head, All-nil, All-tail, filter-append}
use Rattle.std.proofs.lemmas.List.Sums.{sum_by-append, sum_by-cons}
use Rattle.crf_format.specs.Crf.{crf_subtype}
use Rattle.cvf_format.specs.Cvf.{cvf_of, cvf_subtype}
use Rattle.cvf_format.specs.declared.piece.Lost.{Lost as LostFor}
use Rattle.cvf_format.specs.declared.piece.Lost.TheVariants.{Broken, Long}
use Rattle.cvf_format.specs.declared.piece.Piece.{Piece}
use Rattle.cvf_format.specs.declared.piece.Piece.TheVariants.{Whole, Held, Lost}
use Rattle.cvf_format.specs.Settled.{packets, settled_as}
use Rattle.cvf_format.specs.WholeOrBroken.{Event, after_cuts, before_last, Fragment, cut, given_up, held, is_complete, is_joined, is_passed, is_within, last_stretch, packet, piece, piece_of, reason, waiting as waiting_of}
use Rattle.cvf_format.proofs.AssemblyLemmas.{waits_none}
use Rattle.cvf_format.proofs.SettledLemmas.{event_settles}
use Rattle.cvf_format.proofs.StretchLemmas.{before_more, last_cut}
use Rattle.sample_schedule.specs.declared.shown.Reason.{Reason}
use Rattle.sample_schedule.specs.declared.shown.Reason.TheVariants.{Broken as BrokenUnit}
use Rattle.packet_journal.specs.Deliveries.{Delivery}
use Rattle.listener.specs.Items.{MadeItem, events_to, flagged, given_after, given_by, given_up_by, items_of, items_so_far, left_at_end, lost_for, made_of_one, own_by, piece_by, sources, unit_by, video_by}
use Rattle.listener.specs.Units.{event_of, events, flaw_of, fragment_in, in_stream, last_ones, waiting}

-- ---- the last elements of a list

pub none_last : {X : Type 0} (xs : List X) → last_ones 0 xs ≡ []
none_last {X} xs = let all : length xs - 0 ≡ length xs = omega arith in rw all (drop-length xs)

pub last_more : {X : Type 0} (n : ℕ) (xs : List X) (x : X) → last_ones (n + 1) (xs ++ x ∷ []) ≡ last_ones n xs ++ x ∷ []
last_more {X} n xs x =
    let k : length (xs ++ x ∷ []) - (n + 1) ≡ length xs - n = omega (arith, length-append xs (x ∷ [])) in
    rw k (drop-append-le (length xs - n) xs (x ∷ []) (omega arith))

-- ---- one more event

pub gives_all_or_none : (es : List Event) (e : Event) → (length (given_up (es ++ e ∷ [])) ≡ 0) ⊎ (length (given_up (es ++ e ∷ [])) ≡ length (held es))
gives_all_or_none es e = by (is_joined (last_stretch (es ++ e ∷ [])))
  where
    by : (b : Bool) → (length (if b then [] else held (before_last (es ++ e ∷ []))) ≡ 0) ⊎ (length (if b then [] else held (before_last (es ++ e ∷ []))) ≡ length (held es))
    by true = inl refl
    by false = inr (ap (λ (l : List Event). length (held l)) (before_more es e))

pub cut_gives : (es : List Event) → given_up (es ++ cut ∷ []) ≡ held es
cut_gives es = rw (last_cut es) (ap held (before_more es cut))

pub cut_holds : (es : List Event) → held (es ++ cut ∷ []) ≡ []
cut_holds es = rw (last_cut es) waits_none

whole_holds : (r : List Fragment) → piece_of r ≡ Whole → waiting_of r ≡ []
whole_holds [] e = waits_none
whole_holds (x ∷ xs) e = by (is_within (x ∷ xs)) (is_complete (x ∷ xs)) (is_passed (x ∷ xs)) e
  where
    by : (w c p : Bool) → (if w then (if c then Whole else Held) else if p then Lost Long else Lost Broken) ≡ Whole → (if w && not c then x ∷ xs else []) ≡ []
    by true true p e = refl
    by true false p e = absurd cc
    by false c true e = refl
    by false c false e = refl

lost_holds : (r : List Fragment) (why : LostFor) → piece_of r ≡ Lost why → waiting_of r ≡ []
lost_holds [] why e = waits_none
lost_holds (x ∷ xs) why e = by (is_within (x ∷ xs)) (is_complete (x ∷ xs)) (is_passed (x ∷ xs)) e
  where
    by : (w c p : Bool) → (if w then (if c then Whole else Held) else if p then Lost Long else Lost Broken) ≡ Lost why → (if w && not c then x ∷ xs else []) ≡ []
    by true true p e = absurd cc
    by true false p e = absurd cc
    by false c p e = refl

-- How four numbers of fragments are related if a packet with this outcome is added. `h` fragments were held before, `g`
-- are given up, `s` are in the packet's stretch, and `w` are held afterwards.
abbrev Adds : Piece → ℕ → ℕ → ℕ → ℕ → Type 0
Adds Whole h g s w = (g + (s - 1) ≡ h) × (w ≡ 0)
Adds Held h g s w = g + w ≡ h + 1
Adds (Lost why) h g s w = (g ≡ h) × (w ≡ 0)

adds_whole : (h g s w : ℕ) → (g ≡ 0) ⊎ (g ≡ h) → h + 1 ≡ g + s + w → w ≡ 0 → Adds Whole h g s w
adds_whole h g s w (inl none) sum over = (omega arith, over)
adds_whole h g s w (inr all) sum over = (omega arith, over)

adds_up : (es : List Event) (f : Fragment) (pk : Piece) → piece (es ++ packet f ∷ []) ≡ pk
    → Adds pk (length (held es)) (length (given_up (es ++ packet f ∷ []))) (length (last_stretch (es ++ packet f ∷ []))) (length (held (es ++ packet f ∷ [])))
adds_up es f pk e = by pk e
  where
    sum : (fs : List Fragment) → settled_as (piece (es ++ packet f ∷ [])) f (last_stretch (es ++ packet f ∷ [])) ≡ fs
        → length (held es) + 1 ≡ length (given_up (es ++ packet f ∷ [])) + length fs + length (held (es ++ packet f ∷ []))
    sum fs same =
        let whole = ap length (event_settles es (packet f)) in
        let left = length-append (held es) (packets (packet f ∷ [])) in
        let right = length-append (given_up (es ++ packet f ∷ []) ++ settled_as (piece (es ++ packet f ∷ [])) f (last_stretch (es ++ packet f ∷ []))) (held (es ++ packet f ∷ [])) in
        let inner = length-append (given_up (es ++ packet f ∷ [])) (settled_as (piece (es ++ packet f ∷ [])) f (last_stretch (es ++ packet f ∷ []))) in
        omega (arith, whole, left, right, inner, ap length same)

    by : (pk : Piece) → piece (es ++ packet f ∷ []) ≡ pk
        → Adds pk (length (held es)) (length (given_up (es ++ packet f ∷ []))) (length (last_stretch (es ++ packet f ∷ []))) (length (held (es ++ packet f ∷ [])))
    by Whole e =
        adds_whole _ _ _ _ (gives_all_or_none es (packet f)) (sum (last_stretch (es ++ packet f ∷ [])) (rw e refl)) (ap length (whole_holds (last_stretch (es ++ packet f ∷ [])) e))
    by Held e = let s = sum [] (rw e refl) in omega (arith, s)
    by (Lost why) e =
        let over = ap length (lost_holds (last_stretch (es ++ packet f ∷ [])) why e) in
        let s = sum (f ∷ []) (rw e refl) in
        (omega (arith, s, over), over)

-- ---- one more delivery

-- the number of the items' deliveries that pass a test
abbrev pub tally : (Delivery → Bool) → List MadeItem → ℕ
tally p ms = sum_by (λ (m : MadeItem). count_by p (sources m)) ms

pub tally-append : (p : Delivery → Bool) (ms ns : List MadeItem) → tally p (ms ++ ns) ≡ tally p ms + tally p ns
tally-append p ms ns = sum_by-append (λ (m : MadeItem). count_by p (sources m)) ms ns

pub tally-cons : (p : Delivery → Bool) (m : MadeItem) (ms : List MadeItem) → tally p (m ∷ ms) ≡ count_by p (sources m) + tally p ms
tally-cons p m ms = sum_by-cons (λ (m : MadeItem). count_by p (sources m)) m ms

pub count-append : (p : Delivery → Bool) (xs ys : List Delivery) → count_by p (xs ++ ys) ≡ count_by p xs + count_by p ys
count-append p xs ys = sum_by-append (λ (y : Delivery). cond (p y) 1 0) xs ys

pub count-cons : (p : Delivery → Bool) (x : Delivery) (xs : List Delivery) → count_by p (x ∷ xs) ≡ count_by p (x ∷ []) + count_by p xs
count-cons p x xs = count-append p (x ∷ []) xs

tally-one : (p : Delivery → Bool) (m : MadeItem) → tally p (m ∷ []) ≡ count_by p (sources m)
tally-one p m = let more = tally-cons p m [] in omega (arith, more)

tally-flagged : (p : Delivery → Bool) (why : Reason) (xs : List Delivery) → tally p (map (flagged why) xs) ≡ count_by p xs
tally-flagged p why [] = refl
tally-flagged p why (x ∷ xs) = omega (arith, tally-cons p (flagged why x) (map (flagged why) xs), count-cons p x xs, tally-flagged p why xs)

abbrev pub is_streamed : Delivery → Bool
is_streamed d = not (d.subtype == crf_subtype)

pub stream_more : (before : List Delivery) (d : Delivery) → (d.subtype == crf_subtype) ≡ false → in_stream (before ++ d ∷ []) ≡ in_stream before ++ d ∷ []
stream_more before d e = filter-append is_streamed before (d ∷ []) ∙ ap (λ (l : List Delivery). in_stream before ++ l) (rw e refl)

stream_same : (before : List Delivery) (d : Delivery) → (d.subtype == crf_subtype) ≡ true → in_stream (before ++ d ∷ []) ≡ in_stream before
stream_same before d e = filter-append is_streamed before (d ∷ []) ∙ (ap (λ (l : List Delivery). in_stream before ++ l) (rw e refl) ∙ append-nil (in_stream before))

pub events_more : (before : List Delivery) (d : Delivery) → (d.subtype == crf_subtype) ≡ false → events (before ++ d ∷ []) ≡ events_to before d
events_more before d e = ap (map event_of) (stream_more before d e) ∙ map-append event_of (in_stream before) (d ∷ [])

pub events_same : (before : List Delivery) (d : Delivery) → (d.subtype == crf_subtype) ≡ true → events (before ++ d ∷ []) ≡ events before
events_same before d e = ap (map event_of) (stream_same before d e)

waiting_more : (before : List Delivery) (d : Delivery) → (d.subtype == crf_subtype) ≡ false → waiting (before ++ d ∷ []) ≡ last_ones (length (held (events_to before d))) (in_stream before ++ d ∷ [])
waiting_more before d e =
    ap (λ (es : List Event). last_ones (length (held es)) (in_stream (before ++ d ∷ []))) (events_more before d e)
    ∙ ap (last_ones (length (held (events_to before d)))) (stream_more before d e)

-- After delivery `d`, each delivery that waited, and `d` itself, is in an item or still waits. Only deliveries that
-- pass the test `p` are counted.
Keeps : (Delivery → Bool) → List Delivery → Delivery → List MadeItem → Type 0
Keeps p before d own = tally p (given_up_by before d ++ own) + count_by p (last_ones (length (held (events_to before d))) (in_stream before ++ d ∷ [])) ≡ count_by p (waiting before) + count_by p (d ∷ [])

up_tally : (p : Delivery → Bool) (before : List Delivery) (d : Delivery) (own : List MadeItem) → tally p (given_up_by before d ++ own) ≡ count_by p (last_ones (length (given_up (events_to before d))) (in_stream before)) + tally p own
up_tally p before d own =
    omega (arith, tally-append p (given_up_by before d) own, tally-flagged p (lost_for (reason (events_to before d))) (last_ones (length (given_up (events_to before d))) (in_stream before)))

keeps_cut : (p : Delivery → Bool) (before : List Delivery) (d : Delivery) (own : List MadeItem) → event_of d ≡ cut → tally p own ≡ count_by p (d ∷ []) → Keeps p before d own
unfolding Keeps
keeps_cut p before d own e same =
    let gives : given_up (events_to before d) ≡ held (events before) = rw e (cut_gives (events before)) in
    let holds : held (events_to before d) ≡ [] = rw e (cut_holds (events before)) in
    let up = ap (λ (l : List Fragment). count_by p (last_ones (length l) (in_stream before))) gives in
    let none = ap (λ (l : List Fragment). count_by p (last_ones (length l) (in_stream before ++ d ∷ []))) holds in
    let nothing = ap (count_by p) (none_last (in_stream before ++ d ∷ [])) in
    omega (arith, up_tally p before d own, up, none, nothing, same)

ones : (p : Delivery → Bool) (n m : ℕ) (xs : List Delivery) → n ≡ m → count_by p (last_ones n xs) ≡ count_by p (last_ones m xs)
ones p n m xs e = ap (λ (k : ℕ). count_by p (last_ones k xs)) e

none_of : (p : Delivery → Bool) (n : ℕ) (xs : List Delivery) → n ≡ 0 → count_by p (last_ones n xs) ≡ 0
none_of p n xs e = ones p n 0 xs e ∙ ap (count_by p) (none_last xs)

more_of : (p : Delivery → Bool) (n m : ℕ) (xs : List Delivery) (x : Delivery) → n ≡ m + 1 → count_by p (last_ones n (xs ++ x ∷ [])) ≡ count_by p (last_ones m xs) + count_by p (x ∷ [])
more_of p n m xs x e = ones p n (m + 1) (xs ++ x ∷ []) e ∙ (ap (count_by p) (last_more m xs x) ∙ count-append p (last_ones m xs) (x ∷ []))

keeps_unit : (p : Delivery → Bool) (before : List Delivery) (d : Delivery) (h g s w : ℕ) → (g ≡ 0) ⊎ (g ≡ h) → Adds Whole h g s w
    → count_by p (last_ones g (in_stream before)) + count_by p (last_ones (s - 1) (in_stream before)) + count_by p (last_ones w (in_stream before ++ d ∷ [])) ≡ count_by p (last_ones h (in_stream before))
keeps_unit p before d h g s w (inl none) a =
    omega (arith, none_of p g (in_stream before) none, ones p (s - 1) h (in_stream before) (omega (arith, none, a.0)), none_of p w (in_stream before ++ d ∷ []) a.1)
keeps_unit p before d h g s w (inr all) a =
    omega (arith, ones p g h (in_stream before) all, none_of p (s - 1) (in_stream before) (omega (arith, all, a.0)), none_of p w (in_stream before ++ d ∷ []) a.1)

keeps_held : (p : Delivery → Bool) (before : List Delivery) (d : Delivery) (h g s w : ℕ) → (g ≡ 0) ⊎ (g ≡ h) → Adds Held h g s w
    → count_by p (last_ones g (in_stream before)) + count_by p (last_ones w (in_stream before ++ d ∷ [])) ≡ count_by p (last_ones h (in_stream before)) + count_by p (d ∷ [])
keeps_held p before d h g s w (inl none) a =
    omega (arith, none_of p g (in_stream before) none, more_of p w h (in_stream before) d (omega (arith, none, a)))
keeps_held p before d h g s w (inr all) a =
    omega (arith, ones p g h (in_stream before) all, more_of p w 0 (in_stream before) d (omega (arith, all, a)), none_of p 0 (in_stream before) refl)

keeps_piece : (p : Delivery → Bool) (before : List Delivery) (d : Delivery) (f : Fragment) (pk : Piece) → event_of d ≡ packet f → piece (events_to before d) ≡ pk → Keeps p before d (piece_by before d pk)
unfolding Keeps
keeps_piece p before d f pk e is =
    by pk (subst (λ (x : Event). Adds pk (length (held (events before))) (length (given_up (events before ++ x ∷ []))) (length (last_stretch (events before ++ x ∷ []))) (length (held (events before ++ x ∷ [])))) (sym e) (adds_up (events before) f pk (ap (λ (x : Event). piece (events before ++ x ∷ [])) (sym e) ∙ is)))
  where
    by : (pk : Piece) → Adds pk (length (held (events before))) (length (given_up (events_to before d))) (length (last_stretch (events_to before d))) (length (held (events_to before d)))
        → tally p (given_up_by before d ++ piece_by before d pk) + count_by p (last_ones (length (held (events_to before d))) (in_stream before ++ d ∷ [])) ≡ count_by p (waiting before) + count_by p (d ∷ [])
    by Whole a =
        omega (
          arith,
          up_tally p before d (unit_by before d ∷ []),
          tally-one p (unit_by before d),
          count-append p (last_ones (length (last_stretch (events_to before d)) - 1) (in_stream before)) (d ∷ []),
          keeps_unit p before d _ _ _ _ (gives_all_or_none (events before) (event_of d)) a,
        )
    by Held a = omega (arith, up_tally p before d [], keeps_held p before d _ _ (length (last_stretch (events_to before d))) _ (gives_all_or_none (events before) (event_of d)) a)
    by (Lost why) a =
        omega (
          arith,
          up_tally p before d (flagged (lost_for why) d ∷ []),
          tally-one p (flagged (lost_for why) d),
          ones p _ _ (in_stream before) a.0,
          none_of p _ (in_stream before ++ d ∷ []) a.1,
        )

gives_stream : (p : Delivery → Bool) (before : List Delivery) (d : Delivery) → Keeps p before d (own_by before d)
unfolding Keeps
gives_stream p before d = by (d.subtype == cvf_subtype) (flaw_of d) refl refl
  where
    by : (v : Bool) (o : Option Reason) → (d.subtype == cvf_subtype) ≡ v → flaw_of d ≡ o → Keeps p before d (if v then video_by before d o else made_of_one d ∷ [])
    by false o e f = keeps_cut p before d (made_of_one d ∷ []) (rw e refl) (tally-one p (made_of_one d))
    by true (Some reason) e f = keeps_cut p before d (flagged reason d ∷ []) (rw (e, f) refl) (tally-one p (flagged reason d))
    by true None e f = keeps_piece p before d (fragment_in d (cvf_of d.packet)) (piece (events_to before d)) (rw (e, f) refl) refl

gives : (p : Delivery → Bool) (before : List Delivery) (d : Delivery) → tally p (given_by before d) + count_by p (waiting (before ++ d ∷ [])) ≡ count_by p (waiting before) + count_by p (d ∷ [])
unfolding Keeps
gives p before d = by (d.subtype == crf_subtype) refl
  where
    by : (b : Bool) → (d.subtype == crf_subtype) ≡ b → tally p (if b then made_of_one d ∷ [] else given_up_by before d ++ own_by before d) + count_by p (waiting (before ++ d ∷ [])) ≡ count_by p (waiting before) + count_by p (d ∷ [])
    by true e =
        let same = ap (λ (l : List Event). count_by p (last_ones (length (held l)) (in_stream (before ++ d ∷ [])))) (events_same before d e) in
        let stream = ap (λ (l : List Delivery). count_by p (last_ones (length (held (events before))) l)) (stream_same before d e) in
        omega (arith, tally-one p (made_of_one d), same, stream)
    by false e = let kept = gives_stream p before d in omega (arith, kept, ap (count_by p) (waiting_more before d e))

-- ---- all deliveries

after_tally : (p : Delivery → Bool) (before ds : List Delivery) → tally p (given_after before ds) + count_by p (waiting (before ++ ds)) ≡ count_by p (waiting before) + count_by p ds
after_tally p before [] = let same = ap (λ (l : List Delivery). count_by p (waiting l)) (append-nil before) in omega (arith, same)
after_tally p before (d ∷ ds) =
    let regrouped = ap (λ (l : List Delivery). count_by p (waiting l)) (append_assoc before (d ∷ []) ds) in
    omega (arith, tally-append p (given_by before d) (given_after (before ++ d ∷ []) ds), gives p before d, after_tally p (before ++ d ∷ []) ds, count-cons p d ds, regrouped)

none_waits : waiting [] ≡ []
unfolding last_stretch
none_waits = rw waits_none refl

pub all_made : (p : Delivery → Bool) (ds : List Delivery) → tally p (items_of ds) ≡ count_by p ds
all_made p ds =
    let nothing = ap (count_by p) none_waits in
    omega (arith, tally-append p (items_so_far ds) (left_at_end ds), tally-flagged p BrokenUnit (waiting ds), after_tally p [] ds, nothing)

-- If `P` holds for each delivery of an item, `Q` holds for the item. There is one field for each way to make an item.
pub record OfEach (P : Delivery → Type 0) (Q : MadeItem → Type 0) : Type 0 where
  pub one : (d : Delivery) → P d → Q (made_of_one d)
  pub flag : (why : Reason) (d : Delivery) → P d → is_streamed d ≡ true → Q (flagged why d)
  pub unit : (before : List Delivery) (d : Delivery) → All P before → P d → is_streamed d ≡ true → Q (unit_by before d)

pub last_all : (P : Delivery → Type 0) (n : ℕ) (ds : List Delivery) → All P ds → All P (last_ones n (in_stream ds))
last_all P n ds all = All-drop P (length (in_stream ds) - n) (in_stream ds) (All-filter is_streamed P ds all)

abbrev pub IsStreamed : Delivery → Type 0
IsStreamed d = is_streamed d ≡ true

all_streamed : (ds : List Delivery) → All IsStreamed (in_stream ds)
all_streamed [] = All-nil IsStreamed
all_streamed (d ∷ ds) = by (is_streamed d) refl (all_streamed ds)
  where
    by : (b : Bool) → is_streamed d ≡ b → All IsStreamed (in_stream ds) → All IsStreamed (cond b (d ∷ in_stream ds) (in_stream ds))
    by true e rest = All-cons IsStreamed d (in_stream ds) e rest
    by false e rest = rest

pub last_streamed : (n : ℕ) (ds : List Delivery) → All IsStreamed (last_ones n (in_stream ds))
last_streamed n ds = All-drop IsStreamed (length (in_stream ds) - n) (in_stream ds) (all_streamed ds)

flagged_all : (P : Delivery → Type 0) (Q : MadeItem → Type 0) (why : Reason) (ds : List Delivery) → OfEach P Q → All P ds → All IsStreamed ds → All Q (map (flagged why) ds)
flagged_all P Q why [] each all streamed = All-nil Q
flagged_all P Q why (d ∷ ds) each all streamed =
    All-cons Q (flagged why d) (map (flagged why) ds) (each.flag why d (All-head P d ds all) (All-head IsStreamed d ds streamed))
    (flagged_all P Q why ds each (All-tail P d ds all) (All-tail IsStreamed d ds streamed))

one_all : (Q : MadeItem → Type 0) (m : MadeItem) → Q m → All Q (m ∷ [])
one_all Q m q = All-cons Q m [] q (All-nil Q)

given_all : (P : Delivery → Type 0) (Q : MadeItem → Type 0) (before : List Delivery) (d : Delivery) → OfEach P Q → All P before → P d → All Q (given_by before d)
given_all P Q before d each all here = by (d.subtype == crf_subtype) refl
  where
    piece_all : IsStreamed d → (pk : Piece) → All Q (piece_by before d pk)
    piece_all streamed Whole = one_all Q (unit_by before d) (each.unit before d all here streamed)
    piece_all streamed Held = All-nil Q
    piece_all streamed (Lost why) = one_all Q (flagged (lost_for why) d) (each.flag (lost_for why) d here streamed)

    video_all : IsStreamed d → (o : Option Reason) → All Q (video_by before d o)
    video_all streamed None = piece_all streamed (piece (events_to before d))
    video_all streamed (Some reason) = one_all Q (flagged reason d) (each.flag reason d here streamed)

    own_all : IsStreamed d → (v : Bool) → All Q (if v then video_by before d (flaw_of d) else made_of_one d ∷ [])
    own_all streamed true = video_all streamed (flaw_of d)
    own_all streamed false = one_all Q (made_of_one d) (each.one d here)

    by : (b : Bool) → (d.subtype == crf_subtype) ≡ b → All Q (if b then made_of_one d ∷ [] else given_up_by before d ++ own_by before d)
    by true e = one_all Q (made_of_one d) (each.one d here)
    by false e =
        All-append Q (given_up_by before d) (own_by before d)
        (flagged_all P Q (lost_for (reason (events_to before d))) (last_ones (length (given_up (events_to before d))) (in_stream before)) each
        (last_all P (length (given_up (events_to before d))) before all) (last_streamed (length (given_up (events_to before d))) before))
        (own_all (rw e refl) (d.subtype == cvf_subtype))

after_all : (P : Delivery → Type 0) (Q : MadeItem → Type 0) (before ds : List Delivery) → OfEach P Q → All P before → All P ds → All Q (given_after before ds)
after_all P Q before [] each all rest = All-nil Q
after_all P Q before (d ∷ ds) each all rest =
    let here = All-head P d ds rest in
    All-append Q (given_by before d) (given_after (before ++ d ∷ []) ds) (given_all P Q before d each all here)
    (after_all P Q (before ++ d ∷ []) ds each (All-append P before (d ∷ []) all (All-cons P d [] here (All-nil P))) (All-tail P d ds rest))

pub items_all : (P : Delivery → Type 0) (Q : MadeItem → Type 0) (ds : List Delivery) → OfEach P Q → All P ds → All Q (items_of ds)
items_all P Q ds each all =
    All-append Q (items_so_far ds) (left_at_end ds) (after_all P Q [] ds each (All-nil P) all)
    (flagged_all P Q BrokenUnit (waiting ds) each (last_all P (length (held (events ds))) ds all) (last_streamed (length (held (events ds))) ds))

-- ---- further deliveries

after_more : (before ds es : List Delivery) → given_after before (ds ++ es) ≡ given_after before ds ++ given_after (before ++ ds) es
after_more before [] es = ap (λ (l : List Delivery). given_after l es) (sym (append-nil before))
after_more before (d ∷ ds) es =
    ap (λ (l : List MadeItem). given_by before d ++ l) (after_more (before ++ d ∷ []) ds es)
    ∙ (sym (append_assoc (given_by before d) (given_after (before ++ d ∷ []) ds) (given_after ((before ++ d ∷ []) ++ ds) es))
    ∙ ap (λ (l : List Delivery). (given_by before d ++ given_after (before ++ d ∷ []) ds) ++ given_after l es) (append_assoc before (d ∷ []) ds))

pub so_far_more : (ds es : List Delivery) → items_so_far (ds ++ es) ≡ items_so_far ds ++ given_after ds es
so_far_more ds es = after_more [] ds es

pub so_far_next : (ds : List Delivery) (d : Delivery) → items_so_far (ds ++ d ∷ []) ≡ items_so_far ds ++ given_by ds d
so_far_next ds d = so_far_more ds (d ∷ []) ∙ ap (λ (l : List MadeItem). items_so_far ds ++ l) (append-nil (given_by ds d))

-- ---- no packets of H.264

abbrev pub IsOther : Delivery → Type 0
IsOther d = (d.subtype == cvf_subtype) ≡ false

cut_events : (ds : List Delivery) → All IsOther ds → after_cuts (events ds) ≡ []
cut_events [] all = refl
cut_events (d ∷ ds) all = by (d.subtype == crf_subtype) (cut_events ds (All-tail IsOther d ds all))
  where
    by : (b : Bool) → after_cuts (events ds) ≡ [] → after_cuts (map event_of (cond (not b) (d ∷ in_stream ds) (in_stream ds))) ≡ []
    by true rest = rest
    by false rest = let other : event_of d ≡ cut = rw (All-head IsOther d ds all) refl in rw other rest

none_held : (ds : List Delivery) → All IsOther ds → held (events ds) ≡ []
unfolding last_stretch
none_held ds all = rw (cut_events ds all) waits_none

pub other_given : (before : List Delivery) (d : Delivery) → All IsOther before → IsOther d → given_by before d ≡ made_of_one d ∷ []
other_given before d all other = by (d.subtype == crf_subtype)
  where
    by : (b : Bool) → (if b then made_of_one d ∷ [] else given_up_by before d ++ own_by before d) ≡ made_of_one d ∷ []
    by true = refl
    by false =
        let event : event_of d ≡ cut = rw other refl in
        let gives : given_up (events_to before d) ≡ [] = rw event (cut_gives (events before) ∙ none_held before all) in
        let up : given_up_by before d ≡ [] = rw gives (ap (map (flagged (lost_for (reason (events_to before d))))) (none_last (in_stream before))) in
        rw (up, other) refl

after_other : (before ds : List Delivery) → All IsOther before → All IsOther ds → given_after before ds ≡ map made_of_one ds
after_other before [] all rest = refl
after_other before (d ∷ ds) all rest =
    let here = All-head IsOther d ds rest in
    let others = after_other (before ++ d ∷ []) ds (All-append IsOther before (d ∷ []) all (All-cons IsOther d [] here (All-nil IsOther))) (All-tail IsOther d ds rest) in
    rw (other_given before d all here) (ap (λ (l : List MadeItem). made_of_one d ∷ l) others)

pub so_far_other : (ds : List Delivery) → All IsOther ds → items_so_far ds ≡ map made_of_one ds
so_far_other ds all = after_other [] ds (All-nil IsOther) all

pub items_other : (ds : List Delivery) → All IsOther ds → items_of ds ≡ map made_of_one ds
items_other ds all =
    let none : left_at_end ds ≡ [] = rw (none_held ds all) (ap (map (flagged BrokenUnit)) (none_last (in_stream ds))) in
    rw none (append-nil (items_so_far ds) ∙ so_far_other ds all)

-- ---- the index of the item that has a delivery

pub one_in : (p : Delivery → Bool) (ms : List MadeItem) (i : ℕ) (m : MadeItem) → slice_get ms i ≡ Some m → 1 ≤ count_by p (sources m) → 1 ≤ tally p ms
one_in p [] i m e some = absurd cc
one_in p (x ∷ ms) zero m e some = let same : x ≡ m = cc in let here = ap (λ (y : MadeItem). count_by p (sources y)) same in omega (arith, tally-cons p x ms, here, some)
one_in p (x ∷ ms) (suc i) m e some = let rest = one_in p ms i m e some in omega (arith, tally-cons p x ms, rest)

pub two_in : (p : Delivery → Bool) (ms : List MadeItem) (i k : ℕ) (m n : MadeItem) → slice_get ms i ≡ Some m → slice_get ms k ≡ Some n → i < k → 1 ≤ count_by p (sources m) → 1 ≤ count_by p (sources n) → 2 ≤ tally p ms
two_in p [] i k m n e f lt some others = absurd cc
two_in p (x ∷ ms) i zero m n e f lt some others = absurd (omega arith)
two_in p (x ∷ ms) zero (suc k) m n e f lt some others =
    let same : x ≡ m = cc in
    let here = ap (λ (y : MadeItem). count_by p (sources y)) same in
    let rest = one_in p ms k n f others in
    omega (arith, tally-cons p x ms, here, some, rest)
two_in p (x ∷ ms) (suc i) (suc k) m n e f lt some others = let rest = two_in p ms i k m n e f (omega arith) some others in omega (arith, tally-cons p x ms, rest)

pub same_place : (p : Delivery → Bool) (ms : List MadeItem) (i k : ℕ) (m n : MadeItem) → tally p ms ≤ 1 → slice_get ms i ≡ Some m → slice_get ms k ≡ Some n → 1 ≤ count_by p (sources m) → 1 ≤ count_by p (sources n) → i ≡ k
same_place p ms i k m n few e f some others = elim (cases_lt i k) [
  | inl before ↦ let two = two_in p ms i k m n e f before some others in absurd (omega arith)
  | inr past ↦ elim (cases_lt k i) [
    | inl before ↦ let two = two_in p ms k i n m f e before others some in absurd (omega arith)
    | inr within ↦ omega arith
  ]
]

-- An item with a delivery that passes the test, and the item's index.
pub record HasOne (p : Delivery → Bool) (ms : List MadeItem) : Type 0 where
  pub place : ℕ
  pub item : MadeItem
  pub there : slice_get ms place ≡ Some item
  pub some : 1 ≤ count_by p (sources item)

pub find_one : (p : Delivery → Bool) (ms : List MadeItem) → 1 ≤ tally p ms → HasOne p ms
find_one p [] some = absurd (omega arith)
find_one p (m ∷ ms) some = elim (cases_lt 0 (count_by p (sources m))) [
  | inl here ↦ record { place = 0; item = m; there = refl; some = omega arith }
  | inr none ↦
      let rest = find_one p ms (omega (arith, tally-cons p m ms)) in
      record { place = suc rest.place; item = rest.item; there = rest.there; some = rest.some }
]

pub last_counts : (p : Delivery → Bool) (m : MadeItem) → p m.last ≡ true → 1 ≤ count_by p (sources m)
last_counts p m e = let one : count_by p (m.last ∷ []) ≡ 1 = rw e refl in omega (arith, count-append p m.earlier (m.last ∷ []), one)

-- ---- how many items there are

few_items : (ms : List MadeItem) → length ms ≤ tally (λ d. true) ms
few_items [] = omega arith
few_items (m ∷ ms) = omega (arith, tally-cons (λ d. true) m ms, last_counts (λ d. true) m refl, few_items ms)

count_all : (ds : List Delivery) → count_by (λ d. true) ds ≡ length ds
count_all [] = refl
count_all (d ∷ ds) = omega (arith, count-cons (λ d. true) d ds, count_all ds)

pub items_few : (ds : List Delivery) → length (items_of ds) ≤ length ds
items_few ds = omega (arith, few_items (items_of ds), all_made (λ d. true) ds, count_all ds)

pub so_far_few : (ds : List Delivery) → length (items_so_far ds) ≤ length (items_of ds)
so_far_few ds = omega (arith, length-append (items_so_far ds) (left_at_end ds))
