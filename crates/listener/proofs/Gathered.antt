-- The items that the units of a stream hold after one more delivery.
use Rattle.std.proofs.Common.{◌≡◌, ◌⊎◌, ℕ, zero, suc, ◌+◌, ◌-◌, Bool, true, false, List, [], ◌∷◌, ◌++◌, All, length, map, drop, take, Option, Some, None, refl, sym, ap, ◌∙◌, subst, inl, inr, arith, append-nil, length-append}
use Rattle.std.specs.Prelude.{◌==◌, ◌&&◌, not, if◌then◌else◌, IfSome, slice_get}
use Rattle.std.specs.List.{list_any}
use Rattle.std.specs.Option.{option_to_list}
use Rattle.std.proofs.Math.Seq.{drop-append_seam}
use Rattle.std.proofs.lemmas.Bool.{eqb-true}
use Rattle.std.proofs.lemmas.List.{length-map, map-append}
use Rattle.std.proofs.lemmas.List.Elements.{All-append, All-cons, All-head, All-map, All-nil, All-tail, All-take}
use Rattle.crf_format.specs.Crf.{crf_subtype}
use Rattle.cvf_format.specs.Assembly.{Assembly, StandsFor}
use Rattle.cvf_format.specs.Cvf.{Cvf, cvf_of, cvf_refusal, cvf_subtype}
use Rattle.cvf_format.specs.declared.piece.Mark.{Mark}
use Rattle.cvf_format.specs.declared.piece.Lost.{Lost as LostFor}
use Rattle.cvf_format.specs.declared.piece.Lost.TheVariants.{Broken}
use Rattle.cvf_format.specs.declared.piece.Piece.{Piece}
use Rattle.cvf_format.specs.declared.piece.Piece.TheVariants.{Whole, Held, Lost}
use Rattle.cvf_format.specs.StretchRules.{EndsWith}
use Rattle.cvf_format.specs.WholeOrBroken.{Event, Fragment, after_cuts, before_last, cut, given_up, held, is_complete, is_cut, is_joined, is_stretch, is_within, last_stretch, lost_marks, mark_of as mark_in, packet, piece, reason, stretch_of, waiting as waiting_of, whole_unit}
use Rattle.cvf_format.proofs.AssemblyLemmas.{waits_none}
use Rattle.cvf_format.proofs.RuleLemmas.{some_stretch}
use Rattle.cvf_format.proofs.StretchLemmas.{before_more, last_cut}
use Rattle.sample_schedule.specs.declared.entry.Entry.{Entry}
use Rattle.sample_schedule.specs.declared.item.Item.{Item}
use Rattle.sample_schedule.specs.declared.shown.Reason.{Reason}
use Rattle.sample_schedule.specs.declared.shown.Reason.TheVariants.{Broken as BrokenUnit}
use Rattle.sample_schedule.specs.Limits.{IsItem}
use Rattle.time_unfold.specs.Time.{IsArrival, unfolded}
use Rattle.packet_journal.specs.Deliveries.{Delivery}
use Rattle.listener.specs.Gathering.{Gathered, HasUnits, item_entry, left, lost_item}
use Rattle.listener.specs.state.Gathering.{Cuts, Gives, IsSound, IsTimelyEvent, Pushes, Takes, own_item}
use Rattle.avtp_base.specs.declared.refusal.Refusal.{Refusal}
use Rattle.avtp_base.proofs.RowLemmas.{unequal}
use Rattle.sample_schedule.specs.declared.entry.Entry.TheVariants.{Item as OfItem}
use Rattle.sample_schedule.specs.declared.shown.Reason.TheVariants.{Malformed}
use Rattle.listener.specs.Items.{entry_of, events_to, flagged, given_by, given_up_by, item_of, left_at_end, lost_for, malformed, made_entry, made_of_one, own_by, piece_by, video_by}
use Rattle.listener.specs.Units.{event_by, event_of, events, flaw_in, flaw_of, flaw_or, fragment_in, in_stream, last_ones, mark_of, waiting}
use Rattle.listener.proofs.Made.{cut_gives, events_more, none_last}

-- ---- arrivals

abbrev IsTimely : Fragment → Type 0
IsTimely f = IsArrival f.mark.arrival

timely_after : (es : List Event) → All IsTimelyEvent es → All IsTimely (after_cuts es)
timely_after [] all = All-nil IsTimely
timely_after (cut ∷ es) all = timely_after es (All-tail IsTimelyEvent cut es all)
timely_after (packet f ∷ es) all = by (list_any is_cut es) (All-head IsTimelyEvent (packet f) es all) (timely_after es (All-tail IsTimelyEvent (packet f) es all))
  where
    by : (b : Bool) → IsTimely f → All IsTimely (after_cuts es) → All IsTimely (if b then after_cuts es else f ∷ after_cuts es)
    by true here rest = rest
    by false here rest = All-cons IsTimely f (after_cuts es) here rest

timely_stretch : (fs : List Fragment) → All IsTimely fs → All IsTimely (stretch_of fs)
timely_stretch [] all = All-nil IsTimely
timely_stretch (f ∷ fs) all = by (is_stretch (f ∷ fs)) (timely_stretch fs (All-tail IsTimely f fs all))
  where
    by : (b : Bool) → All IsTimely (stretch_of fs) → All IsTimely (if b then f ∷ fs else stretch_of fs)
    by true rest = all
    by false rest = rest

timely_waits : (r : List Fragment) → All IsTimely r → All IsTimely (waiting_of r)
timely_waits r all = by (is_within r && not (is_complete r))
  where
    by : (b : Bool) → All IsTimely (if b then r else [])
    by true = all
    by false = All-nil IsTimely

timely_held : (es : List Event) → All IsTimelyEvent es → All IsTimely (held es)
unfolding last_stretch
timely_held es all = timely_waits (last_stretch es) (timely_stretch (after_cuts es) (timely_after es all))

timely_given : (es : List Event) → All IsTimelyEvent es → All IsTimely (given_up es)
unfolding before_last
timely_given es all = by (is_joined (last_stretch es))
  where
    by : (b : Bool) → All IsTimely (if b then [] else held (take (length es - 1) es))
    by true = All-nil IsTimely
    by false = timely_held (take (length es - 1) es) (All-take IsTimelyEvent (length es - 1) es all)

abbrev IsTimelyMark : Mark → Type 0
IsTimelyMark m = IsArrival m.arrival

pub timely_lost : (a : Assembly) (es : List Event) → StandsFor a es → All IsTimelyEvent es → All IsTimelyMark a.lost
timely_lost a es s all = subst (λ (l : List Mark). All IsTimelyMark l) (sym s.lost) (All-map IsTimelyMark mark_in (given_up es) (timely_given es all))

more_timely : (es : List Event) (e : Event) → All IsTimelyEvent es → IsTimelyEvent e → All IsTimelyEvent (es ++ e ∷ [])
more_timely es e all here = All-append IsTimelyEvent es (e ∷ []) all (All-cons IsTimelyEvent e [] here (All-nil IsTimelyEvent))

pub sound_cut : (item : Item) (old new : Gathered) → IsSound old → IsItem item → Cuts item old new → IsSound new
sound_cut item old new s is c = record {
  events = s.events ++ cut ∷ [];
  stands = c.stands s.events s.stands;
  arrivals = more_timely s.events cut s.arrivals tt;
  own = rw c.own is;
}

pub sound_push : (d : Delivery) (v : Cvf) (old new : Gathered) → IsSound old → IsArrival d.arrival → IfSome new.own IsItem → Pushes d v old new → IsSound new
sound_push d v old new s arrives own p = record {
  events = s.events ++ packet (fragment_in d v) ∷ [];
  stands = p.stands s.events s.stands;
  arrivals = more_timely s.events (packet (fragment_in d v)) s.arrivals arrives;
  own = own;
}

-- ---- the deliveries that wait

drop-map : {X Y : Type 0} (f : X → Y) (n : ℕ) (xs : List X) → drop n (map f xs) ≡ map f (drop n xs)
drop-map {X} {Y} f zero xs = refl
drop-map {X} {Y} f (suc n) [] = refl
drop-map {X} {Y} f (suc n) (x ∷ xs) = drop-map f n xs

pub last_events : (xs : List Delivery) (front : List Event) (run : List Fragment) → map event_of xs ≡ front ++ map packet run → map event_of (last_ones (length run) xs) ≡ map packet run
last_events xs front run e =
    let long : length xs ≡ length front + length run = sym (length-map xs event_of) ∙ (ap length e ∙ (length-append front (map packet run) ∙ ap (λ (n : ℕ). length front + n) (length-map run packet))) in
    let n : length xs - length run ≡ length front = omega (arith, long) in
    rw n (sym (drop-map event_of (length front) xs) ∙ (ap (drop (length front)) e ∙ drop-append_seam front (map packet run)))

one_packet : (f g : Fragment) → packet f ≡ packet g → f ≡ g
one_packet f g e = cc

mark_by : (d : Delivery) (f : Fragment) → event_of d ≡ packet f → mark_of d ≡ f.mark
mark_by d f e = by (d.subtype == cvf_subtype) (flaw_of d) e
  where
    by : (b : Bool) (o : Option Reason) → (if b then event_by d o else cut) ≡ packet f → mark_of d ≡ f.mark
    by true None g = ap (λ (x : Fragment). x.mark) (one_packet (fragment_in d (cvf_of d.packet)) f g)
    by true (Some reason) g = absurd cc
    by false o g = absurd cc

marks_by : (xs : List Delivery) (fs : List Fragment) → map event_of xs ≡ map packet fs → map mark_of xs ≡ map mark_in fs
marks_by [] [] e = refl
marks_by [] (f ∷ fs) e = absurd cc
marks_by (x ∷ xs) [] e = absurd cc
marks_by (x ∷ xs) (f ∷ fs) e =
    let first : event_of x ≡ packet f = cc in
    let rest : map event_of xs ≡ map packet fs = cc in
    let mark = mark_by x f first in
    rw (mark, marks_by xs fs rest) refl

stretch_marks : (ds : List Delivery) (r : List Fragment) → (r ≡ []) ⊎ EndsWith (events ds) r → map mark_of (last_ones (length r) (in_stream ds)) ≡ map mark_in r
stretch_marks ds r (inl none) = rw none (ap (map mark_of) (none_last (in_stream ds)))
stretch_marks ds r (inr ends) = marks_by (last_ones (length r) (in_stream ds)) r (last_events (in_stream ds) ends.front r ends.is)

waiting_marks : (ds : List Delivery) → map mark_of (waiting ds) ≡ map mark_in (held (events ds))
waiting_marks ds = by (is_within (last_stretch (events ds)) && not (is_complete (last_stretch (events ds))))
  where
    by : (b : Bool) → map mark_of (last_ones (length (if b then last_stretch (events ds) else [])) (in_stream ds)) ≡ map mark_in (if b then last_stretch (events ds) else [])
    by true = stretch_marks ds (last_stretch (events ds)) (some_stretch (events ds))
    by false = ap (map mark_of) (none_last (in_stream ds))

given_marks : (ds : List Delivery) (e : Event) → map mark_of (last_ones (length (given_up (events ds ++ e ∷ []))) (in_stream ds)) ≡ map mark_in (given_up (events ds ++ e ∷ []))
given_marks ds e = by (is_joined (last_stretch (events ds ++ e ∷ [])))
  where
    by : (b : Bool) → map mark_of (last_ones (length (if b then [] else held (before_last (events ds ++ e ∷ [])))) (in_stream ds)) ≡ map mark_in (if b then [] else held (before_last (events ds ++ e ∷ [])))
    by true = ap (map mark_of) (none_last (in_stream ds))
    by false = rw (before_more (events ds) e) (waiting_marks ds)

-- ---- what is left to be judged

flags_are : (why : Reason) (xs : List Delivery) → map item_entry (map (lost_item why) (map mark_of xs)) ≡ map made_entry (map (flagged why) xs)
flags_are why [] = refl
flags_are why (x ∷ xs) = ap (λ (l : List Entry). item_entry (lost_item why (mark_of x)) ∷ l) (flags_are why xs)

left_by : (new : Gathered) (es : List Event) → StandsFor new.assembly es → new.taken ≡ 0 → new.why ≡ reason es
    → map item_entry (left new) ≡ map item_entry (map (lost_item (lost_for (reason es))) (map mark_in (given_up es))) ++ map item_entry (option_to_list new.own)
left_by new es s none why =
    ap (λ (n : ℕ). map item_entry (map (lost_item (lost_for new.why)) (drop n new.assembly.lost) ++ option_to_list new.own)) none
    ∙ (ap (λ (l : List Mark). map item_entry (map (lost_item (lost_for new.why)) l ++ option_to_list new.own)) s.lost
    ∙ (ap (λ (w : LostFor). map item_entry (map (lost_item (lost_for w)) (map mark_in (given_up es)) ++ option_to_list new.own)) why
    ∙ map-append item_entry (map (lost_item (lost_for (reason es))) (map mark_in (given_up es))) (option_to_list new.own)))

gives_by : (ds : List Delivery) (d : Delivery) (new : Gathered) → StandsFor new.assembly (events_to ds d) → new.taken ≡ 0 → new.why ≡ reason (events_to ds d) → (d.subtype == crf_subtype) ≡ false
    → map item_entry (option_to_list new.own) ≡ map made_entry (own_by ds d) → map item_entry (left new) ≡ map made_entry (given_by ds d)
gives_by ds d new s none why streamed own =
    let lost = ap (λ (l : List Mark). map item_entry (map (lost_item (lost_for (reason (events_to ds d)))) l)) (sym (given_marks ds (event_of d))) in
    let flags = flags_are (lost_for (reason (events_to ds d))) (last_ones (length (given_up (events_to ds d))) (in_stream ds)) in
    let here : given_by ds d ≡ given_up_by ds d ++ own_by ds d = rw streamed refl in
    left_by new (events_to ds d) s none why
    ∙ (ap (λ (l : List Entry). l ++ map item_entry (option_to_list new.own)) (lost ∙ flags)
    ∙ (ap (λ (l : List Entry). map made_entry (given_up_by ds d) ++ l) own
    ∙ (sym (map-append made_entry (given_up_by ds d) (own_by ds d))
    ∙ ap (map made_entry) (sym here))))

pub has_more : (ds : List Delivery) (d : Delivery) (new : Gathered) → StandsFor new.assembly (events_to ds d) → (d.subtype == crf_subtype) ≡ false → HasUnits (ds ++ d ∷ []) new
has_more ds d new s streamed = record { assembly = subst (λ (es : List Event). StandsFor new.assembly es) (sym (events_more ds d streamed)) s }

pub has_as : {ds : List Delivery} {old new : Gathered} → new.assembly ≡ old.assembly → HasUnits ds old → HasUnits ds new
has_as {ds} {old} {new} same has = record { assembly = subst (λ (a : Assembly). StandsFor a (events ds)) (sym same) has.assembly }

-- the state of the units after a delivery that ends the current unit
abbrev pub when_cut : Item → Assembly → Gathered
when_cut item assembly = record { assembly = assembly; why = Broken; taken = 0; own = Some item }

pub cuts_of : (item : Item) (old : Gathered) (assembly : Assembly) → ((es : List Event) → StandsFor old.assembly es → StandsFor assembly (es ++ cut ∷ [])) → Cuts item old (when_cut item assembly)
cuts_of item old assembly stands = record { stands = stands; why = refl; taken = refl; own = refl }

pub first_alone : (marks : List Mark) (item : Item) → length marks ≡ 0
    → map (lost_item (lost_for Broken)) (drop 0 marks) ++ option_to_list (Some item) ≡ item ∷ (map (lost_item (lost_for Broken)) (drop 0 marks) ++ [])
first_alone [] item none = refl
first_alone (mark ∷ marks) item none = absurd cc

-- if a delivery ends the current unit, the delivery yields the fragments of that unit, and then its own item
pub cut_gives_all : (ds : List Delivery) (d : Delivery) (item : Item) (old new : Gathered) → (d.subtype == crf_subtype) ≡ false → event_of d ≡ cut → item_entry item ∷ [] ≡ map made_entry (own_by ds d)
    → HasUnits ds old → Cuts item old new → Gives ds d new
cut_gives_all ds d item old new streamed event own has c =
    let stands : StandsFor new.assembly (events_to ds d) = rw event (c.stands (events ds) has.assembly) in
    let why : new.why ≡ reason (events_to ds d) = rw (event, last_cut (events ds)) c.why in
    record {
      has = has_more ds d new stands streamed;
      gives = gives_by ds d new stands c.taken why streamed (rw c.own own);
    }

pub push_gives_all : (ds : List Delivery) (d : Delivery) (old new : Gathered) → (d.subtype == cvf_subtype) ≡ true → flaw_of d ≡ None → HasUnits ds old → Pushes d (cvf_of d.packet) old new → Gives ds d new
push_gives_all ds d old new video good has p =
    let streamed : (d.subtype == crf_subtype) ≡ false = not_clock d.subtype video in
    let event : event_of d ≡ packet (fragment_in d (cvf_of d.packet)) = rw (video, good) refl in
    let stands : StandsFor new.assembly (events_to ds d) = rw event (p.stands (events ds) has.assembly) in
    let why : new.why ≡ reason (events_to ds d) = rw event (p.why (events ds) has.assembly) in
    let own : new.own ≡ own_item d (unfolded (cvf_of d.packet).header.timestamp d.arrival) (whole_unit (events_to ds d)) (piece (events_to ds d)) = rw event (p.own (events ds) has.assembly) in
    let made : own_by ds d ≡ video_by ds d None = ap (λ (b : Bool). if b then video_by ds d (flaw_of d) else made_of_one d ∷ []) video ∙ ap (video_by ds d) good in
    record {
      has = has_more ds d new stands streamed;
      gives = gives_by ds d new stands p.taken why streamed (ap (λ (o : Option Item). map item_entry (option_to_list o)) own ∙ (own_is (piece (events_to ds d)) ∙ ap (map made_entry) (sym made)));
    }
  where
    not_clock : (s : ℕ) → (s == cvf_subtype) ≡ true → (s == crf_subtype) ≡ false
    not_clock s e = let same : s ≡ cvf_subtype = eqb-true s cvf_subtype e in rw same refl

    own_is : (pk : Piece) → map item_entry (option_to_list (own_item d (unfolded (cvf_of d.packet).header.timestamp d.arrival) (whole_unit (events_to ds d)) pk)) ≡ map made_entry (piece_by ds d pk)
    own_is Whole = refl
    own_is Held = refl
    own_is (Lost why) = refl

-- at the end of the stream, the fragments of an incomplete unit are given up
pub end_gives : (ds : List Delivery) (new : Gathered) → StandsFor new.assembly (events ds ++ cut ∷ []) → new.taken ≡ 0 → new.why ≡ Broken → new.own ≡ None → map item_entry (left new) ≡ map made_entry (left_at_end ds)
end_gives ds new s none why own =
    let so : new.why ≡ reason (events ds ++ cut ∷ []) = rw (last_cut (events ds)) why in
    let last : reason (events ds ++ cut ∷ []) ≡ Broken = rw (last_cut (events ds)) refl in
    left_by new (events ds ++ cut ∷ []) s none so
    ∙ (ap (λ (o : Option Item). map item_entry (map (lost_item (lost_for (reason (events ds ++ cut ∷ [])))) (map mark_in (given_up (events ds ++ cut ∷ [])))) ++ map item_entry (option_to_list o)) own
    ∙ (append-nil (map item_entry (map (lost_item (lost_for (reason (events ds ++ cut ∷ [])))) (map mark_in (given_up (events ds ++ cut ∷ [])))))
    ∙ (ap (λ (w : LostFor). map item_entry (map (lost_item (lost_for w)) (map mark_in (given_up (events ds ++ cut ∷ []))))) last
    ∙ (ap (λ (fs : List Fragment). map item_entry (map (lost_item BrokenUnit) (map mark_in fs))) (cut_gives (events ds))
    ∙ (ap (λ (l : List Mark). map item_entry (map (lost_item BrokenUnit) l)) (sym (waiting_marks ds))
    ∙ flags_are BrokenUnit (waiting ds))))))

-- ---- one item is taken

pub next_left : (u v : Gathered) (m : Mark) → slice_get u.assembly.lost u.taken ≡ Some m → v ≡ record u { taken = u.taken + 1 } → left u ≡ lost_item (lost_for u.why) m ∷ left v
next_left u v m there same =
    ap (λ (l : List Mark). map (lost_item (lost_for u.why)) l ++ option_to_list u.own) (drop_next u.assembly.lost u.taken m there)
    ∙ ap (λ (w : Gathered). lost_item (lost_for u.why) m ∷ left w) (sym same)
  where
    drop_next : (xs : List Mark) (n : ℕ) (x : Mark) → slice_get xs n ≡ Some x → drop n xs ≡ x ∷ drop (n + 1) xs
    drop_next [] n x e = absurd cc
    drop_next (y ∷ xs) zero x e = let same : y ≡ x = cc in rw same refl
    drop_next (y ∷ xs) (suc n) x e = let k : suc n + 1 ≡ suc (n + 1) = omega arith in rw k (drop_next xs n x e)

-- ---- the beginning

nothing_lost : lost_marks [] ≡ []
unfolding last_stretch before_last
nothing_lost = rw waits_none refl

pub none_lost : (a : Assembly) → StandsFor a [] → 0 ≡ length a.lost
none_lost a s = ap length (sym (s.lost ∙ nothing_lost))

pub begun_left : (a : Assembly) → StandsFor a [] → left (record { assembly = a; why = Broken; taken = 0; own = None }) ≡ []
begun_left a s = rw (s.lost ∙ nothing_lost) refl

-- ---- the items of each kind of delivery

pub audio_taken : (ds : List Delivery) (d : Delivery) (item : Item) (old new : Gathered) → ¬ (d.subtype ≡ crf_subtype) → ¬ (d.subtype ≡ cvf_subtype) → item ≡ item_of d → HasUnits ds old → Cuts item old new → Gives ds d new
audio_taken ds d item old new streamed other is has c =
    let stream : (d.subtype == crf_subtype) ≡ false = unequal d.subtype crf_subtype streamed in
    let audio : (d.subtype == cvf_subtype) ≡ false = unequal d.subtype cvf_subtype other in
    let own : own_by ds d ≡ made_of_one d ∷ [] = rw audio refl in
    let entry : entry_of d ≡ OfItem (item_of d) = rw stream refl in
    cut_gives_all ds d item old new stream (rw audio refl)
    (ap (λ (i : Item). item_entry i ∷ []) is ∙ (ap (λ (e : Entry). e ∷ []) (sym entry) ∙ ap (map made_entry) (sym own))) has c

video_stream : (d : Delivery) → d.subtype ≡ cvf_subtype → (d.subtype == crf_subtype) ≡ false
video_stream d e = rw e refl

video_test : (d : Delivery) → d.subtype ≡ cvf_subtype → (d.subtype == cvf_subtype) ≡ true
video_test d e = rw e refl

-- a packet with a flaw yields the fragments that are given up because of it, and then its own flagged item
flawed_taken : (ds : List Delivery) (d : Delivery) (reason : Reason) (old new : Gathered) → d.subtype ≡ cvf_subtype → flaw_of d ≡ Some reason → HasUnits ds old → Cuts (lost_item reason (mark_of d)) old new → Gives ds d new
flawed_taken ds d reason old new video flaw has c =
    let own : own_by ds d ≡ video_by ds d (Some reason) = ap (λ (b : Bool). if b then video_by ds d (flaw_of d) else made_of_one d ∷ []) (video_test d video) ∙ ap (video_by ds d) flaw in
    let event : event_of d ≡ cut = ap (λ (b : Bool). if b then event_by d (flaw_of d) else cut) (video_test d video) ∙ ap (event_by d) flaw in
    cut_gives_all ds d (lost_item reason (mark_of d)) old new (video_stream d video) event (ap (map made_entry) (sym own)) has c

pub refused_taken : (ds : List Delivery) (d : Delivery) (refusal : Refusal) (old new : Gathered) → d.subtype ≡ cvf_subtype → cvf_refusal d.packet ≡ Some refusal → HasUnits ds old → Cuts (malformed d refusal) old new → Gives ds d new
refused_taken ds d refusal old new video refused has c =
    flawed_taken ds d (Malformed refusal.field) old new video (ap (λ (o : Option Refusal). flaw_or o (cvf_of d.packet)) refused) has c

taken_by : (ds : List Delivery) (d : Delivery) (o : Option Reason) (old new : Gathered) → d.subtype ≡ cvf_subtype → flaw_of d ≡ o → HasUnits ds old → Takes o d (cvf_of d.packet) old new → Gives ds d new
taken_by ds d None old new video flaw has t = push_gives_all ds d old new (video_test d video) flaw has t
taken_by ds d (Some reason) old new video flaw has t = flawed_taken ds d reason old new video flaw has t

pub packet_taken : (ds : List Delivery) (d : Delivery) (v : Cvf) (old new : Gathered) → d.subtype ≡ cvf_subtype → cvf_refusal d.packet ≡ None → v ≡ cvf_of d.packet → HasUnits ds old → Takes (flaw_in v) d v old new → Gives ds d new
packet_taken ds d v old new video accepted same has t =
    taken_by ds d (flaw_in (cvf_of d.packet)) old new video (ap (λ (o : Option Refusal). flaw_or o (cvf_of d.packet)) accepted) has (subst (λ (w : Cvf). Takes (flaw_in w) d w old new) same t)

pub sound_ended : (old : Gathered) (a : Assembly) → IsSound old → ((es : List Event) → StandsFor old.assembly es → StandsFor a (es ++ cut ∷ [])) → IsSound (record { assembly = a; why = Broken; taken = 0; own = None })
sound_ended old a s stands = record {
  events = s.events ++ cut ∷ [];
  stands = stands s.events s.stands;
  arrivals = more_timely s.events cut s.arrivals tt;
  own = tt;
}

pub lost_there : (u : Gathered) (m : Mark) → IsSound u → ((es : List Event) → StandsFor u.assembly es → slice_get (lost_marks es) u.taken ≡ Some m) → slice_get u.assembly.lost u.taken ≡ Some m
lost_there u m s is = rw s.stands.lost (is s.events s.stands)

pub lost_timely : (u : Gathered) (m : Mark) → IsSound u → slice_get u.assembly.lost u.taken ≡ Some m → IsArrival m.arrival
lost_timely u m s there = at u.assembly.lost u.taken m (timely_lost u.assembly s.events s.stands s.arrivals) there
  where
    at : (xs : List Mark) (n : ℕ) (x : Mark) → All IsTimelyMark xs → slice_get xs n ≡ Some x → IsArrival x.arrival
    at [] n x all e = absurd cc
    at (y ∷ xs) zero x all e = let same : y ≡ x = cc in subst IsTimelyMark same (All-head IsTimelyMark y xs all)
    at (y ∷ xs) (suc n) x all e = at xs n x (All-tail IsTimelyMark y xs all) e
