-- What an assembler keeps after one more packet or one more cut.
use Rattle.std.proofs.Common.{◌≡◌, ℕ, suc, ◌+◌, ◌%◌, ◌<◌, ◌≤◌, ◌==◌, Bool, true, false, inl, inr, ℤ, List, [], ◌∷◌, ◌++◌, length, Option, None, Some, refl, sym, ap, subst, ◌∙◌, arith, length-append}
use Rattle.std.specs.Prelude.{◌&&◌, not, nat_le, nat_lt, if◌then◌else◌, map}
use Rattle.std.proofs.lemmas.List.{append-nil, map-append, length-map}
use Rattle.std.proofs.lemmas.Bool.Decides.{leb_tells}
use Rattle.std.specs.Option.{option_or}
use Rattle.std.proofs.Math.Dec.{eqb-suc-zero}
use Rattle.std.proofs.Math.Bool.{and-false}
use Rattle.cvf_format.specs.declared.cvf.NalPart.{NalPart}
use Rattle.cvf_format.specs.declared.cvf.NalPart.TheVariants.{Single, First, Middle, Last}
use Rattle.cvf_format.specs.declared.piece.Mark.{Mark}
use Rattle.cvf_format.specs.declared.piece.Lost.{Lost}
use Rattle.cvf_format.specs.declared.piece.Lost.TheVariants.{Broken, Long}
use Rattle.cvf_format.specs.declared.piece.Pushed.{Pushed}
use Rattle.cvf_format.specs.declared.piece.Piece.TheVariants as variant
use Rattle.cvf_format.specs.WholeOrBroken.{Fragment, Event, packet, cut, begins, goes_on, completes, stamps, last_stretch, unit_of, longest_unit, most_fragments, is_within, is_complete, before_last, waiting, piece_of, is_joined, given_up, reason_of, whole_of, whole_unit, mark_of, sequence_numbers}
use Rattle.cvf_format.specs.Assembly.{Assembly, Keeps, KeepsAll, Pushes, StandsFor, first_stamp, last_of, shown_unit, longest_body}
use Rattle.cvf_format.specs.state.Assembly.{IsPushed, Leaves, agree, goes_on_here, has_room, gave_up, with_first, with_next, settled, lost_for}
use Rattle.cvf_format.proofs.StretchLemmas.{and_left, and_right, continues, step, last_packet, last_cut, before_more, complete_more, complete_one, complete_last, unit_more, last_more, stamps_more}

-- ---- what the assembler keeps

keeps_marks : (a : Assembly) (w : List Fragment) → KeepsAll a w → a.held ≡ map mark_of w
keeps_marks a [] k = k
keeps_marks a (f ∷ rest) k = k.marks

-- the packets that an event gave up, computed from the stretches before and after the event
abbrev pub lost_of : List Fragment → List Fragment → List Fragment
lost_of before after = if is_joined after then [] else waiting before

-- What the assembler `a` keeps after an event. `before` and `after` are the stretches before and after the event.
pub record Left (a : Assembly) (before after : List Fragment) : Type 0 where
  pub waits : KeepsAll a (waiting after)
  pub lost : a.lost ≡ map mark_of (lost_of before after)
  pub unit : shown_unit a ≡ whole_of after

pub record Answers (pushed : Pushed) (before after : List Fragment) : Type 0 where
  pub lost : pushed.lost ≡ length (lost_of before after)
  pub why : pushed.why ≡ reason_of after
  pub piece : pushed.piece ≡ piece_of after

pub waits_none : waiting [] ≡ []
unfolding is_within is_complete
waits_none = refl

pub joined_none : is_joined [] ≡ false
joined_none = refl

whole_none : whole_of [] ≡ []
unfolding is_within is_complete
whole_none = refl

pub stands_none : (a : Assembly) → a.held ≡ [] → a.lost ≡ [] → a.whole ≡ false → StandsFor a []
unfolding last_stretch before_last
stands_none a h l w = record {
  waits = subst (λ (r : List Fragment). KeepsAll a r) (sym waits_none) h;
  lost = rw waits_none l;
  unit = rw w (sym whole_none);
}

-- ---- the limits

pub within_lengths : (r : List Fragment) → is_within r ≡ true → (length (unit_of r) ≤ longest_unit) × (length r ≤ most_fragments)
unfolding is_within
within_lengths r e = (le-of _ _ (and_left _ _ e), le-of _ _ (and_right _ _ e))
  where
    le-of : (a b : ℕ) → nat_le a b ≡ true → a ≤ b
    le-of a b e = elim (leb_tells a b) [ inl few ↦ few.1 | inr many ↦ absurd cc ]

pub within_so : (r : List Fragment) → length (unit_of r) ≤ longest_unit → length r ≤ most_fragments → is_within r ≡ true
unfolding is_within
within_so r a b = rw (le-true _ _ a, le-true _ _ b) refl
  where
    le-true : (a b : ℕ) → a ≤ b → nat_le a b ≡ true
    le-true a b e = elim (leb_tells a b) [ inl few ↦ few.0 | inr many ↦ absurd (omega (arith, many.1)) ]

within_fails : (r : List Fragment) → is_within r ≡ false → (length (unit_of r) ≤ longest_unit → length r ≤ most_fragments → ⊥)
within_fails r e a b = let t = within_so r a b in absurd cc

length_unit_more : (g : Fragment) (gs : List Fragment) (f : Fragment) → length (unit_of (g ∷ (gs ++ f ∷ []))) ≡ length (unit_of (g ∷ gs)) + length f.body
length_unit_more g gs f = ap length (unit_more g gs f) ∙ length-append (unit_of (g ∷ gs)) f.body

-- a stretch that exceeds the limits still exceeds them after one more fragment
pub stays_long : (g : Fragment) (gs : List Fragment) (f : Fragment) → is_within (g ∷ gs) ≡ false → is_within (g ∷ (gs ++ f ∷ [])) ≡ false
stays_long g gs f e = by (is_within (g ∷ (gs ++ f ∷ []))) refl
  where
    by : (b : Bool) → is_within (g ∷ (gs ++ f ∷ [])) ≡ b → is_within (g ∷ (gs ++ f ∷ [])) ≡ false
    by false k = k
    by true k =
        let l = within_lengths (g ∷ (gs ++ f ∷ [])) k in
        absurd (within_fails (g ∷ gs) e (omega (arith, length_unit_more g gs f, l.0)) (omega (arith, length-append gs (f ∷ []), l.1)))

-- ---- what is returned for a stretch that is empty, too long or within the limits

-- What follows if a stretch is empty, or its last packet is lost for the reason `why`. No packet waits.
record IsLost (why : Lost) (r : List Fragment) : Type 0 where
  waits : waiting r ≡ []
  apart : is_joined r ≡ false
  unit : whole_of r ≡ []
  reason : reason_of r ≡ why
  piece : piece_of r ≡ variant.Lost why

none_lost : IsLost Broken []
none_lost = record { waits = waits_none; apart = joined_none; unit = whole_none; reason = refl; piece = refl }

-- the reason is `Long` if the stretch exceeds the limits only because of its last packet, and otherwise `Broken`
lost_so : (b : Bool) (g : Fragment) (gs : List Fragment) (f : Fragment) → is_within (g ∷ gs) ≡ b → is_within (g ∷ (gs ++ f ∷ [])) ≡ false
    → IsLost (if b then Long else Broken) (g ∷ (gs ++ f ∷ []))
lost_so b g gs f e long =
    let front : before_last (g ∷ (gs ++ f ∷ [])) ≡ g ∷ gs = before_more (g ∷ gs) f in
    record {
      waits = rw long refl;
      apart = rw long (and-false (nat_lt 1 (length (g ∷ (gs ++ f ∷ [])))));
      unit = rw long refl;
      reason = rw (long, front, e) refl;
      piece = rw (long, front, e) (lost_if b);
    }
  where
    lost_if : (b : Bool) → (if b then variant.Lost Long else variant.Lost Broken) ≡ variant.Lost (if b then Long else Broken)
    lost_if true = refl
    lost_if false = refl

-- if the last packet did not join the waiting packets, the last packet gave up all of them
gives_all : (a : Assembly) (before after : List Fragment) → KeepsAll a (waiting before) → is_joined after ≡ false → a.held ≡ map mark_of (lost_of before after)
gives_all a before after k e = rw e (keeps_marks a (waiting before) k)

gives_count : (a : Assembly) (before after : List Fragment) → KeepsAll a (waiting before) → is_joined after ≡ false → length a.held ≡ length (lost_of before after)
gives_count a before after k e = ap length (gives_all a before after k e) ∙ length-map (lost_of before after) mark_of

-- ---- a packet that does not continue the waiting unit

lost_left : (a : Assembly) (why : Lost) (before after : List Fragment) → KeepsAll a (waiting before) → IsLost why after → Left (gave_up a) before after
lost_left a why before after k o = record {
  waits = subst (λ (r : List Fragment). KeepsAll (gave_up a) r) (sym o.waits) refl;
  lost = gives_all a before after k o.apart;
  unit = sym o.unit;
}

lost_answers : (a : Assembly) (why : Lost) (before after : List Fragment) → KeepsAll a (waiting before) → IsLost why after
    → Answers (record { lost = length a.held; why = why; piece = variant.Lost why }) before after
lost_answers a why before after k o = record {
  lost = gives_count a before after k o.apart;
  why = sym o.reason;
  piece = sym o.piece;
}

-- ---- a packet that begins a unit

pub begins_not_goes : (p : NalPart) → begins p ≡ true → goes_on p ≡ false
begins_not_goes Single e = refl
begins_not_goes First e = refl
begins_not_goes Middle e = absurd cc
begins_not_goes Last e = absurd cc

not_continued : (g : Fragment) (gs : List Fragment) (f : Fragment) → goes_on f.part ≡ false → continues g gs f ≡ false
not_continued g gs f e = rw (e, and-false (not (completes (last_of g gs).part))) refl

step_begins : (r : List Fragment) (f : Fragment) → begins f.part ≡ true → step r f ≡ f ∷ []
step_begins [] f e = rw e refl
step_begins (g ∷ gs) f e = rw (not_continued g gs f (begins_not_goes f.part e), e) refl

one_within : (f : Fragment) → length f.body ≤ longest_body → is_within (f ∷ []) ≡ true
one_within f e = within_so (f ∷ []) (omega (arith, ap length (append-nil f.body))) (lit f)
  where
    lit : (f : Fragment) → length (f ∷ []) ≤ most_fragments
    lit f = omega arith

first_one : (f : Fragment) (t : Option ℤ) → f.instant ≡ t → f.instant ≡ first_stamp (stamps (f ∷ []))
first_one f None e = rw e refl
first_one f (Some t) e = rw e refl

begun_left : (a : Assembly) (before : List Fragment) (f : Fragment) → KeepsAll a (waiting before) → length f.body ≤ longest_body → Left (with_first a f) before (f ∷ [])
begun_left a before f k few = by (completes f.part) refl
  where
    within : is_within (f ∷ []) ≡ true
    within = one_within f few

    by : (b : Bool) → completes f.part ≡ b → Left (with_first a f) before (f ∷ [])
    by true e = record {
      waits = rw (within, complete_one f, e) refl;
      lost = keeps_marks a (waiting before) k;
      unit = rw (within, complete_one f, e) (ap (λ (b : List ℕ). f.nal ∷ b) (sym (append-nil f.body)));
    }
    by false e = record {
      waits = rw (within, complete_one f, e) (record {
        marks = refl;
        bytes = ap (λ (b : List ℕ). f.nal ∷ b) (sym (append-nil f.body));
        nal = refl;
        next_seq = refl;
        instant = first_one f f.instant refl;
      });
      lost = keeps_marks a (waiting before) k;
      unit = rw (within, complete_one f, e) refl;
    }

begun_answers : (a : Assembly) (before : List Fragment) (f : Fragment) → KeepsAll a (waiting before) → length f.body ≤ longest_body
    → Answers (record { lost = length a.held; why = Broken; piece = settled f.part }) before (f ∷ [])
begun_answers a before f k few =
    let within : is_within (f ∷ []) ≡ true = one_within f few in
    record {
      lost = ap length (keeps_marks a (waiting before) k) ∙ length-map (waiting before) mark_of;
      why = rw within refl;
      piece = rw (within, complete_one f) refl;
    }

-- ---- a packet that continues the waiting unit

first_more : (ts us : List ℤ) → first_stamp (ts ++ us) ≡ option_or (first_stamp ts) (first_stamp us)
first_more [] us = refl
first_more (t ∷ ts) us = refl

next_stamp : (a : Assembly) (g : Fragment) (gs : List Fragment) (f : Fragment) → Keeps a g gs
    → option_or a.instant f.instant ≡ first_stamp (stamps (g ∷ (gs ++ f ∷ [])))
next_stamp a g gs f k =
    let more : first_stamp (stamps (g ∷ (gs ++ f ∷ []))) ≡ first_stamp (stamps (g ∷ gs) ++ stamps (f ∷ [])) = ap first_stamp (stamps_more (g ∷ gs) f) in
    let apart : first_stamp (stamps (g ∷ gs) ++ stamps (f ∷ [])) ≡ option_or (first_stamp (stamps (g ∷ gs))) (first_stamp (stamps (f ∷ []))) = first_more (stamps (g ∷ gs)) (stamps (f ∷ [])) in
    ap (λ (t : Option ℤ). option_or t f.instant) k.instant
    ∙ ap (λ (t : Option ℤ). option_or (first_stamp (stamps (g ∷ gs))) t) (first_one f f.instant refl)
    ∙ sym (more ∙ apart)

pub some_more : (g : Fragment) (gs : List Fragment) (f : Fragment) → nat_lt 1 (length (g ∷ (gs ++ f ∷ []))) ≡ true
some_more g gs f = by (length (g ∷ (gs ++ f ∷ []))) (omega (arith, length-append gs (f ∷ [])))
  where
    by : (n : ℕ) → 1 < n → nat_lt 1 n ≡ true
    by n e = elim (leb_tells 2 n) [ inl few ↦ few.0 | inr many ↦ absurd (omega (arith, many.1)) ]

next_keeps : (a : Assembly) (g : Fragment) (gs : List Fragment) (f : Fragment) → Keeps a g gs → completes f.part ≡ false → Keeps (with_next a f) g (gs ++ f ∷ [])
next_keeps a g gs f k e = record {
  marks = rw e (ap (λ (marks : List Mark). marks ++ f.mark ∷ []) k.marks ∙ sym (map-append mark_of (g ∷ gs) (f ∷ [])));
  bytes = ap (λ (bytes : List ℕ). bytes ++ f.body) k.bytes ∙ sym (unit_more g gs f);
  nal = sym (ap (λ (h : Fragment). h.nal) (last_more g gs f));
  next_seq = sym (ap (λ (h : Fragment). (h.mark.seq + 1) % sequence_numbers) (last_more g gs f));
  instant = next_stamp a g gs f k;
}

next_left : (a : Assembly) (g : Fragment) (gs : List Fragment) (f : Fragment) → Keeps a g gs → is_within (g ∷ (gs ++ f ∷ [])) ≡ true
    → Left (with_next a f) (g ∷ gs) (g ∷ (gs ++ f ∷ []))
next_left a g gs f k within = by (completes f.part) refl
  where
    none : [] ≡ map mark_of (lost_of (g ∷ gs) (g ∷ (gs ++ f ∷ [])))
    none = rw (some_more g gs f, within) refl

    by : (b : Bool) → completes f.part ≡ b → Left (with_next a f) (g ∷ gs) (g ∷ (gs ++ f ∷ []))
    by true e = record {
      waits = rw (within, complete_more g gs f, e) refl;
      lost = none;
      unit = rw (within, complete_more g gs f, e) (ap (λ (bytes : List ℕ). bytes ++ f.body) k.bytes ∙ sym (unit_more g gs f));
    }
    by false e =
        let stays : waiting (g ∷ (gs ++ f ∷ [])) ≡ g ∷ (gs ++ f ∷ []) = rw (within, complete_more g gs f, e) refl in
        record {
          waits = subst (λ (r : List Fragment). KeepsAll (with_next a f) r) (sym stays) (next_keeps a g gs f k e);
          lost = none;
          unit = rw (within, complete_more g gs f, e) refl;
        }

next_answers : (g : Fragment) (gs : List Fragment) (f : Fragment) → is_within (g ∷ (gs ++ f ∷ [])) ≡ true
    → Answers (record { lost = 0; why = Broken; piece = settled f.part }) (g ∷ gs) (g ∷ (gs ++ f ∷ []))
next_answers g gs f within = record {
  lost = rw (some_more g gs f, within) refl;
  why = rw within refl;
  piece = rw (within, complete_more g gs f) refl;
}

-- ---- what the code tests

regroup : (b c d e : Bool) → (b && (c && (d && e))) ≡ ((((true && b) && c) && d) && e)
regroup true true true e = refl
regroup true true false e = refl
regroup true false d e = refl
regroup false c d e = refl

here_is : (a : Assembly) (g : Fragment) (gs : List Fragment) (f : Fragment) → Keeps a g gs → is_complete (g ∷ gs) ≡ false → goes_on_here a f ≡ continues g gs f
unfolding goes_on_here
here_is a g gs f k e =
    let stays : completes (last_of g gs).part ≡ false = sym (complete_last g gs) ∙ e in
    rw (k.marks, k.nal, k.next_seq, k.instant, stays, eqb-suc-zero (length (map mark_of gs)))
    (regroup (goes_on f.part) (f.nal == (last_of g gs).nal) (f.mark.seq == ((last_of g gs).mark.seq + 1) % sequence_numbers) (agree (first_stamp (stamps (g ∷ gs))) f.instant))

none_here : (a : Assembly) (f : Fragment) → a.held ≡ [] → goes_on_here a f ≡ false
unfolding goes_on_here
none_here a f e = rw e refl

lt_le : (n k m : ℕ) → k ≡ n + 1 → nat_lt n m ≡ nat_le k m
lt_le n k m e = let next : k ≡ suc n = omega arith in rw next refl

room_is : (a : Assembly) (g : Fragment) (gs : List Fragment) (f : Fragment) → Keeps a g gs → has_room a f.body ≡ is_within (g ∷ (gs ++ f ∷ []))
unfolding has_room is_within
room_is a g gs f k =
    let bytes : length a.bytes + length f.body ≡ length (unit_of (g ∷ (gs ++ f ∷ []))) = ap (λ (b : List ℕ). length b + length f.body) k.bytes ∙ sym (length_unit_more g gs f) in
    let marks : length a.held ≡ length (g ∷ gs) = ap length k.marks ∙ length-map (g ∷ gs) mark_of in
    let count : length (g ∷ (gs ++ f ∷ [])) ≡ length a.held + 1 = omega (arith, length-append gs (f ∷ []), marks) in
    let most = lt_le (length a.held) (length (g ∷ (gs ++ f ∷ []))) most_fragments count in
    rw (bytes, most) refl

-- The waiting packets `r` are `first` and then `rest`; the packet `f` continues their unit.
record Waits (a : Assembly) (r : List Fragment) (f : Fragment) : Type 0 where
  first : Fragment
  rest : List Fragment
  is : r ≡ first ∷ rest
  keeps : Keeps a first rest
  within : is_within (first ∷ rest) ≡ true
  goes : continues first rest f ≡ true

waits_here : (a : Assembly) (r : List Fragment) (f : Fragment) → KeepsAll a (waiting r) → goes_on_here a f ≡ true → Waits a r f
waits_here a [] f k here =
    let none : a.held ≡ [] = subst (λ (r : List Fragment). KeepsAll a r) waits_none k in
    let not = none_here a f none in
    absurd cc
waits_here a (g ∷ gs) f k here = by (is_within (g ∷ gs)) (is_complete (g ∷ gs)) refl refl
  where
    never : waiting (g ∷ gs) ≡ [] → ⊥
    never e =
        let none : a.held ≡ [] = subst (λ (r : List Fragment). KeepsAll a r) e k in
        let not = none_here a f none in
        absurd cc

    by : (w c : Bool) → is_within (g ∷ gs) ≡ w → is_complete (g ∷ gs) ≡ c → Waits a (g ∷ gs) f
    by false c p q = absurd (never (rw p refl))
    by true true p q = absurd (never (rw (p, q) refl))
    by true false p q =
        let stays : waiting (g ∷ gs) ≡ g ∷ gs = rw (p, q) refl in
        let kept : Keeps a g gs = subst (λ (r : List Fragment). KeepsAll a r) stays k in
        record {
          first = g;
          rest = gs;
          is = refl;
          keeps = kept;
          within = p;
          goes = sym (here_is a g gs f kept q) ∙ here;
        }

-- if a packet neither begins a unit nor continues the waiting unit, no stretch within the limits ends with it
nothing_here : (a : Assembly) (r : List Fragment) (f : Fragment) → KeepsAll a (waiting r) → begins f.part ≡ false → goes_on_here a f ≡ false → IsLost Broken (step r f)
nothing_here a [] f k e here = rw e none_lost
nothing_here a (g ∷ gs) f k e here = by (is_within (g ∷ gs)) (is_complete (g ∷ gs)) (continues g gs f) refl refl refl
  where
    by : (w c n : Bool) → is_within (g ∷ gs) ≡ w → is_complete (g ∷ gs) ≡ c → continues g gs f ≡ n → IsLost Broken (step (g ∷ gs) f)
    by w c false p q m = rw (m, e) none_lost
    by false c true p q m = rw m (lost_so false g gs f p (stays_long g gs f p))
    by true true true p q m =
        let ended : completes (last_of g gs).part ≡ true = sym (complete_last g gs) ∙ q in
        let not : continues g gs f ≡ false = rw ended refl in
        absurd cc
    by true false true p q m =
        let stays : waiting (g ∷ gs) ≡ g ∷ gs = rw (p, q) refl in
        let kept : Keeps a g gs = subst (λ (r : List Fragment). KeepsAll a r) stays k in
        let same = here_is a g gs f kept q in
        absurd cc

-- ---- the events

stands_after : (a : Assembly) (events : List Event) (event : Event) (after : List Fragment) → last_stretch (events ++ event ∷ []) ≡ after
    → Left a (last_stretch events) after → StandsFor a (events ++ event ∷ [])
stands_after a events event after here l = record {
  waits = subst (λ (r : List Fragment). KeepsAll a (waiting r)) (sym here) l.waits;
  lost = rw (here, before_more events event) (l.lost);
  unit = rw here (l.unit);
}

pushed_by : (a : Assembly) (pushed : Pushed) (events : List Event) (f : Fragment) → Left a (last_stretch events) (step (last_stretch events) f)
    → Answers pushed (last_stretch events) (step (last_stretch events) f) → IsPushed a (events ++ packet f ∷ []) pushed
pushed_by a pushed events f l p =
    let here = last_packet events f in
    record {
      stands = stands_after a events (packet f) _ here l;
      lost = rw (here, before_more events (packet f)) (p.lost);
      why = rw here (p.why);
      piece = rw here (p.piece);
    }

pub pushed_first : (a : Assembly) (events : List Event) (f : Fragment) → begins f.part ≡ true → length f.body ≤ longest_body → StandsFor a events
    → IsPushed (with_first a f) (events ++ packet f ∷ []) (record { lost = length a.held; why = Broken; piece = settled f.part })
pushed_first a events f first few s =
    let r : List Fragment = last_stretch events in
    let here = step_begins r f first in
    pushed_by _ _ events f
    (subst (λ (after : List Fragment). Left (with_first a f) r after) (sym here) (begun_left a r f s.waits few))
    (subst (λ (after : List Fragment). Answers (record { lost = length a.held; why = Broken; piece = settled f.part }) r after) (sym here) (begun_answers a r f s.waits few))

pub pushed_apart : (a : Assembly) (events : List Event) (f : Fragment) → begins f.part ≡ false → goes_on_here a f ≡ false → StandsFor a events
    → IsPushed (gave_up a) (events ++ packet f ∷ []) (record { lost = length a.held; why = Broken; piece = lost_for Broken })
pushed_apart a events f rest here s =
    let r : List Fragment = last_stretch events in
    let after = nothing_here a r f s.waits rest here in
    pushed_by _ _ events f (lost_left a Broken r (step r f) s.waits after) (lost_answers a Broken r (step r f) s.waits after)

step_here : (r : List Fragment) (g : Fragment) (gs : List Fragment) (f : Fragment) → r ≡ g ∷ gs → continues g gs f ≡ true → step r f ≡ g ∷ (gs ++ f ∷ [])
step_here r g gs f is goes = rw (is, goes) refl

pub pushed_long : (a : Assembly) (events : List Event) (f : Fragment) → goes_on_here a f ≡ true → has_room a f.body ≡ false → StandsFor a events
    → IsPushed (gave_up a) (events ++ packet f ∷ []) (record { lost = length a.held; why = Long; piece = lost_for Long })
pushed_long a events f here room s =
    let r : List Fragment = last_stretch events in
    let w = waits_here a r f s.waits here in
    let same = step_here r w.first w.rest f w.is w.goes in
    let long : IsLost Long (w.first ∷ (w.rest ++ f ∷ [])) = lost_so true w.first w.rest f w.within (sym (room_is a w.first w.rest f w.keeps) ∙ room) in
    let after : IsLost Long (step r f) = subst (λ (after : List Fragment). IsLost Long after) (sym same) long in
    pushed_by _ _ events f (lost_left a Long r (step r f) s.waits after) (lost_answers a Long r (step r f) s.waits after)

next_from : (a : Assembly) (events : List Event) (f : Fragment) (g : Fragment) (gs : List Fragment) → last_stretch events ≡ g ∷ gs → Keeps a g gs
    → continues g gs f ≡ true → is_within (g ∷ (gs ++ f ∷ [])) ≡ true
    → IsPushed (with_next a f) (events ++ packet f ∷ []) (record { lost = 0; why = Broken; piece = settled f.part })
next_from a events f g gs is k goes within =
    let same = step_here (last_stretch events) g gs f is goes in
    let left : Left (with_next a f) (last_stretch events) (step (last_stretch events) f) = rw (same, is) (next_left a g gs f k within) in
    let answers : Answers (record { lost = 0; why = Broken; piece = settled f.part }) (last_stretch events) (step (last_stretch events) f) = rw (same, is) (next_answers g gs f within) in
    pushed_by _ _ events f left answers

pub pushed_next : (a : Assembly) (events : List Event) (f : Fragment) → goes_on_here a f ≡ true → has_room a f.body ≡ true → StandsFor a events
    → IsPushed (with_next a f) (events ++ packet f ∷ []) (record { lost = 0; why = Broken; piece = settled f.part })
pushed_next a events f here room s =
    let w = waits_here a (last_stretch events) f s.waits here in
    next_from a events f w.first w.rest w.is w.keeps w.goes (sym (room_is a w.first w.rest f w.keeps) ∙ room)

-- if a call does, after any events, what `IsPushed` says, the call pushes the packet
pub pushes : (old new after : Assembly) (f : Fragment) (result answer : Pushed) → Leaves new after result answer → answer.lost ≡ length after.lost
    → ((events : List Event) → StandsFor old events → IsPushed after (events ++ packet f ∷ []) answer) → Pushes old new f result
pushes old new after f result answer l marks is =
    subst (λ (a : Assembly). Pushes old a f result) (sym l.left) (subst (λ (p : Pushed). Pushes old after f p) (sym l.returned) (record {
      stands = λ events s. (is events s).stands;
      lost = λ events s. (is events s).lost;
      why = λ events s. (is events s).why;
      marks = marks;
      piece = λ events s. (is events s).piece;
    }))

pub unit_shown : (a : Assembly) (events : List Event) (bytes : List ℕ) → StandsFor a events → bytes ≡ shown_unit a → bytes ≡ whole_unit events
unit_shown a events bytes s e = e ∙ s.unit

pub cut_stands : (a : Assembly) (events : List Event) → StandsFor a events → StandsFor (gave_up a) (events ++ cut ∷ [])
cut_stands a events s = stands_after (gave_up a) events cut [] (last_cut events) (lost_left a Broken (last_stretch events) [] s.waits none_lost)

pub cut_count : (a : Assembly) (events : List Event) → StandsFor a events → length a.held ≡ length (given_up (events ++ cut ∷ []))
cut_count a events s =
    let here = last_cut events in
    let front = before_more events cut in
    rw (here, front) (gives_count a (last_stretch events) [] s.waits joined_none)
