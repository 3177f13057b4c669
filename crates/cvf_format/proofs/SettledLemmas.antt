-- Each packet is settled once or still waits, and a list of events ends with at most one stretch.
use Rattle.std.proofs.Common.{◌≡◌, Bool, true, false, List, [], ◌∷◌, ◌++◌, length, refl, sym, ap, ◌∙◌, append_assoc}
use Rattle.std.specs.Prelude.{not, nat_lt, map}
use Rattle.std.proofs.Math.Bool.{and-false}
use Rattle.std.proofs.lemmas.List.{append-nil}
use Rattle.cvf_format.specs.WholeOrBroken.{Fragment, Event, packet, cut, after_cuts, begins, goes_on, completes, follows, are_linked, is_stretch, stretch_of, last_stretch, is_within, is_complete, before_last, waiting, held, piece_of, is_joined}
use Rattle.cvf_format.specs.Assembly.{last_of}
use Rattle.cvf_format.specs.Settled.{packets, settled, settled_as, settled_by}
use Rattle.cvf_format.proofs.StretchLemmas.{after_packet, and_left, continues, alone, step, last_packet, last_cut, before_more, complete_last}
use Rattle.cvf_format.proofs.AssemblyLemmas.{begins_not_goes, joined_none, lost_of, some_more, stays_long, waits_none}

-- ---- one event

-- The packets that waited, followed by the new packet, are of two kinds: first the packets that the new packet settles,
-- and then the packets that wait after it.
abbrev AddsUp : List Fragment → Fragment → List Fragment → Type 0
AddsUp before f after = waiting before ++ f ∷ [] ≡ (lost_of before after ++ settled_as (piece_of after) f after) ++ waiting after

lost_itself : (g : Fragment) (gs : List Fragment) (f : Fragment) → is_within (g ∷ gs) ≡ false → settled_as (piece_of (g ∷ gs)) f (g ∷ gs) ≡ f ∷ []
lost_itself g gs f e = by (is_within (before_last (g ∷ gs))) refl
  where
    by : (b : Bool) → is_within (before_last (g ∷ gs)) ≡ b → settled_as (piece_of (g ∷ gs)) f (g ∷ gs) ≡ f ∷ []
    by true p = rw (e, p) refl
    by false p = rw (e, p) refl

-- if a packet does not join the waiting packets and is itself settled at once, all waiting packets are settled, too
adds_lost : (before : List Fragment) (f : Fragment) (after : List Fragment) → is_joined after ≡ false → settled_as (piece_of after) f after ≡ f ∷ [] → waiting after ≡ [] → AddsUp before f after
adds_lost before f after j s w = rw (j, s, w) (sym (append-nil (waiting before ++ f ∷ [])))

adds_none : (before : List Fragment) (f : Fragment) → AddsUp before f []
adds_none before f = adds_lost before f [] joined_none refl waits_none

adds_one : (before : List Fragment) (f : Fragment) → AddsUp before f (f ∷ [])
adds_one before f = by (is_within (f ∷ [])) (is_complete (f ∷ [])) refl refl
  where
    by : (w c : Bool) → is_within (f ∷ []) ≡ w → is_complete (f ∷ []) ≡ c → AddsUp before f (f ∷ [])
    by false c p q = adds_lost before f (f ∷ []) refl (lost_itself f [] f p) (rw p refl)
    by true true p q = adds_lost before f (f ∷ []) refl (rw (p, q) refl) (rw (p, q) refl)
    by true false p q = rw (p, q) (ap (λ (xs : List Fragment). xs ++ f ∷ []) (sym (append-nil (waiting before))))

-- assume that a packet continues a stretch, and that the longer stretch is within the limits; then all packets of the
-- shorter stretch were waiting
was_waiting : (g : Fragment) (gs : List Fragment) (f : Fragment) → continues g gs f ≡ true → is_within (g ∷ (gs ++ f ∷ [])) ≡ true → waiting (g ∷ gs) ≡ g ∷ gs
was_waiting g gs f goes within = by (is_within (g ∷ gs)) (is_complete (g ∷ gs)) refl refl
  where
    by : (w c : Bool) → is_within (g ∷ gs) ≡ w → is_complete (g ∷ gs) ≡ c → waiting (g ∷ gs) ≡ g ∷ gs
    by false c p q = let long = stays_long g gs f p in absurd cc
    by true true p q =
        let ended : completes (last_of g gs).part ≡ true = sym (complete_last g gs) ∙ q in
        let not : continues g gs f ≡ false = rw ended refl in
        absurd cc
    by true false p q = rw (p, q) refl

adds_more : (g : Fragment) (gs : List Fragment) (f : Fragment) → continues g gs f ≡ true → AddsUp (g ∷ gs) f (g ∷ (gs ++ f ∷ []))
adds_more g gs f goes = by (is_within (g ∷ (gs ++ f ∷ []))) (is_complete (g ∷ (gs ++ f ∷ []))) refl refl
  where
    by : (w c : Bool) → is_within (g ∷ (gs ++ f ∷ [])) ≡ w → is_complete (g ∷ (gs ++ f ∷ [])) ≡ c → AddsUp (g ∷ gs) f (g ∷ (gs ++ f ∷ []))
    by false c p q =
        adds_lost (g ∷ gs) f (g ∷ (gs ++ f ∷ []))
        (rw p (and-false (nat_lt 1 (length (g ∷ (gs ++ f ∷ [])))))) (lost_itself g (gs ++ f ∷ []) f p) (rw p refl)
    by true true p q = rw (was_waiting g gs f goes p, some_more g gs f, p, q) (sym (append-nil (g ∷ (gs ++ f ∷ []))))
    by true false p q = rw (was_waiting g gs f goes p, some_more g gs f, p, q) refl

adds_alone : (before : List Fragment) (f : Fragment) (b : Bool) → begins f.part ≡ b → AddsUp before f (alone f)
adds_alone before f true e = rw e (adds_one before f)
adds_alone before f false e = rw e (adds_none before f)

adds_step : (before : List Fragment) (f : Fragment) → AddsUp before f (step before f)
adds_step [] f = adds_alone [] f (begins f.part) refl
adds_step (g ∷ gs) f = by (continues g gs f) refl
  where
    by : (n : Bool) → continues g gs f ≡ n → AddsUp (g ∷ gs) f (step (g ∷ gs) f)
    by true e = rw e (adds_more g gs f e)
    by false e = rw e (adds_alone (g ∷ gs) f (begins f.part) refl)

pub event_settles : (before : List Event) (event : Event) → held before ++ packets (event ∷ []) ≡ settled_by before event ++ held (before ++ event ∷ [])
event_settles before (packet f) = rw (last_packet before f, before_more before (packet f)) (adds_step (last_stretch before) f)
event_settles before cut = rw (last_cut before, before_more before cut, waits_none) refl

-- ---- all events

packets_more : (event : Event) (events : List Event) → packets (event ∷ events) ≡ packets (event ∷ []) ++ packets events
packets_more (packet f) events = refl
packets_more cut events = refl

all_settled : (before events : List Event) → held before ++ packets events ≡ settled before events ++ held (before ++ events)
all_settled before [] = rw (append-nil before) (append-nil (held before))
all_settled before (event ∷ events) =
    let here = event_settles before event in
    let rest = all_settled (before ++ event ∷ []) events in
    let regrouped : (before ++ event ∷ []) ++ events ≡ before ++ event ∷ events = append_assoc before (event ∷ []) events in
    ap (λ (fs : List Fragment). held before ++ fs) (packets_more event events)
    ∙ sym (append_assoc (held before) (packets (event ∷ [])) (packets events))
    ∙ ap (λ (fs : List Fragment). fs ++ packets events) here
    ∙ append_assoc (settled_by before event) (held (before ++ event ∷ [])) (packets events)
    ∙ ap (λ (fs : List Fragment). settled_by before event ++ fs) rest
    ∙ sym (append_assoc (settled_by before event) (settled (before ++ event ∷ []) events) (held ((before ++ event ∷ []) ++ events)))
    ∙ ap (λ (es : List Event). (settled_by before event ++ settled (before ++ event ∷ []) events) ++ held es) regrouped

pub each_settled : (events : List Event) → packets events ≡ settled [] events ++ held events
unfolding last_stretch
each_settled events =
    let none : held [] ≡ [] = waits_none in
    ap (λ (fs : List Fragment). fs ++ packets events) (sym none) ∙ all_settled [] events

-- ---- the stretch at the end of a list

ends_more : (events : List Event) (run : List Fragment) → after_cuts (events ++ map packet run) ≡ after_cuts events ++ run
ends_more events [] = rw (append-nil events) (sym (append-nil (after_cuts events)))
ends_more events (f ∷ rest) =
    ap after_cuts (sym (append_assoc events (packet f ∷ []) (map packet rest)))
    ∙ ends_more (events ++ packet f ∷ []) rest
    ∙ ap (λ (fs : List Fragment). fs ++ rest) (after_packet events f)
    ∙ append_assoc (after_cuts events) (f ∷ []) rest

-- if a packet after the first one does not continue a unit, the packets are not linked
not_linked : (x : Fragment) (xs : List Fragment) (f : Fragment) (rest : List Fragment) → goes_on f.part ≡ false → are_linked x (xs ++ f ∷ rest) ≡ false
not_linked x [] f rest e = rw (e, and-false (not (completes x.part))) refl
not_linked x (y ∷ ys) f rest e = rw (not_linked y ys f rest e) (and-false (follows x y))

stretch_begins : (f : Fragment) (rest : List Fragment) → is_stretch (f ∷ rest) ≡ true → begins f.part ≡ true
unfolding is_stretch
stretch_begins f rest e = and_left _ _ (and_left _ _ e)

not_begun : (x : Fragment) (xs : List Fragment) (f : Fragment) (rest : List Fragment) → begins f.part ≡ true → is_stretch (x ∷ (xs ++ f ∷ rest)) ≡ false
unfolding is_stretch
not_begun x xs f rest e = rw (not_linked x xs f rest (begins_not_goes f.part e), and-false (begins x.part)) refl

found_at_the_end : (xs : List Fragment) (f : Fragment) (rest : List Fragment) → is_stretch (f ∷ rest) ≡ true → stretch_of (xs ++ f ∷ rest) ≡ f ∷ rest
found_at_the_end [] f rest e = rw e refl
found_at_the_end (x ∷ xs) f rest e = rw (not_begun x xs f rest (stretch_begins f rest e)) (found_at_the_end xs f rest e)

pub one_stretch : (events : List Event) (run : List Fragment) (front : List Event) → events ≡ front ++ map packet run → is_stretch run ≡ true → last_stretch events ≡ run
unfolding last_stretch is_stretch
one_stretch events [] front is e = absurd cc
one_stretch events (f ∷ rest) front is e =
    ap (λ (es : List Event). stretch_of (after_cuts es)) is
    ∙ ap stretch_of (ends_more front (f ∷ rest))
    ∙ found_at_the_end (after_cuts front) f rest e
