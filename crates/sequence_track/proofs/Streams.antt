-- How one more note changes the streams that occur in a list of notes, and the notes of each stream.
use Rattle.std.proofs.Common.{◌≡◌, ℕ, ◌==◌, Bool, true, false, not, ◌||◌, cond, List, [], ◌∷◌, ◌++◌, map, filter, reverse, refl, sym, ap, ◌∙◌, subst}
use Rattle.std.specs.List.{list_any}
use Rattle.std.proofs.lemmas.Bool.{and_parts, and_from, eqb-true, eq-eqb, or_parts, both_ways}
use Rattle.std.proofs.lemmas.List.{append-nil, reverse-append, reverse-reverse}
use Rattle.std.proofs.lemmas.List.Elements.{filter-append}
use Rattle.std.proofs.lemmas.Map.Views.{any-filter_same}
use Rattle.sequence_track.specs.declared.seen.Seen.{Seen}
use Rattle.sequence_track.specs.declared.stream.StreamKey.{StreamKey}
use Rattle.sequence_track.specs.Findings.{stream_of, same_stream, distinct, recent}

-- ---- one stream and another

pub same-is : (a b : StreamKey) → same_stream a b ≡ true → a ≡ b
same-is a b e =
    let parts : (a.subtype == b.subtype ≡ true) × (a.id == b.id ≡ true) = and_parts _ _ e in
    let key : ℕ → ℕ → StreamKey = λ subtype id. record { subtype = subtype; id = id } in
    ap (λ (n : ℕ). key n a.id) (eqb-true a.subtype b.subtype parts.0) ∙ ap (λ (n : ℕ). key b.subtype n) (eqb-true a.id b.id parts.1)

pub same-refl : (a : StreamKey) → same_stream a a ≡ true
same-refl a = and_from _ _ (eq-eqb a.subtype a.subtype refl) (eq-eqb a.id a.id refl)

pub same-sym : (a b : StreamKey) (r : Bool) → same_stream a b ≡ r → same_stream b a ≡ r
same-sym a b true e = let P : StreamKey → Type 0 = λ x. same_stream x a ≡ true in subst P (same-is a b e) (same-refl a)
same-sym a b false e = by_case (same_stream b a) refl
  where
    by_case : (r : Bool) → same_stream b a ≡ r → r ≡ false
    by_case true t = let P : StreamKey → Type 0 = λ x. same_stream a x ≡ true in absurd (both_ways _ e (subst P (sym (same-is b a t)) (same-refl a)))
    by_case false t = refl

-- ---- distinct streams

-- the streams of a list that differ from this one
others : StreamKey → List StreamKey → List StreamKey
others first streams = filter (λ other. not (same_stream first other)) streams

any-others : (stream first : StreamKey) (streams : List StreamKey) → same_stream stream first ≡ false
    → list_any (same_stream stream) (others first streams) ≡ list_any (same_stream stream) streams
unfolding others
any-others stream first streams apart = any-filter_same (same_stream stream) (λ other. not (same_stream first other)) true other streams
  where
    other : (k : StreamKey) → same_stream stream k ≡ true → not (same_stream first k) ≡ true
    other k same =
        let here : same_stream first stream ≡ false = same-sym stream first false apart in
        let P : StreamKey → Type 0 = λ x. not (same_stream first x) ≡ true in
        subst P (same-is stream k same) (ap not here)

or-same : (a b c : Bool) → (a ≡ false → b ≡ c) → (a || b) ≡ (a || c)
or-same true b c e = refl
or-same false b c e = e refl

or_first : (a b : Bool) → (a || b) ≡ true → b ≡ false → a ≡ true
or_first true b e none = refl
or_first false b e none = absurd cc

-- a stream is among the distinct streams of a list if and only if it is in the list
pub any-distinct : (stream : StreamKey) (streams : List StreamKey) → list_any (same_stream stream) (distinct streams) ≡ list_any (same_stream stream) streams
unfolding others
any-distinct stream [] = refl
any-distinct stream (first ∷ rest) =
    or-same (same_stream stream first) (list_any (same_stream stream) (others first (distinct rest))) (list_any (same_stream stream) rest)
    (λ apart. any-others stream first (distinct rest) apart ∙ any-distinct stream rest)

others-more : (first : StreamKey) (streams : List StreamKey) (stream : StreamKey) (r : Bool) → same_stream first stream ≡ r
    → others first (streams ++ stream ∷ []) ≡ cond r (others first streams) (others first streams ++ stream ∷ [])
unfolding others
others-more first streams stream true e =
    filter-append (λ other. not (same_stream first other)) streams (stream ∷ []) ∙ rw e (append-nil _)
others-more first streams stream false e =
    filter-append (λ other. not (same_stream first other)) streams (stream ∷ []) ∙ rw e refl

pub distinct-new : (streams : List StreamKey) (stream : StreamKey) → list_any (same_stream stream) streams ≡ false → distinct (streams ++ stream ∷ []) ≡ distinct streams ++ stream ∷ []
unfolding others
distinct-new [] stream new = refl
distinct-new (first ∷ rest) stream new =
    let parts : (same_stream stream first ≡ false) × (list_any (same_stream stream) rest ≡ false) = or_parts _ _ new in
    ap (λ (l : List StreamKey). first ∷ others first l) (distinct-new rest stream parts.1)
    ∙ ap (λ (l : List StreamKey). first ∷ l) (others-more first (distinct rest) stream false (same-sym stream first false parts.0))

pub distinct-known : (streams : List StreamKey) (stream : StreamKey) → list_any (same_stream stream) streams ≡ true → distinct (streams ++ stream ∷ []) ≡ distinct streams
unfolding others
distinct-known [] stream known = absurd cc
distinct-known (first ∷ rest) stream known =
    ap (λ (l : List StreamKey). first ∷ l) (by_rest (list_any (same_stream stream) rest) refl (λ here. distinct-known rest stream here))
  where
    by_rest : (r : Bool) → list_any (same_stream stream) rest ≡ r → (list_any (same_stream stream) rest ≡ true → distinct (rest ++ stream ∷ []) ≡ distinct rest)
        → others first (distinct (rest ++ stream ∷ [])) ≡ others first (distinct rest)
    by_rest true here more = ap (others first) (more here)
    by_rest false new more =
        let same : same_stream stream first ≡ true = or_first (same_stream stream first) (list_any (same_stream stream) rest) known new in
        ap (others first) (distinct-new rest stream new) ∙ others-more first (distinct rest) stream true (same-sym stream first true same)

-- ---- the notes of a stream

-- the notes of a stream's packets, in their order
own : StreamKey → List Seen → List Seen
own stream notes = filter (λ note. same_stream stream (stream_of note)) notes

own-more : (stream : StreamKey) (notes : List Seen) (seen : Seen) (r : Bool) → same_stream stream (stream_of seen) ≡ r
    → own stream (notes ++ seen ∷ []) ≡ cond r (own stream notes ++ seen ∷ []) (own stream notes)
unfolding own
own-more stream notes seen true e = filter-append (λ note. same_stream stream (stream_of note)) notes (seen ∷ []) ∙ rw e refl
own-more stream notes seen false e = filter-append (λ note. same_stream stream (stream_of note)) notes (seen ∷ []) ∙ rw e (append-nil _)

-- one more note becomes the newest note of its own stream, and changes the notes of no other stream
pub recent-own : (stream : StreamKey) (notes : List Seen) (seen : Seen) → same_stream stream (stream_of seen) ≡ true → recent stream (notes ++ seen ∷ []) ≡ seen ∷ recent stream notes
unfolding own
recent-own stream notes seen e =
    ap (λ (l : List Seen). reverse l) (own-more stream notes seen true e) ∙ reverse-append (own stream notes) (seen ∷ [])

pub recent-other : (stream : StreamKey) (notes : List Seen) (seen : Seen) → same_stream stream (stream_of seen) ≡ false → recent stream (notes ++ seen ∷ []) ≡ recent stream notes
unfolding own
recent-other stream notes seen e = ap (λ (l : List Seen). reverse l) (own-more stream notes seen false e)

none-own : (stream : StreamKey) (notes : List Seen) → list_any (same_stream stream) (map stream_of notes) ≡ false → own stream notes ≡ []
unfolding own
none-own stream [] none = refl
none-own stream (note ∷ notes) none =
    let parts : (same_stream stream (stream_of note) ≡ false) × (list_any (same_stream stream) (map stream_of notes) ≡ false) = or_parts _ _ none in
    ap (λ (b : Bool). cond b (note ∷ own stream notes) (own stream notes)) parts.0 ∙ none-own stream notes parts.1

pub recent-none : (stream : StreamKey) (notes : List Seen) → list_any (same_stream stream) (map stream_of notes) ≡ false → recent stream notes ≡ []
unfolding own
recent-none stream notes none = ap (λ (l : List Seen). reverse l) (none-own stream notes none)

some-own : (stream : StreamKey) (notes : List Seen) → list_any (same_stream stream) (map stream_of notes) ≡ true → own stream notes ≡ [] → ⊥
unfolding own
some-own stream [] some none = absurd cc
some-own stream (note ∷ notes) some none = by_case (same_stream stream (stream_of note)) refl (λ rest. some-own stream notes rest)
  where
    by_case : (r : Bool) → same_stream stream (stream_of note) ≡ r → (list_any (same_stream stream) (map stream_of notes) ≡ true → own stream notes ≡ [] → ⊥) → ⊥
    by_case true e rest =
        let here : note ∷ own stream notes ≡ [] = rw e at none in
        absurd cc
    by_case false e rest =
        let there : own stream notes ≡ [] = rw e at none in
        let still : list_any (same_stream stream) (map stream_of notes) ≡ true = rw e at some in
        rest still there

pub recent-some : (stream : StreamKey) (notes : List Seen) → list_any (same_stream stream) (map stream_of notes) ≡ true → recent stream notes ≡ [] → ⊥
unfolding own
recent-some stream notes some none =
    some-own stream notes some (sym (reverse-reverse (own stream notes)) ∙ ap (λ (l : List Seen). reverse l) none)
