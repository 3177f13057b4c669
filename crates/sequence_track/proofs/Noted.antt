-- What a tracker keeps and what it finds when it notes one more packet.
use Rattle.std.proofs.Common.{◌≡◌, ℕ, ◌+◌, ◌<◌, ◌≤◌, Bool, true, false, ◌||◌, cond, List, [], ◌∷◌, ◌++◌, length, map, take, drop, Some, None, refl, sym, ap, ◌∙◌, subst, arith}
use Rattle.std.specs.List.{list_any}
use Rattle.std.specs.Map.{lookup}
use Rattle.std.proofs.lemmas.Bool.{or_left, or_from, or_right, cond-true, cond-false}
use Rattle.std.proofs.lemmas.List.{map-append, length-append, length-take, take-append-drop, take-append-le, take_all}
use Rattle.std.proofs.lemmas.List.Folds.{list_any-append}
use Rattle.std.proofs.Math.Bool.{or-false}
use Rattle.sequence_track.specs.declared.seen.Seen.{Seen}
use Rattle.sequence_track.specs.declared.seen.Findings.{Findings}
use Rattle.sequence_track.specs.declared.stream.StreamKey.{StreamKey}
use Rattle.sequence_track.specs.declared.stream.StreamState.{StreamState}
use Rattle.sequence_track.specs.Findings.{stream_of, same_stream, distinct, most_streams, tracked, is_tracked, recent, findings, tracked_findings, untracked_findings}
use Rattle.sequence_track.specs.Tracking.{StandsFor, kept_of, state_of}
use Rattle.sequence_track.proofs.Streams.{same-is, same-refl, same-sym, any-distinct, distinct-new, distinct-known, recent-own, recent-other, recent-none, recent-some}

-- ---- which streams are tracked

-- the stream of each note, in the order of the notes
streams : List Seen → List StreamKey
streams notes = map stream_of notes

streams-more : (notes : List Seen) (seen : Seen) → streams (notes ++ seen ∷ []) ≡ streams notes ++ stream_of seen ∷ []
unfolding streams
streams-more notes seen = map-append stream_of notes (seen ∷ [])

any-take : (test : StreamKey → Bool) (n : ℕ) (xs : List StreamKey) → list_any test (take n xs) ≡ true → list_any test xs ≡ true
any-take test n xs e =
    ap (λ (l : List StreamKey). list_any test l) (sym (take-append-drop n xs)) ∙ list_any-append test (take n xs) (drop n xs) ∙ or_left _ _ e

-- a stream that is tracked has notes
has-notes : (stream : StreamKey) (notes : List Seen) → is_tracked stream notes ≡ true → list_any (same_stream stream) (map stream_of notes) ≡ true
has-notes stream notes e =
    sym (any-distinct stream (map stream_of notes)) ∙ any-take (same_stream stream) most_streams (distinct (map stream_of notes)) e

-- if a stream already has notes, one more note of the stream does not change which streams are tracked
tracked-known : (notes : List Seen) (seen : Seen) → list_any (same_stream (stream_of seen)) (map stream_of notes) ≡ true → tracked (notes ++ seen ∷ []) ≡ tracked notes
unfolding streams
tracked-known notes seen known =
    ap (λ (l : List StreamKey). take most_streams (distinct l)) (streams-more notes seen)
    ∙ ap (λ (l : List StreamKey). take most_streams l) (distinct-known (map stream_of notes) (stream_of seen) known)

tracked-new : (notes : List Seen) (seen : Seen) → list_any (same_stream (stream_of seen)) (map stream_of notes) ≡ false
    → tracked (notes ++ seen ∷ []) ≡ take most_streams (distinct (map stream_of notes) ++ stream_of seen ∷ [])
unfolding streams
tracked-new notes seen new =
    ap (λ (l : List StreamKey). take most_streams (distinct l)) (streams-more notes seen)
    ∙ ap (λ (l : List StreamKey). take most_streams l) (distinct-new (map stream_of notes) (stream_of seen) new)

-- if 1,024 streams are tracked, one more note does not change which streams are tracked
tracked-full : (notes : List Seen) (seen : Seen) → length (tracked notes) ≡ most_streams → tracked (notes ++ seen ∷ []) ≡ tracked notes
tracked-full notes seen full = by_case (list_any (same_stream (stream_of seen)) (map stream_of notes)) refl
  where
    many : most_streams ≤ length (distinct (map stream_of notes))
    many = omega (arith, sym (length-take most_streams (distinct (map stream_of notes))) ∙ full)

    by_case : (r : Bool) → list_any (same_stream (stream_of seen)) (map stream_of notes) ≡ r → tracked (notes ++ seen ∷ []) ≡ tracked notes
    by_case true known = tracked-known notes seen known
    by_case false new = tracked-new notes seen new ∙ take-append-le most_streams (distinct (map stream_of notes)) (stream_of seen ∷ []) many

-- if fewer than 1,024 streams are tracked, each stream that has a note is tracked
all-tracked : (notes : List Seen) → length (tracked notes) < most_streams → tracked notes ≡ distinct (map stream_of notes)
all-tracked notes few =
    let short : length (distinct (map stream_of notes)) < most_streams = omega (arith, length-take most_streams (distinct (map stream_of notes))) in
    take_all most_streams (distinct (map stream_of notes)) (omega arith)

new-stream : (stream : StreamKey) (notes : List Seen) → length (tracked notes) < most_streams → is_tracked stream notes ≡ false
    → list_any (same_stream stream) (map stream_of notes) ≡ false
new-stream stream notes few new =
    sym (any-distinct stream (map stream_of notes)) ∙ ap (λ (l : List StreamKey). list_any (same_stream stream) l) (sym (all-tracked notes few)) ∙ new

-- if fewer than 1,024 streams are tracked, the first note of a stream adds that stream
tracked-more : (notes : List Seen) (seen : Seen) → length (tracked notes) < most_streams → is_tracked (stream_of seen) notes ≡ false
    → tracked (notes ++ seen ∷ []) ≡ tracked notes ++ stream_of seen ∷ []
tracked-more notes seen few new =
    let all : tracked notes ≡ distinct (map stream_of notes) = all-tracked notes few in
    let size : length (distinct (map stream_of notes)) < most_streams = subst (λ (l : List StreamKey). length l < most_streams) all few in
    tracked-new notes seen (new-stream (stream_of seen) notes few new)
    ∙ take_all most_streams (distinct (map stream_of notes) ++ stream_of seen ∷ []) (omega (arith, length-append (distinct (map stream_of notes)) (stream_of seen ∷ [])))
    ∙ ap (λ (l : List StreamKey). l ++ stream_of seen ∷ []) (sym all)

-- ---- what is kept of a stream

kept-some : (notes : List Seen) (stream : StreamKey) (state : StreamState) → kept_of notes stream ≡ Some state
    → (is_tracked stream notes ≡ true) × (state_of (recent stream notes) ≡ Some state)
kept-some notes stream state e = by_case (is_tracked stream notes) refl
  where
    by_case : (r : Bool) → is_tracked stream notes ≡ r → (is_tracked stream notes ≡ true) × (state_of (recent stream notes) ≡ Some state)
    by_case true t = (t, sym (cond-true _ _ _ t) ∙ e)
    by_case false t =
        let none : None ≡ Some state = sym (cond-false _ _ _ t) ∙ e in
        absurd cc

no-state : (notes : List Seen) → state_of notes ≡ None → notes ≡ []
no-state [] e = refl
no-state (note ∷ notes) e = absurd cc

kept-none : (notes : List Seen) (stream : StreamKey) → kept_of notes stream ≡ None → is_tracked stream notes ≡ false
kept-none notes stream e = by_case (is_tracked stream notes) refl
  where
    by_case : (r : Bool) → is_tracked stream notes ≡ r → is_tracked stream notes ≡ false
    by_case true t = absurd (recent-some stream notes (has-notes stream notes t) (no-state (recent stream notes) (sym (cond-true _ _ _ t) ∙ e)))
    by_case false t = t

-- If a note belongs to another stream and does not change whether `stream` is tracked, what is kept of `stream` stays
-- the same.
kept-other : (notes : List Seen) (seen : Seen) (stream : StreamKey) → is_tracked stream (notes ++ seen ∷ []) ≡ is_tracked stream notes
    → same_stream stream (stream_of seen) ≡ false → kept_of (notes ++ seen ∷ []) stream ≡ kept_of notes stream
kept-other notes seen stream same apart =
    ap (λ (b : Bool). cond b (state_of (recent stream (notes ++ seen ∷ []))) None) same
    ∙ ap (λ (l : List Seen). cond (is_tracked stream notes) (state_of l) None) (recent-other stream notes seen apart)

kept-own : (notes : List Seen) (seen : Seen) (state : StreamState) → is_tracked (stream_of seen) (notes ++ seen ∷ []) ≡ true
    → state_of (seen ∷ recent (stream_of seen) notes) ≡ Some state → kept_of (notes ++ seen ∷ []) (stream_of seen) ≡ Some state
kept-own notes seen state t e =
    cond-true _ _ _ t ∙ ap state_of (recent-own (stream_of seen) notes seen (same-refl (stream_of seen))) ∙ e

-- ---- a tracker that noted one more packet

-- the tracker has a new state for this stream, and the same states as before for all other streams
abbrev pub Puts : List (StreamKey × StreamState) → List (StreamKey × StreamState) → StreamKey → StreamState → Type 0
Puts old new stream state = (q : StreamKey) → lookup (same_stream q) new ≡ cond (same_stream stream q) (Some state) (lookup (same_stream q) old)

noted : (old new : List (StreamKey × StreamState)) (notes : List Seen) (seen : Seen) (state : StreamState)
    → StandsFor old notes → Puts old new (stream_of seen) state → length new ≡ length (tracked (notes ++ seen ∷ []))
    → is_tracked (stream_of seen) (notes ++ seen ∷ []) ≡ true
    → ((q : StreamKey) → same_stream q (stream_of seen) ≡ false → is_tracked q (notes ++ seen ∷ []) ≡ is_tracked q notes)
    → state_of (seen ∷ recent (stream_of seen) notes) ≡ Some state → StandsFor new (notes ++ seen ∷ [])
noted old new notes seen state stands puts count own others next = record { states = λ q. by_case q (same_stream (stream_of seen) q) refl; count = count }
  where
    own_state : lookup (same_stream (stream_of seen)) new ≡ kept_of (notes ++ seen ∷ []) (stream_of seen)
    own_state = puts (stream_of seen) ∙ cond-true _ _ _ (same-refl (stream_of seen)) ∙ sym (kept-own notes seen state own next)

    by_case : (q : StreamKey) (r : Bool) → same_stream (stream_of seen) q ≡ r → lookup (same_stream q) new ≡ kept_of (notes ++ seen ∷ []) q
    by_case q true e = let P : StreamKey → Type 0 = λ x. lookup (same_stream x) new ≡ kept_of (notes ++ seen ∷ []) x in subst P (same-is (stream_of seen) q e) own_state
    by_case q false e =
        let apart : same_stream q (stream_of seen) ≡ false = same-sym (stream_of seen) q false e in
        puts q ∙ cond-false _ _ _ e ∙ stands.states q ∙ sym (kept-other notes seen q (others q apart) apart)

-- ---- a packet of a stream that is tracked

pub noted-known : (old new : List (StreamKey × StreamState)) (notes : List Seen) (seen : Seen) (last state : StreamState)
    → StandsFor old notes → lookup (same_stream (stream_of seen)) old ≡ Some last → Puts old new (stream_of seen) state → length new ≡ length old
    → ((recent : List Seen) → state_of recent ≡ Some last → state_of (seen ∷ recent) ≡ Some state) → StandsFor new (notes ++ seen ∷ [])
noted-known old new notes seen last state stands here puts count next =
    let known : (is_tracked (stream_of seen) notes ≡ true) × (state_of (recent (stream_of seen) notes) ≡ Some last) =
    kept-some notes (stream_of seen) last (sym (stands.states (stream_of seen)) ∙ here) in
    let same : tracked (notes ++ seen ∷ []) ≡ tracked notes = tracked-known notes seen (has-notes (stream_of seen) notes known.0) in
    noted old new notes seen state stands puts (count ∙ stands.count ∙ ap (λ (l : List StreamKey). length l) (sym same))
    (ap (λ (l : List StreamKey). list_any (same_stream (stream_of seen)) l) same ∙ known.0)
    (λ q apart. ap (λ (l : List StreamKey). list_any (same_stream q) l) same)
    (next (recent (stream_of seen) notes) known.1)

pub found-known : (old : List (StreamKey × StreamState)) (notes : List Seen) (seen : Seen) (last : StreamState) (found : Findings)
    → StandsFor old notes → lookup (same_stream (stream_of seen)) old ≡ Some last
    → ((recent : List Seen) → state_of recent ≡ Some last → found ≡ tracked_findings recent seen) → found ≡ findings notes seen
found-known old notes seen last found stands here next =
    let known : (is_tracked (stream_of seen) notes ≡ true) × (state_of (recent (stream_of seen) notes) ≡ Some last) =
    kept-some notes (stream_of seen) last (sym (stands.states (stream_of seen)) ∙ here) in
    let same : tracked (notes ++ seen ∷ []) ≡ tracked notes = tracked-known notes seen (has-notes (stream_of seen) notes known.0) in
    next (recent (stream_of seen) notes) known.1
    ∙ sym (cond-true _ _ _ (ap (λ (l : List StreamKey). list_any (same_stream (stream_of seen)) l) same ∙ known.0))

-- ---- a packet of a stream that is not tracked, because 1,024 others are

pub noted-full : (old : List (StreamKey × StreamState)) (notes : List Seen) (seen : Seen)
    → StandsFor old notes → lookup (same_stream (stream_of seen)) old ≡ None → length old ≡ most_streams → StandsFor old (notes ++ seen ∷ [])
noted-full old notes seen stands here full = record { states = λ q. by_case q (same_stream (stream_of seen) q) refl; count = stands.count ∙ ap (λ (l : List StreamKey). length l) (sym same) }
  where
    same : tracked (notes ++ seen ∷ []) ≡ tracked notes
    same = tracked-full notes seen (sym stands.count ∙ full)

    tracked_same : (q : StreamKey) → is_tracked q (notes ++ seen ∷ []) ≡ is_tracked q notes
    tracked_same q = ap (λ (l : List StreamKey). list_any (same_stream q) l) same

    own : lookup (same_stream (stream_of seen)) old ≡ kept_of (notes ++ seen ∷ []) (stream_of seen)
    own = here ∙ sym (cond-false _ _ _ (tracked_same (stream_of seen) ∙ kept-none notes (stream_of seen) (sym (stands.states (stream_of seen)) ∙ here)))

    by_case : (q : StreamKey) (r : Bool) → same_stream (stream_of seen) q ≡ r → lookup (same_stream q) old ≡ kept_of (notes ++ seen ∷ []) q
    by_case q true e = let P : StreamKey → Type 0 = λ x. lookup (same_stream x) old ≡ kept_of (notes ++ seen ∷ []) x in subst P (same-is (stream_of seen) q e) own
    by_case q false e = stands.states q ∙ sym (kept-other notes seen q (tracked_same q) (same-sym (stream_of seen) q false e))

pub found-full : (old : List (StreamKey × StreamState)) (notes : List Seen) (seen : Seen)
    → StandsFor old notes → lookup (same_stream (stream_of seen)) old ≡ None → length old ≡ most_streams → untracked_findings seen ≡ findings notes seen
found-full old notes seen stands here full =
    let same : tracked (notes ++ seen ∷ []) ≡ tracked notes = tracked-full notes seen (sym stands.count ∙ full) in
    let new : is_tracked (stream_of seen) notes ≡ false = kept-none notes (stream_of seen) (sym (stands.states (stream_of seen)) ∙ here) in
    sym (cond-false _ _ _ (ap (λ (l : List StreamKey). list_any (same_stream (stream_of seen)) l) same ∙ new))

-- ---- the first packet of a stream that is tracked

any-own : (stream : StreamKey) (xs : List StreamKey) → list_any (same_stream stream) (xs ++ stream ∷ []) ≡ true
any-own stream xs = list_any-append (same_stream stream) xs (stream ∷ []) ∙ or_right _ _ (or_left _ _ (same-refl stream))

any-other : (q stream : StreamKey) (xs : List StreamKey) → same_stream q stream ≡ false → list_any (same_stream q) (xs ++ stream ∷ []) ≡ list_any (same_stream q) xs
any-other q stream xs apart =
    list_any-append (same_stream q) xs (stream ∷ []) ∙ ap (λ (b : Bool). list_any (same_stream q) xs || b) (or_from _ false apart refl) ∙ or-false (list_any (same_stream q) xs)

pub noted-new : (old new : List (StreamKey × StreamState)) (notes : List Seen) (seen : Seen) (state : StreamState)
    → StandsFor old notes → lookup (same_stream (stream_of seen)) old ≡ None → length old < most_streams
    → Puts old new (stream_of seen) state → length new ≡ length old + 1 → Some state ≡ state_of (seen ∷ []) → StandsFor new (notes ++ seen ∷ [])
noted-new old new notes seen state stands here few puts count first =
    let less : length (tracked notes) < most_streams = subst (λ (n : ℕ). n < most_streams) stands.count few in
    let untracked : is_tracked (stream_of seen) notes ≡ false = kept-none notes (stream_of seen) (sym (stands.states (stream_of seen)) ∙ here) in
    let more : tracked (notes ++ seen ∷ []) ≡ tracked notes ++ stream_of seen ∷ [] = tracked-more notes seen less untracked in
    let none : recent (stream_of seen) notes ≡ [] = recent-none (stream_of seen) notes (new-stream (stream_of seen) notes less untracked) in
    noted old new notes seen state stands puts
    (count ∙ ap (λ (n : ℕ). n + 1) stands.count ∙ sym (length-append (tracked notes) (stream_of seen ∷ [])) ∙ ap (λ (l : List StreamKey). length l) (sym more))
    (ap (λ (l : List StreamKey). list_any (same_stream (stream_of seen)) l) more ∙ any-own (stream_of seen) (tracked notes))
    (λ q apart. ap (λ (l : List StreamKey). list_any (same_stream q) l) more ∙ any-other q (stream_of seen) (tracked notes) apart)
    (ap (λ (l : List Seen). state_of (seen ∷ l)) none ∙ sym first)

pub found-new : (old : List (StreamKey × StreamState)) (notes : List Seen) (seen : Seen)
    → StandsFor old notes → lookup (same_stream (stream_of seen)) old ≡ None → length old < most_streams → tracked_findings [] seen ≡ findings notes seen
found-new old notes seen stands here few =
    let less : length (tracked notes) < most_streams = subst (λ (n : ℕ). n < most_streams) stands.count few in
    let untracked : is_tracked (stream_of seen) notes ≡ false = kept-none notes (stream_of seen) (sym (stands.states (stream_of seen)) ∙ here) in
    let more : tracked (notes ++ seen ∷ []) ≡ tracked notes ++ stream_of seen ∷ [] = tracked-more notes seen less untracked in
    let none : recent (stream_of seen) notes ≡ [] = recent-none (stream_of seen) notes (new-stream (stream_of seen) notes less untracked) in
    ap (λ (l : List Seen). tracked_findings l seen) (sym none)
    ∙ sym (cond-true _ _ _ (ap (λ (l : List StreamKey). list_any (same_stream (stream_of seen)) l) more ∙ any-own (stream_of seen) (tracked notes)))
