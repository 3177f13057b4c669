-- A pair of listeners takes bytes.
use Rattle.std.proofs.Common.{◌≡◌, ℕ, zero, suc, ◌*◌, ◌^◌, ◌≤◌, Bool, true, false, cond, List, [], ◌∷◌, ◌++◌, length, length-drop, take, drop, Option, Some, None, Result, Ok, Err, refl, sym, ap, ◌∙◌, subst, arith, append-nil}
use Rattle.std.specs.Prelude.{IfOk, is_none}
use mathlib.Core.List.{IsPrefix}
use Rattle.avtp_base.specs.declared.refusal.Refusal.{Refusal}
use Rattle.pcap_frames.specs.Capture.{Record, first_refusal, record_of, record_size, records_behind, records_from, style_of, whole_records}
use Rattle.pcap_frames.specs.declared.style.Style.{Style}
use Rattle.pcap_frames.specs.Layout.{certain, record_refusal}
use Rattle.pcap_frames.proofs.Fields.{record_whole}
use Rattle.pcap_frames.proofs.Firsts.{records_first}
use Rattle.sample_schedule.specs.Batches.{Presented}
use Rattle.sample_schedule.specs.declared.shown.Shown.{Shown}
use Rattle.listener.specs.declared.listener.ListenFault.{ListenFault}
use Rattle.listener.specs.declared.listener.ListenFault.TheVariants.{Refused, Memory}
use Rattle.listener.specs.declared.plan.ListenPlan.{ListenPlan}
use Rattle.listener.specs.Feeding.{Feeding, IsQuiet, Keeps as KeepsFed, StandsFor as IsFed, bytes_after, is_ended, out}
use Rattle.listener.specs.Laws.{presented_of}
use Rattle.listener.specs.Listening.{out as out_of}
use Rattle.listener.proofs.Due.{due_none}
use Rattle.listener.proofs.Listened.{out_at_end, out_further, out_open, out_same}
use Rattle.listener_pair.specs.declared.difference.PairCounts.{PairCounts}
use Rattle.listener_pair.specs.declared.difference.Which.{Which}
use Rattle.listener_pair.specs.declared.difference.Which.TheVariants.{A, B}
use Rattle.listener_pair.specs.Differences.{counts_of}
use Rattle.listener_pair.specs.Matching.{IsIdle, MatchingState, StandsFor as IsMatched, known_of, wanted}
use Rattle.listener_pair.proofs.Standing.{idle-counts, lacks-open, wants-a, wants-b}
use Rattle.capture_pair.specs.declared.source.ByteSource.{ByteSource}
use Rattle.capture_pair.specs.Feeding.{AreShort, FedPair, KeepsOther, StandsFor, bytes_of, fed_of, known_by}
use Rattle.capture_pair.specs.Pairing.{Matches, Pairs}
use Rattle.capture_pair.specs.state.Fed.{EndedBy, EndedOn, FedOn, IsBegun}
use Rattle.capture_pair.specs.state.Sides.{Holds, IsHeard, IsSettled, Kept, OfBytes, ShowsBytes, Taken, kept_of_bytes}
use Rattle.capture_pair.proofs.Filling.{counts-all}
use Rattle.capture_pair.proofs.Heard.{heard-of}
use Rattle.capture_pair.proofs.Taking.{more-a, more-b}

-- ---- how many records some bytes have

nothing-refused : (o : Option Refusal) → is_none o ≡ true → o ≡ None
nothing-refused None h = refl
nothing-refused (Some refusal) h = absurd (cc)

-- there are at most half as many records as bytes, since a record has at least 16 bytes
records-few : (n : ℕ) (style : Style) (bytes : List ℕ) → 2 * length (records_from n style bytes) ≤ length bytes
records-few zero style bytes = omega arith
records-few (suc n) style bytes = by (is_none (record_refusal style.order 0 bytes)) refl (records-few n style (drop (record_size style bytes) bytes))
  where
    by : (b : Bool) → is_none (record_refusal style.order 0 bytes) ≡ b → 2 * length (records_from n style (drop (record_size style bytes) bytes)) ≤ length (drop (record_size style bytes) bytes)
        → 2 * length (cond b (record_of style (take (record_size style bytes) bytes) ∷ records_from n style (drop (record_size style bytes) bytes)) []) ≤ length bytes
    by true e h =
        let whole = record_whole style.order 0 bytes (nothing-refused (record_refusal style.order 0 bytes) e) in
        let left = length-drop (record_size style bytes) bytes in
        omega arith
    by false e h = omega arith

whole-few : (bytes : List ℕ) → 2 * length (whole_records bytes) ≤ length bytes
unfolding whole_records
whole-few bytes = by (style_of bytes)
  where
    by : (style : Option Style) → 2 * length (records_behind style bytes) ≤ length bytes
    by None = omega arith
    by (Some style) = let few = records-few (length bytes) style (drop 24 bytes) in let left = length-drop 24 bytes in omega arith

heard-fed : (bytes : List ℕ) (fed : Feeding) → length bytes ≤ 2 ^ 62 → IsHeard (out fed bytes)
heard-fed bytes fed le = let h = whole-few bytes in heard-of (whole_records bytes) fed.listener (omega arith)

-- ---- a listener shows a longer list

grows-a : (ShowsA ShowsA2 ShowsB ShowsB2 : List Shown → ℕ → Type 0) (list longer other : List Shown) (given : ℕ) (m : MatchingState) → wanted m ≡ Some A → ((n : ℕ) → ShowsA list n → ShowsA2 longer n) → ((n : ℕ) → ShowsB other n → ShowsB2 other n) → IsPrefix list longer
    → Pairs ShowsA ShowsB list other given m → Holds ShowsA2 ShowsB2 longer other given m
grows-a ShowsA ShowsA2 ShowsB ShowsB2 list longer other given m w fa fb first p = record {
  shown_a = p.shown_a;
  shown_b = p.shown_b;
  shows_a = fa p.shown_a p.shows_a;
  shows_b = fb p.shown_b p.shows_b;
  matches = more-a list longer other p.shown_a p.shown_b given m first (lacks-open m.ended_a m.next_a (wants-a m w)) p.matches;
}

grows-b : (ShowsA ShowsA2 ShowsB ShowsB2 : List Shown → ℕ → Type 0) (list other longer : List Shown) (given : ℕ) (m : MatchingState) → wanted m ≡ Some B → ((n : ℕ) → ShowsA list n → ShowsA2 list n) → ((n : ℕ) → ShowsB other n → ShowsB2 longer n) → IsPrefix other longer
    → Pairs ShowsA ShowsB list other given m → Holds ShowsA2 ShowsB2 list longer given m
grows-b ShowsA ShowsA2 ShowsB ShowsB2 list other longer given m w fa fb first p = record {
  shown_a = p.shown_a;
  shown_b = p.shown_b;
  shows_a = fa p.shown_a p.shows_a;
  shows_b = fb p.shown_b p.shows_b;
  matches = more-b list other longer p.shown_a p.shown_b given m first (lacks-open m.ended_b m.next_b (wants-b m w)) p.matches;
}

prefix-same : (xs ys : List Shown) → ys ≡ xs → IsPrefix xs ys
prefix-same xs ys e = ([], append-nil xs ∙ sym e)

-- what is shown of `bytes` is a prefix of what is shown of `bytes ++ more`
prefix-more : (bytes more : List ℕ) (n : ℕ) (old new : Feeding) → IsFed bytes n old → old.out_of_memory ≡ false → is_ended old ≡ false → is_ended new ≡ false → new.listener.plan ≡ old.listener.plan → IsPrefix (out old bytes) (out new (bytes ++ more))
prefix-more bytes more n old new s free opened still plan =
    let others = records_first old.reader bytes more (whole_records bytes) (s.read free) in
    subst (λ (l : List Record). IsPrefix (out old bytes) (out_of new.listener l)) (sym others.1) (out_further old.listener new.listener (whole_records bytes) others.0 opened still plan)

prefix-fed : (bytes piece : List ℕ) (n : ℕ) (result : Result ℕ ListenFault) (memory : Bool) (old new : Feeding) → old.out_of_memory ≡ memory → (old.out_of_memory ≡ true → result ≡ Err Memory) → IsFed bytes n old → is_ended old ≡ false → is_ended new ≡ false → new.listener.plan ≡ old.listener.plan
    → IsPrefix (out old bytes) (out new (bytes_after bytes piece result))
prefix-fed bytes piece n (Err Memory) memory old new m lasting s opened still plan = prefix-same (out old bytes) (out new bytes) (out_same old.listener new.listener (whole_records bytes) plan (still ∙ sym opened))
prefix-fed bytes piece n (Ok k) false old new m lasting s opened still plan = prefix-more bytes (take k piece) n old new s m opened still plan
prefix-fed bytes piece n (Err (Refused refusal)) false old new m lasting s opened still plan = prefix-more bytes piece n old new s m opened still plan
prefix-fed bytes piece n (Ok k) true old new m lasting s opened still plan = let e = lasting m in absurd (cc)
prefix-fed bytes piece n (Err (Refused refusal)) true old new m lasting s opened still plan = let e = lasting m in absurd (cc)

prefix-ended : (bytes : List ℕ) (memory : Bool) (fault : Option ListenFault) (old new : Feeding) → old.out_of_memory ≡ memory → EndedBy fault old new → is_ended old ≡ false → IsPrefix (out old bytes) (out new bytes)
prefix-ended bytes false fault old new m e opened = out_at_end old.listener new.listener (whole_records bytes) opened (e.ended m) e.plan
prefix-ended bytes true fault old new m e opened = prefix-same (out old bytes) (out new bytes) (ap (λ (f : Feeding). out f bytes) (e.lasting m).1)

-- ---- a pair

pub stands-as : (bytes others : List ℕ) (list other : List Shown) (given : ℕ) (a b : Feeding) (m : MatchingState) → Pairs (ShowsBytes a (OfBytes bytes)) (ShowsBytes b (OfBytes others)) list other given m → StandsFor bytes others given (record { a = a; b = b; matching = m })
stands-as bytes others list other given a b m p = record {
  shown_a = p.shown_a;
  shown_b = p.shown_b;
  shows_a = p.shows_a.0;
  shows_b = p.shows_b.0;
  matches = subst (λ (l : List Shown). Matches l (out b others) p.shown_a p.shown_b given m) p.shows_a.1 (subst (λ (l : List Shown). Matches list l p.shown_a p.shown_b given m) p.shows_b.1 p.matches);
  filled_a = λ w. p.filled_a w ∙ ap length p.shows_a.1;
  filled_b = λ w. p.filled_b w ∙ ap length p.shows_b.1;
}

pub sides-as : (bytes others : List ℕ) (given : ℕ) (pair : FedPair) → StandsFor bytes others given pair → Pairs (ShowsBytes pair.a (OfBytes bytes)) (ShowsBytes pair.b (OfBytes others)) (out pair.a bytes) (out pair.b others) given pair.matching
sides-as bytes others given pair p = record {
  shown_a = p.shown_a;
  shown_b = p.shown_b;
  shows_a = (p.shows_a, refl);
  shows_b = (p.shows_b, refl);
  matches = p.matches;
  filled_a = p.filled_a;
  filled_b = p.filled_b;
}

pub heard-a : (bytes others : List ℕ) (pair : FedPair) → AreShort bytes others → IsHeard (out pair.a bytes)
heard-a bytes others pair short = heard-fed bytes pair.a short.a

pub heard-b : (bytes others : List ℕ) (pair : FedPair) → AreShort bytes others → IsHeard (out pair.b others)
heard-b bytes others pair short = heard-fed others pair.b short.b

abbrev pub FillsBoth : Feeding → Feeding → MatchingState → Feeding → Feeding → MatchingState → Type 0
FillsBoth a b m a2 b2 m2 = (ta tb : Taken) (list other : List Shown) (given : ℕ) → IsHeard list → IsHeard other → Holds (ShowsBytes a ta) (ShowsBytes b tb) list other given m → Pairs (ShowsBytes a2 ta) (ShowsBytes b2 tb) list other given m2

then-a : (bytes after others : List ℕ) (given : ℕ) (old : FedPair) (a2 a3 b3 : Feeding) (m3 : MatchingState) → wanted old.matching ≡ Some A → ((n : ℕ) → IsFed bytes n old.a → IsFed after n a2) → ((n : ℕ) → IsFed bytes n old.a → IsPrefix (out old.a bytes) (out a2 after)) → AreShort after others → FillsBoth a2 old.b old.matching a3 b3 m3
    → StandsFor bytes others given old → StandsFor after others given (record { a = a3; b = b3; matching = m3 })
then-a bytes after others given old a2 a3 b3 m3 w go longer short fills s =
    stands-as after others (out a2 after) (out old.b others) given a3 b3 m3
    (fills (OfBytes after) (OfBytes others) (out a2 after) (out old.b others) given (heard-fed after a2 short.a) (heard-fed others old.b short.b)
    (grows-a (λ list n. IsFed bytes n old.a) (ShowsBytes a2 (OfBytes after)) (λ list n. IsFed others n old.b) (ShowsBytes old.b (OfBytes others)) (out old.a bytes) (out a2 after) (out old.b others) given old.matching w (λ n h. (go n h, refl)) (λ n h. (h, refl)) (longer s.shown_a s.shows_a) s))

then-b : (bytes others after : List ℕ) (given : ℕ) (old : FedPair) (b2 a3 b3 : Feeding) (m3 : MatchingState) → wanted old.matching ≡ Some B → ((n : ℕ) → IsFed others n old.b → IsFed after n b2) → ((n : ℕ) → IsFed others n old.b → IsPrefix (out old.b others) (out b2 after)) → AreShort bytes after → FillsBoth old.a b2 old.matching a3 b3 m3
    → StandsFor bytes others given old → StandsFor bytes after given (record { a = a3; b = b3; matching = m3 })
then-b bytes others after given old b2 a3 b3 m3 w go longer short fills s =
    stands-as bytes after (out old.a bytes) (out b2 after) given a3 b3 m3
    (fills (OfBytes bytes) (OfBytes after) (out old.a bytes) (out b2 after) given (heard-fed bytes old.a short.a) (heard-fed after b2 short.b)
    (grows-b (λ list n. IsFed bytes n old.a) (ShowsBytes old.a (OfBytes bytes)) (λ list n. IsFed others n old.b) (ShowsBytes b2 (OfBytes after)) (out old.a bytes) (out old.b others) (out b2 after) given old.matching w (λ n h. (h, refl)) (λ n h. (go n h, refl)) (longer s.shown_b s.shows_b) s))

pub fed-a : (which : Which) (piece : List ℕ) (result : Result ℕ ListenFault) (bytes others : List ℕ) (given : ℕ) (old : FedPair) (a2 b2 a3 b3 : Feeding) (m3 : MatchingState) → which ≡ A → wanted old.matching ≡ Some which → is_ended (fed_of which old) ≡ false → FedOn which piece result old.a old.b a2 b2
    → AreShort (bytes_after bytes piece result) others → FillsBoth a2 b2 old.matching a3 b3 m3 → StandsFor bytes others given old → StandsFor (bytes_after bytes piece result) others given (record { a = a3; b = b3; matching = m3 })
fed-a A piece result bytes others given old a2 b2 a3 b3 m3 is w opened t short fills s =
    then-a bytes (bytes_after bytes piece result) others given old a2 a3 b3 m3 w (λ n h. t.0.stands bytes n h) (λ n h. prefix-fed bytes piece n result old.a.out_of_memory old.a a2 refl t.0.lasting h opened t.0.opened t.0.plan) short
    (subst (λ (b : Feeding). FillsBoth a2 b old.matching a3 b3 m3) t.1 fills) s
fed-a B piece result bytes others given old a2 b2 a3 b3 m3 is w opened t short fills s = absurd (cc)

pub fed-b : (which : Which) (piece : List ℕ) (result : Result ℕ ListenFault) (bytes others : List ℕ) (given : ℕ) (old : FedPair) (a2 b2 a3 b3 : Feeding) (m3 : MatchingState) → which ≡ B → wanted old.matching ≡ Some which → is_ended (fed_of which old) ≡ false → FedOn which piece result old.a old.b a2 b2
    → AreShort bytes (bytes_after others piece result) → FillsBoth a2 b2 old.matching a3 b3 m3 → StandsFor bytes others given old → StandsFor bytes (bytes_after others piece result) given (record { a = a3; b = b3; matching = m3 })
fed-b B piece result bytes others given old a2 b2 a3 b3 m3 is w opened t short fills s =
    then-b bytes others (bytes_after others piece result) given old b2 a3 b3 m3 w (λ n h. t.0.stands others n h) (λ n h. prefix-fed others piece n result old.b.out_of_memory old.b b2 refl t.0.lasting h opened t.0.opened t.0.plan) short
    (subst (λ (a : Feeding). FillsBoth a b2 old.matching a3 b3 m3) t.1 fills) s
fed-b A piece result bytes others given old a2 b2 a3 b3 m3 is w opened t short fills s = absurd (cc)

pub ended-pair : (which : Which) (fault : Option ListenFault) (bytes others : List ℕ) (given : ℕ) (old : FedPair) (a2 b2 a3 b3 : Feeding) (m3 : MatchingState) → wanted old.matching ≡ Some which → is_ended (fed_of which old) ≡ false → EndedOn which fault old.a old.b a2 b2
    → AreShort bytes others → FillsBoth a2 b2 old.matching a3 b3 m3 → StandsFor bytes others given old → StandsFor bytes others given (record { a = a3; b = b3; matching = m3 })
ended-pair A fault bytes others given old a2 b2 a3 b3 m3 w opened t short fills s =
    then-a bytes bytes others given old a2 a3 b3 m3 w (λ n h. t.0.stands bytes n h) (λ n h. prefix-ended bytes old.a.out_of_memory fault old.a a2 refl t.0 opened) short (subst (λ (b : Feeding). FillsBoth a2 b old.matching a3 b3 m3) t.1 fills) s
ended-pair B fault bytes others given old a2 b2 a3 b3 m3 w opened t short fills s =
    then-b bytes others others given old b2 a3 b3 m3 w (λ n h. t.0.stands others n h) (λ n h. prefix-ended others old.b.out_of_memory fault old.b b2 refl t.0 opened) short (subst (λ (a : Feeding). FillsBoth a b2 old.matching a3 b3 m3) t.1 fills) s

pub open-side : (which : Which) (QuietA QuietB : Type 0) (pair : FedPair) → IsSettled (is_ended pair.a) (is_ended pair.b) QuietA QuietB pair.matching → wanted pair.matching ≡ Some which → is_ended (fed_of which pair) ≡ false
open-side A QuietA QuietB pair s w = s.open_a w
open-side B QuietA QuietB pair s w = s.open_b w

-- ---- what is returned for a piece

pub refused-on : (which : Which) (piece : List ℕ) (result : Result ℕ ListenFault) (refusal : Refusal) (bytes others more : List ℕ) (given : ℕ) (old : FedPair) (a2 b2 : Feeding) → FedOn which piece result old.a old.b a2 b2 → result ≡ Err (Refused refusal) → StandsFor bytes others given old
    → first_refusal ((bytes_of which bytes others ++ piece) ++ more) ≡ Some refusal
refused-on A piece result refusal bytes others more given old a2 b2 t e s = t.0.refused refusal e bytes more s.shown_a s.shows_a
refused-on B piece result refusal bytes others more given old a2 b2 t e s = t.0.refused refusal e others more s.shown_b s.shows_b

pub uncertain-on : (which : Which) (piece : List ℕ) (result : Result ℕ ListenFault) (old now : FedPair) (a2 b2 : Feeding) → FedOn which piece result old.a old.b a2 b2 → old ≡ now
    → IfOk result (λ n. (bytes others : List ℕ) (given : ℕ) → StandsFor bytes others given now → certain (first_refusal (bytes_of which bytes others ++ take n piece)) ≡ None)
uncertain-on A piece (Ok n) old now a2 b2 t same = λ bytes others given s. let st = subst (StandsFor bytes others given) (sym same) s in t.0.uncertain bytes st.shown_a st.shows_a
uncertain-on B piece (Ok n) old now a2 b2 t same = λ bytes others given s. let st = subst (StandsFor bytes others given) (sym same) s in t.0.uncertain others st.shown_b st.shows_b
uncertain-on which piece (Err fault) old now a2 b2 t same = tt

-- ---- a pair that was fed nothing

pub begun-pair : (wanted_plan : ListenPlan) (a b : ByteSource) (m : MatchingState) → IsBegun wanted_plan a → IsBegun wanted_plan b → IsMatched [] [] 0 m → m.ended_a ≡ false → m.ended_b ≡ false → StandsFor [] [] 0 (record { a = a.listener; b = b.listener; matching = m })
begun-pair wanted_plan a b m sa sb s ea eb = record {
  shown_a = 0;
  shown_b = 0;
  shows_a = sa.stands;
  shows_b = sb.stands;
  matches = record {
    within_a = omega arith;
    within_b = omega arith;
    matched = s;
    ended_a = λ t. let e = sym ea ∙ t in absurd (cc);
    ended_b = λ t. let e = sym eb ∙ t in absurd (cc);
  };
  filled_a = λ w. none-shown a.listener sa.opened;
  filled_b = λ w. none-shown b.listener sb.opened;
}
  where
    none-shown : (f : Feeding) → is_ended f ≡ false → 0 ≡ length (out f [])
    none-shown f opened = let h = whole-few [] in sym (ap length (ap (out_of f.listener) (no-records (omega (arith, h))) ∙ out_open f.listener [] opened ∙ due_none f.listener.plan))
      where
        empty : (l : List Record) → length l ≤ 0 → l ≡ []
        empty [] h = refl
        empty (x ∷ l) h = absurd (omega arith)

        no-records : length (whole_records []) ≤ 0 → whole_records [] ≡ []
        no-records h = empty (whole_records []) h

pub begun-settled : (wanted_plan : ListenPlan) (a b : ByteSource) (m : MatchingState) → IsBegun wanted_plan a → IsBegun wanted_plan b → m.ended_a ≡ false → m.ended_b ≡ false → IsSettled (is_ended a.listener) (is_ended b.listener) (IsQuiet a.listener) (IsQuiet b.listener) m
begun-settled wanted_plan a b m sa sb ea eb = record {
  over_a = λ t. let e = sym ea ∙ t in absurd (cc);
  over_b = λ t. let e = sym eb ∙ t in absurd (cc);
  open_a = λ w. sa.opened;
  open_b = λ w. sb.opened;
  quiet_a = λ w. sa.quiet;
  quiet_b = λ w. sb.quiet;
}

pub counted : (bytes others : List ℕ) (given : ℕ) (pair : FedPair) (QuietA QuietB : Type 0) (n : PairCounts) → AreShort bytes others → StandsFor bytes others given pair → IsSettled (is_ended pair.a) (is_ended pair.b) QuietA QuietB pair.matching → IsIdle pair.matching
    → ((xs ys : List Presented) (g : ℕ) → IsMatched xs ys g pair.matching → n ≡ counts_of (known_of pair.matching xs ys)) → n ≡ counts_of (known_by pair bytes others)
counted bytes others given pair QuietA QuietB n short s settled idle get =
    let m = s.matches.matched in
    get (presented_of (take s.shown_a (out pair.a bytes))) (presented_of (take s.shown_b (out pair.b others))) given m
    ∙ sym (idle-counts (presented_of (take s.shown_a (out pair.a bytes))) (presented_of (take s.shown_b (out pair.b others))) given pair.matching m idle)
    ∙ counts-all (λ list k. IsFed bytes k pair.a) (λ list k. IsFed others k pair.b) QuietA QuietB (out pair.a bytes) (out pair.b others) given (is_ended pair.a) (is_ended pair.b) pair.matching (heard-fed bytes pair.a short.a) (heard-fed others pair.b short.b) s settled idle

-- ---- the other side

side-kept : (old new : Feeding) → kept_of_bytes new ≡ kept_of_bytes old → KeepsFed old new
side-kept old new is = record {
  plan = ap (λ (k : Kept). k.plan) is;
  reader = (let e : Some new.reader ≡ Some old.reader = ap (λ (k : Kept). k.reader) is in cc);
  ended = ap (λ (k : Kept). k.ended) is;
  memory = ap (λ (k : Kept). k.out_of_memory) is;
}

pub other-fed : (which : Which) (piece : List ℕ) (result : Result ℕ ListenFault) (old : FedPair) (a2 b2 a3 b3 : Feeding) (m3 : MatchingState) → FedOn which piece result old.a old.b a2 b2 → kept_of_bytes a3 ≡ kept_of_bytes a2 → kept_of_bytes b3 ≡ kept_of_bytes b2
    → KeepsOther which old (record { a = a3; b = b3; matching = m3 })
other-fed A piece result old a2 b2 a3 b3 m3 t ka kb = side-kept old.b b3 (kb ∙ ap kept_of_bytes t.1)
other-fed B piece result old a2 b2 a3 b3 m3 t ka kb = side-kept old.a a3 (ka ∙ ap kept_of_bytes t.1)

pub other-ended : (which : Which) (fault : Option ListenFault) (old : FedPair) (a2 b2 a3 b3 : Feeding) (m3 : MatchingState) → EndedOn which fault old.a old.b a2 b2 → kept_of_bytes a3 ≡ kept_of_bytes a2 → kept_of_bytes b3 ≡ kept_of_bytes b2
    → KeepsOther which old (record { a = a3; b = b3; matching = m3 })
other-ended A fault old a2 b2 a3 b3 m3 t ka kb = side-kept old.b b3 (kb ∙ ap kept_of_bytes t.1)
other-ended B fault old a2 b2 a3 b3 m3 t ka kb = side-kept old.a a3 (ka ∙ ap kept_of_bytes t.1)
