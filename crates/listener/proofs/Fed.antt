-- A listener that is fed bytes: its state after each piece of a capture, and after each item that it returns.
use Rattle.std.proofs.Common.{◌≡◌, ◌↔◌, ◌⊎◌, inl, inr, ℕ, zero, suc, ◌+◌, ◌-◌, ◌<◌, ◌≤◌, Bool, true, false, List, [], ◌∷◌, ◌++◌, length, take, Option, Some, None, IsSome, refl, sym, ap, ◌∙◌, subst, arith, append-nil, append_assoc, length-append}
use Rattle.std.specs.Prelude.{IfNone, IfSome, Result, Ok, Err, slice_get}
use Rattle.std.specs.Option.{option_to_list}
use Rattle.std.proofs.Math.Seq.{take-length}
use Rattle.std.proofs.lemmas.List.{length-take-le}
use mathlib.Core.List.{IsPrefix}
use Rattle.avtp_base.specs.declared.refusal.Refusal.{Refusal}
use Rattle.pcap_frames.specs.Capture.{Record, first_refusal, whole_records}
use Rattle.pcap_frames.specs.Reading.{GoesOn, HasRead, IsNext, Reading, held, held_by, nothing_read}
use Rattle.pcap_frames.proofs.Firsts.{records_first}
use Rattle.pcap_frames.proofs.Held.{records_are}
use Rattle.pcap_frames.proofs.Lent.{next_long}
use Rattle.sample_schedule.specs.declared.shown.Shown.{Shown}
use Rattle.sample_schedule.specs.declared.shown.Shown.TheVariants.{Present, Flag}
use Rattle.listener.specs.declared.heard.Counts.{Counts}
use Rattle.listener.specs.declared.heard.Heard.{Heard}
use Rattle.listener.specs.declared.plan.ListenPlan.{ListenPlan}
use Rattle.listener.specs.Feeding.{Feeding, Keeps, StandsFor, is_ended, out}
use Rattle.listener.specs.state.Feeding.{HasGiven, HasHeard}
use Rattle.listener.specs.Heard.{counts_of, heard_of, shown_of}
use Rattle.listener.specs.Listening.{ListenState, StandsFor as RecordsStandFor, is_closed, out as out_of}
use Rattle.listener.specs.state.Listening.{with_shown, without_shown}
use Rattle.listener.proofs.Due.{due_none}
use Rattle.listener.proofs.Listened.{counted_shown, out_ended, out_open, out_same, take_next, out_further, out_at_end}
use Rattle.sample_schedule.proofs.GivenLemmas.{prefix-more, prefix-all}

-- ---- what is returned

pub if_none : {X P : Type 0} (o : Option X) → IfNone o P → o ≡ None → P
if_none None p e = p
if_none (Some x) p e = absurd cc

pub accepted : (refusal : Option Refusal) (n : ℕ) → IfSome refusal (λ r. ◌≡◌ {A = Result ℕ Refusal} (Ok n) (Err r)) → refusal ≡ None
accepted None n e = refl
accepted (Some r) n e = absurd cc

pub other_quiet : {X Y : Type 0} (P Q : Type 0) (o : Option X) (p : Option Y) → o ≡ None → p ≡ None → (P ↔ (Q ⊎ IsSome o)) → (P ↔ (Q ⊎ IsSome p))
other_quiet P Q None None first second tells = (
  λ h. elim (tells.0 h) [
    | inl q ↦ inl q
    | inr some ↦ absurd cc
  ],
  λ either. elim either [
    | inl q ↦ tells.1 (inl q)
    | inr some ↦ absurd cc
  ],
)
other_quiet P Q None (Some y) first second tells = absurd cc
other_quiet P Q (Some x) p first second tells = absurd cc

at_most_one : {X : Type 0} (o : Option X) → length (option_to_list o) ≤ 1
at_most_one None = omega arith
at_most_one (Some x) = omega arith

some_long : {X : Type 0} (o : Option X) → IsSome o → 1 ≤ length (option_to_list o)
some_long None is = absurd cc
some_long (Some x) is = omega arith

nothing_more : (xs : List Record) (o : Option Record) → xs ++ option_to_list o ≡ xs → o ≡ None
nothing_more xs None e = refl
nothing_more xs (Some r) e = absurd (omega (arith, ap length e, length-append xs (r ∷ [])))

-- ---- what was read

pub all_read : (r : Reading) (bytes : List ℕ) (records : List Record) → HasRead r bytes records → held r ≡ None → records ≡ whole_records bytes
all_read r bytes records read free =
    sym (append-nil records) ∙ (ap (λ (o : Option Record). records ++ option_to_list o) (sym free) ∙ records_are r bytes records read)

pub none_held : (r : Reading) (bytes : List ℕ) → HasRead r bytes (whole_records bytes) → held r ≡ None
none_held r bytes read = nothing_more (whole_records bytes) (held r) (records_are r bytes (whole_records bytes) read)

pub refused_free : (r : Reading) (refusal : Refusal) → r.refusal ≡ Some refusal → held r ≡ None
refused_free r refusal e = ap (λ (o : Option Refusal). held_by o r.style r.start r.part) e

-- a record that was read took at least one byte of the piece
pub held_few : (old new : Reading) (bytes piece : List ℕ) (n : ℕ) → HasRead old bytes (whole_records bytes) → GoesOn old (take n piece) new → length (option_to_list (held new)) ≤ n
held_few old new bytes piece zero read goes =
    let same : bytes ++ [] ≡ bytes = append-nil bytes in
    let none = none_held new bytes (subst (λ (l : List ℕ). HasRead new l (whole_records bytes)) same (goes bytes (whole_records bytes) read)) in
    omega (arith, ap (λ (o : Option Record). length (option_to_list o)) none)
held_few old new bytes piece (suc n) read goes = omega (arith, at_most_one (held new))

pub held_some : (old new : Reading) (bytes piece : List ℕ) (n : ℕ) → HasRead old bytes (whole_records bytes) → GoesOn old (take n piece) new → IsSome (held new) → 0 < n
held_some old new bytes piece n read goes some = omega (arith, held_few old new bytes piece n read goes, some_long (held new) some)

-- ---- a piece

pub heard_here : (bytes : List ℕ) (given : ℕ) (fed : Feeding) → StandsFor bytes given fed → fed.out_of_memory ≡ false → fed.next ≡ None → HasHeard bytes given fed.reader fed.listener
heard_here bytes given fed st memory quiet =
    let count : given + length (option_to_list fed.next) ≡ given = omega (arith, ap (λ (o : Option Shown). length (option_to_list o)) quiet) in
    record {
      records = whole_records bytes;
      read = st.read memory;
      stands = subst (λ (n : ℕ). RecordsStandFor (whole_records bytes) n fed.listener) count st.stands;
    }

pub heard_on : (bytes more : List ℕ) (given : ℕ) (fed : Feeding) (new : Reading) → StandsFor bytes given fed → fed.out_of_memory ≡ false → fed.next ≡ None → GoesOn fed.reader more new
    → HasHeard (bytes ++ more) given new fed.listener
heard_on bytes more given fed new st memory quiet goes =
    let heard = heard_here bytes given fed st memory quiet in
    record { records = heard.records; read = goes bytes heard.records heard.read; stands = heard.stands }

pub lent_some : (reader : Reading) (piece : List ℕ) (size : ℕ) → size ≤ length piece → IsNext reader (take size piece) → 0 < size
lent_some reader piece size within next = omega (arith, next_long reader (take size piece) next, length-take-le size piece within)

pub lent_nothing : (size : ℕ) (piece : List ℕ) (next : Option Shown) → 0 < size → size ≤ length piece → next ≡ None → (size ≡ 0) ↔ ((length piece ≡ 0) ⊎ IsSome next)
lent_nothing size piece next some within quiet = (
  λ none. absurd (omega (arith, none, some)),
  λ either. elim either [
    | inl empty ↦ absurd (omega (arith, empty, some, within))
    | inr due ↦ absurd (none_due next quiet due)
  ],
) where
  none_due : (o : Option Shown) → o ≡ None → IsSome o → ⊥
  none_due None none due = absurd cc
  none_due (Some x) none due = absurd cc

-- the listener's state after a record was read and given to the listener
pub stands_fed : (bytes : List ℕ) (given : ℕ) (reader : Reading) (mid new : ListenState) (x : Option Shown) (b : Bool) → HasHeard bytes given reader mid → held reader ≡ None
    → ((records : List Record) (given : ℕ) → RecordsStandFor records given mid → x ≡ slice_get (out_of mid records) given)
    → ((records : List Record) (given : ℕ) → RecordsStandFor records given mid → RecordsStandFor records (given + length (option_to_list x)) new)
    → new.plan ≡ mid.plan → is_closed new ≡ is_closed mid
    → StandsFor bytes given (record { reader = reader; listener = new; next = x; out_of_memory = b })
stands_fed bytes given reader mid new x b heard free next stands plan closed =
    let whole = all_read reader bytes heard.records heard.read free in
    let st = subst (λ (l : List Record). RecordsStandFor l given mid) whole heard.stands in
    record {
      read = λ memory. subst (HasRead reader bytes) whole heard.read;
      stands = stands (whole_records bytes) given st;
      next = next (whole_records bytes) given st ∙ ap (λ (o : List Shown). slice_get o given) (sym (out_same mid new (whole_records bytes) plan closed));
    }

pub stands_refused : (bytes piece : List ℕ) (given : ℕ) (fed : Feeding) (new : Reading) (refusal : Refusal) → StandsFor bytes given fed → fed.out_of_memory ≡ false → GoesOn fed.reader piece new → new.refusal ≡ Some refusal
    → StandsFor (bytes ++ piece) given (record fed { reader = new })
stands_refused bytes piece given fed new refusal st memory goes refused =
    let read = goes bytes (whole_records bytes) (st.read memory) in
    let whole = all_read new (bytes ++ piece) (whole_records bytes) read (refused_free new refusal refused) in
    record {
      read = λ m. subst (HasRead new (bytes ++ piece)) whole read;
      stands = subst (λ (l : List Record). RecordsStandFor l (given + length (option_to_list fed.next)) fed.listener) whole st.stands;
      next = st.next ∙ ap (λ (l : List Record). slice_get (out_of fed.listener l) given) whole;
    }

-- ---- counts

uncounted : (counts : Counts) (x : Shown) → without_shown (with_shown counts x) x ≡ counts
uncounted counts (Present batch) = let back : counts.presented + 1 - 1 ≡ counts.presented = omega arith in ap (λ (n : ℕ). record counts { presented = n }) back
uncounted counts (Flag frame seq reason) = let back : counts.flagged + 1 - 1 ≡ counts.flagged = omega arith in ap (λ (n : ℕ). record counts { flagged = n }) back

pub counted_before : (plan : ListenPlan) (records : List Record) (list : List Shown) (given : ℕ) (x : Shown) → Some x ≡ slice_get list given
    → without_shown (counts_of plan records (take (given + 1) list)) x ≡ counts_of plan records (take given list)
counted_before plan records list given x is =
    ap (λ (l : List Shown). without_shown (counts_of plan records l) x) (take_next list given x (sym is))
    ∙ (ap (λ (c : Counts). without_shown c x) (sym (counted_shown plan records (take given list) x))
    ∙ uncounted (counts_of plan records (take given list)) x)

-- ---- the beginning

pub stands_unfed : (reader : Reading) (listener : ListenState) → HasRead reader [] [] → reader ≡ nothing_read → RecordsStandFor [] 0 listener → is_closed listener ≡ false
    → StandsFor [] 0 (record { reader = reader; listener = listener; next = None; out_of_memory = false })
stands_unfed reader listener read empty stands opened =
    let whole : [] ≡ whole_records [] = all_read reader [] [] read (ap held empty) in
    let nothing : out_of listener [] ≡ [] = out_open listener [] opened ∙ due_none listener.plan in
    record {
      read = λ memory. subst (HasRead reader []) whole read;
      stands = subst (λ (l : List Record). RecordsStandFor l 0 listener) whole stands;
      next = ap (λ (o : List Shown). slice_get o 0) (sym nothing) ∙ ap (λ (l : List Record). slice_get (out_of listener l) 0) whole;
    }

-- ---- a list of all returned items

out_kept : (bytes : List ℕ) (old new : Feeding) → Keeps old new → out new bytes ≡ out old bytes
out_kept bytes old new keeps = out_same old.listener new.listener (whole_records bytes) keeps.plan keeps.ended

pub keeps_all : (a b c : Feeding) → Keeps a b → Keeps b c → Keeps a c
keeps_all a b c first second = record {
  reader = second.reader ∙ first.reader;
  plan = second.plan ∙ first.plan;
  ended = second.ended ∙ first.ended;
  memory = second.memory ∙ first.memory;
}

pub given_more : (bytes : List ℕ) (list : List Shown) (x : Shown) (old new : Feeding) → HasGiven bytes list old → Some x ≡ slice_get (out old bytes) (length list) → StandsFor bytes (length list + 1) new → Keeps old new
    → HasGiven bytes (list ++ x ∷ []) new
given_more bytes list x old new has is stands keeps =
    let count : length list + 1 ≡ length (list ++ x ∷ []) = sym (length-append list (x ∷ [])) in
    record {
      stands = subst (λ (n : ℕ). StandsFor bytes n new) count stands;
      first = subst (IsPrefix (list ++ x ∷ [])) (sym (out_kept bytes old new keeps)) (prefix-more list (out old bytes) x has.first (sym is));
    }

pub given_still : (bytes : List ℕ) (list : List Shown) (old new : Feeding) → HasGiven bytes list old → StandsFor bytes (length list + 0) new → Keeps old new → HasGiven bytes list new
given_still bytes list old new has stands keeps =
    let count : length list + 0 ≡ length list = omega arith in
    record {
      stands = subst (λ (n : ℕ). StandsFor bytes n new) count stands;
      first = subst (IsPrefix list) (sym (out_kept bytes old new keeps)) has.first;
    }

pub given_all : (bytes : List ℕ) (list : List Shown) (old new : Feeding) → HasGiven bytes list old → None ≡ slice_get (out old bytes) (length list) → Keeps old new → list ≡ out new bytes
given_all bytes list old new has is keeps = prefix-all list (out old bytes) has.first (sym is) ∙ sym (out_kept bytes old new keeps)

out_on : (bytes more : List ℕ) (old new : Feeding) → HasRead old.reader bytes (whole_records bytes) → is_ended old ≡ false → is_ended new ≡ false → new.listener.plan ≡ old.listener.plan
    → IsPrefix (out old bytes) (out new (bytes ++ more))
out_on bytes more old new read opened still plan =
    let firsts = records_first old.reader bytes more (whole_records bytes) read in
    subst (λ (l : List Record). IsPrefix (out old bytes) (out_of new.listener l)) (sym firsts.1) (out_further old.listener new.listener (whole_records bytes) firsts.0 opened still plan)

pub prefix_twice : (xs ys zs : List Shown) → IsPrefix xs ys → IsPrefix ys zs → IsPrefix xs zs
prefix_twice xs ys zs first second = (first.0 ++ second.0, sym (append_assoc xs first.0 second.0) ∙ (ap (λ (l : List Shown). l ++ second.0) first.1 ∙ second.1))

-- the list of returned items stays valid when more bytes are fed
pub given_on : (bytes more : List ℕ) (list : List Shown) (old new : Feeding) → HasGiven bytes list old → old.out_of_memory ≡ false → is_ended old ≡ false → is_ended new ≡ false → new.listener.plan ≡ old.listener.plan
    → StandsFor (bytes ++ more) (length list) new → HasGiven (bytes ++ more) list new
given_on bytes more list old new has memory opened still plan stands = record {
  stands = stands;
  first = prefix_twice list (out old bytes) (out new (bytes ++ more)) has.first (out_on bytes more old new (has.stands.read memory) opened still plan);
}

-- the list of returned items stays valid when the capture ends
pub given_ended : (bytes : List ℕ) (list : List Shown) (old new : Feeding) → HasGiven bytes list old → is_ended old ≡ false → is_ended new ≡ true → new.listener.plan ≡ old.listener.plan
    → StandsFor bytes (length list) new → HasGiven bytes list new
given_ended bytes list old new has opened ended plan stands =
    let first = out_at_end old.listener new.listener (whole_records bytes) opened ended plan in
    record { stands = stands; first = prefix_twice list (out old bytes) (out new bytes) has.first first }

pub given_none : (list : List Shown) (fed : Feeding) → list ≡ [] → StandsFor [] 0 fed → HasGiven [] list fed
given_none list fed empty stands = record {
  stands = subst (λ (l : List Shown). StandsFor [] (length l) fed) (sym empty) stands;
  first = subst (λ (l : List Shown). IsPrefix l (out fed [])) (sym empty) (out fed [], refl);
}

pub heard_whole : (plan : ListenPlan) (bytes : List ℕ) (list : List Shown) (fed : Feeding) (counts : Counts) (refused : Option Refusal) → fed.listener.plan ≡ plan → is_ended fed ≡ true → list ≡ out fed bytes
    → counts ≡ counts_of fed.listener.plan (whole_records bytes) (take (length list) (out fed bytes)) → refused ≡ first_refusal bytes
    → record { shown = list; counts = counts; refused = refused } ≡ heard_of plan bytes
heard_whole plan bytes list fed counts refused same ended all counted first =
    let records = whole_records bytes in
    let whole : out fed bytes ≡ shown_of plan records = out_ended fed.listener records ended ∙ ap (λ (p : ListenPlan). shown_of p records) same in
    let shown = all ∙ whole in
    let numbers : counts ≡ counts_of plan records (shown_of plan records) =
    counted ∙ (ap (λ (p : ListenPlan). counts_of p records (take (length list) (out fed bytes))) same
    ∙ (ap (λ (l : List Shown). counts_of plan records (take (length l) (out fed bytes))) all
    ∙ (ap (counts_of plan records) (take-length (out fed bytes)) ∙ ap (counts_of plan records) whole))) in
    ap (λ (l : List Shown). heard_with l counts refused) shown
    ∙ (ap (λ (k : Counts). heard_with (shown_of plan records) k refused) numbers
    ∙ ap (λ (o : Option Refusal). heard_with (shown_of plan records) (counts_of plan records (shown_of plan records)) o) first)
  where
    heard_with : List Shown → Counts → Option Refusal → Heard
    heard_with shown counts refused = record { shown = shown; counts = counts; refused = refused }

pub stands_quiet : (bytes : List ℕ) (given : ℕ) (fed : Feeding) → StandsFor bytes given fed → fed.next ≡ None → RecordsStandFor (whole_records bytes) given fed.listener
stands_quiet bytes given fed st quiet =
    let same : given + length (option_to_list fed.next) ≡ given = ap (λ (o : Option Shown). given + length (option_to_list o)) quiet ∙ none given in
    subst (λ (n : ℕ). RecordsStandFor (whole_records bytes) n fed.listener) same st.stands
  where
    none : (n : ℕ) → n + 0 ≡ n
    none n = omega arith
