-- If the packets of an H.264 unit came in order at the beginning of a capture, the unit must be presented.
use Rattle.std.proofs.Common.{◌≡◌, ◌⊎◌, ℕ, zero, suc, ◌+◌, ◌%◌, ◌<◌, ◌≤◌, Bool, true, false, ℤ, pos, ◌≤ℤ◌, List, [], ◌∷◌, ◌++◌, All, drop, length, map, Option, Some, None, refl, sym, ap, ◌∙◌, subst, inl, inr, arith, append-nil, append_assoc, eq-eqb, length-append}
use Rattle.std.specs.Prelude.{◌-◌, ◌==◌, nat_lt, not, if◌then◌else◌, slice_get, Contains, IfSome, option_map}
use Rattle.std.specs.List.{flat_map}
use Rattle.std.proofs.lemmas.Bool.{cases_lt}
use Rattle.std.proofs.lemmas.Bool.Decides.{nat_tests}
use Rattle.std.proofs.lemmas.Grind.{flat_map-append}
use Rattle.std.proofs.lemmas.Int.{ints}
use Rattle.std.proofs.lemmas.List.{length-map, map-append}
use Rattle.std.proofs.Math.Seq.{drop-append_seam}
use Rattle.std.proofs.lemmas.List.Elements.{All-append, All-cons, All-filter, All-head, All-nil, All-tail, Contains-append_left, Contains-append_right, Contains-push}
use Rattle.time_unfold.proofs.Found.{All-back}
use Rattle.avtp_base.specs.declared.refusal.Refusal.{Refusal}
use Rattle.clock_track.specs.Rows.{clock_spot}
use Rattle.crf_format.specs.Crf.{crf_subtype}
use Rattle.cvf_format.specs.declared.cvf.NalPart.{NalPart}
use Rattle.cvf_format.specs.declared.cvf.NalPart.TheVariants.{Single as SingleNal, First as FirstNal, Middle as MiddleNal, Last as LastNal}
use Rattle.cvf_format.specs.declared.piece.Piece.{Piece}
use Rattle.cvf_format.specs.declared.piece.Piece.TheVariants.{Whole, Held}
use Rattle.cvf_format.specs.Cvf.{Cvf, cvf_of, cvf_refusal, cvf_subtype, plain_cvf}
use Rattle.cvf_format.specs.WholeOrBroken.{Event, Fragment, are_linked, before_last, begins, completes, given_up, goes_on, held, is_complete, is_joined, is_stretch, is_within, last_stretch, longest_unit, most_fragments, packet, piece, piece_of, reason, sequence_numbers, stamps, unit_of, whole_unit}
use Rattle.cvf_format.proofs.SettledLemmas.{one_stretch}
use Rattle.cvf_format.proofs.StretchLemmas.{complete_more, complete_one}
use Rattle.pcap_frames.specs.Capture.{Record}
use Rattle.sample_schedule.specs.declared.accepted.Accepted.{Accepted}
use Rattle.stream_journal.specs.Conforming.{Ends, IsVideo}
use Rattle.stream_journal.specs.Journal.{IsAtBy, Journal, Kind, H264, Part, Single, First, Middle, Last}
use Rattle.packet_journal.specs.Deliveries.{Delivery}
use Rattle.packet_journal.specs.Delivered.{IsCopyOf}
use Rattle.packet_journal.specs.Packets.{IsConforming, PacketJournal, part_of}
use Rattle.packet_journal.specs.Units.{AreUnit, IsContentBy, first_byte, unit_bytes}
use Rattle.listener.specs.declared.plan.ListenPlan.{ListenPlan}
use Rattle.listener.specs.Heard.{deliveries_of, entries_in, items_in, schedule_plan}
use Rattle.listener.specs.Items.{MadeItem, events_to, flagged, given_after, given_by, given_up_by, items_of, items_so_far, left_at_end, lost_for, made_of_one, own_by, piece_by, unit_by, video_by}
use Rattle.listener.specs.Known.{IsKnownUnit}
use Rattle.time_unfold.specs.Time.{unfolded}
use Rattle.listener.proofs.KnownItems.{unit_item_known}
use Rattle.listener.specs.Laws.{AreCopiesFrom, AreOfUnit, HearsTalker, IsMadeOf, IsOfPacket, IsWelcome, by_clock, time_of}
use Rattle.listener.specs.Units.{event_of, events, flaw_in, flaw_of, flaw_or, fragment_in, in_stream, last_ones}
use Rattle.listener.proofs.ItemKinds.{all_before}
use Rattle.listener.proofs.Made.{none_last, so_far_more}
use Rattle.listener.proofs.Shown.{entry_at}
use Rattle.listener.proofs.TrueItems.{Shows, all_shown}
use Rattle.listener.proofs.TrueUnits.{AreFragmentsFrom, IsVideoCopy, copies_all, end_stamped, fragments_from, unit_is, video, video_copy}
use Rattle.listener.proofs.Welcome.{both_early, first_time, has_room, nothing}
use Rattle.cvf_format.proofs.RuleLemmas.{all_are, equal_so}
use Rattle.cvf_format.proofs.AssemblyLemmas.{within_so}

-- ---- one copy

abbrev fragment_at : Delivery → Fragment
fragment_at d = fragment_in d (cvf_of d.packet)

abbrev fragments_at : List Delivery → List Fragment
fragments_at ds = map fragment_at ds

no_flaw_by : (v : Cvf) (b : Bool) → v.header.tu ≡ false → completes v.part ≡ b → (b ≡ true → v.header.tv ≡ true) → flaw_in v ≡ None
no_flaw_by v true certain e stamped = rw (certain, e, stamped refl) refl
no_flaw_by v false certain e stamped = rw (certain, e) refl

part_ends : (part : NalPart) → completes part ≡ true → Ends (part_of part)
part_ends SingleNal e = inl refl
part_ends FirstNal e = absurd cc
part_ends MiddleNal e = absurd cc
part_ends LastNal e = inr refl

-- The delivery is of H.264 and has no flaw.
record IsGood (d : Delivery) : Type 0 where
  streamed : (d.subtype == crf_subtype) ≡ false
  is_video : (d.subtype == cvf_subtype) ≡ true
  flawless : flaw_of d ≡ None
  event : event_of d ≡ packet (fragment_at d)

good_flaw : (d : Delivery) (v : Cvf) → cvf_refusal d.packet ≡ None → plain_cvf v ≡ cvf_of d.packet → flaw_in (plain_cvf v) ≡ None → flaw_of d ≡ None
good_flaw d v accepted same none = ap (λ (o : Option Refusal). flaw_or o (cvf_of d.packet)) accepted ∙ (ap flaw_in (sym same) ∙ none)

good_event : (d : Delivery) → (d.subtype == cvf_subtype) ≡ true → flaw_of d ≡ None → event_of d ≡ packet (fragment_at d)
good_event d is_video flawless = rw (is_video, flawless) refl

good_copy : (p : PacketJournal) (part : ℕ → Part) (lead n : ℕ) (d : Delivery) → IsVideo p.times part → IsCopyOf p lead n d → IsVideoCopy p part n d → IsGood d
good_copy p part lead n d is copy c =
    let header = c.packet.header in
    let ends : completes c.view.part ≡ true → Ends (part n) = λ e. subst Ends c.packet.part_is (part_ends c.view.part e) in
    let stamped : completes c.view.part ≡ true → c.view.header.tv ≡ true = λ e. header.stamped ∙ end_stamped p.times part n is copy.delivered.known (ends e) in
    let flawless = good_flaw d c.view c.accepted c.same (no_flaw_by (plain_cvf c.view) (completes c.view.part) header.certain refl stamped) in
    let is_video : (d.subtype == cvf_subtype) ≡ true = rw c.subtype refl in
    record { streamed = rw c.subtype refl; is_video = is_video; flawless = flawless; event = good_event d is_video flawless }

-- ---- copies of consecutive packets

all_good : (shift : ℤ) (p : PacketJournal) (part : ℕ → Part) (lead n : ℕ) (xs : List Delivery) → IsConforming shift p → p.times.kind ≡ H264 part → AreCopiesFrom p lead n xs → All Shows xs → All IsGood xs
all_good shift p part lead n [] is kind copies shows = All-nil IsGood
all_good shift p part lead n (x ∷ xs) is kind copies shows =
    All-cons IsGood x xs (good_copy p part lead n x (video p part kind is.times) copies.0 (video_copy shift p part lead n x is kind copies.0 (All-head Shows x xs shows)))
    (all_good shift p part lead (suc n) xs is kind copies.1 (All-tail Shows x xs shows))

all_streamed : (xs : List Delivery) → All IsGood xs → in_stream xs ≡ xs
all_streamed [] good = refl
all_streamed (x ∷ xs) good =
    let here = (All-head IsGood x xs good).streamed in
    let rest = all_streamed xs (All-tail IsGood x xs good) in
    rw here (ap (λ (l : List Delivery). x ∷ l) rest)

all_packets : (xs : List Delivery) → All IsGood xs → map event_of xs ≡ map packet (fragments_at xs)
all_packets [] good = refl
all_packets (x ∷ xs) good = rw ((All-head IsGood x xs good).event, all_packets xs (All-tail IsGood x xs good)) refl

-- ---- the parts of a unit

abbrev IsInside : Part → Type 0
IsInside part = (part ≡ First) ⊎ (part ≡ Middle)

part_before : (part : ℕ → Part) (from n k : ℕ) → AreUnit part from n → from ≤ k → k < n → IsInside (part k)
part_before part from n k (inl a) low high = absurd (let same = a.0 in omega arith)
part_before part from n k (inr a) low high = elim (cases_lt from k) [
  | inl inside ↦ inr (a.middle k inside high)
  | inr past ↦ let same : from ≡ k = omega arith in inl (subst (λ (i : ℕ). part i ≡ First) same a.first)
]

part_after : (part : ℕ → Part) (from n k : ℕ) → AreUnit part from n → from < k → k ≤ n → (part k ≡ Middle) ⊎ (part k ≡ Last)
part_after part from n k (inl a) low high = absurd (let same = a.0 in omega arith)
part_after part from n k (inr a) low high = elim (cases_lt k n) [
  | inl inside ↦ inl (a.middle k low inside)
  | inr past ↦ let same : n ≡ k = omega arith in inr (subst (λ (i : ℕ). part i ≡ Last) same a.last)
]

first_part : (part : ℕ → Part) (from n : ℕ) → AreUnit part from n → (part from ≡ Single) ⊎ (part from ≡ First)
first_part part from n (inl a) = inl (subst (λ (i : ℕ). part i ≡ Single) (sym a.0) a.1)
first_part part from n (inr a) = inr a.first

begins_so : (part : NalPart) (q : Part) → part_of part ≡ q → (q ≡ Single) ⊎ (q ≡ First) → begins part ≡ true
begins_so SingleNal q e h = refl
begins_so FirstNal q e h = refl
begins_so MiddleNal q e (inl h) = absurd (let f = e ∙ h in cc)
begins_so MiddleNal q e (inr h) = absurd (let f = e ∙ h in cc)
begins_so LastNal q e (inl h) = absurd (let f = e ∙ h in cc)
begins_so LastNal q e (inr h) = absurd (let f = e ∙ h in cc)

not_complete : (part : NalPart) (q : Part) → part_of part ≡ q → IsInside q → completes part ≡ false
not_complete SingleNal q e (inl h) = absurd (let f = e ∙ h in cc)
not_complete SingleNal q e (inr h) = absurd (let f = e ∙ h in cc)
not_complete FirstNal q e h = refl
not_complete MiddleNal q e h = refl
not_complete LastNal q e (inl h) = absurd (let f = e ∙ h in cc)
not_complete LastNal q e (inr h) = absurd (let f = e ∙ h in cc)

goes_so : (part : NalPart) (q : Part) → part_of part ≡ q → (q ≡ Middle) ⊎ (q ≡ Last) → goes_on part ≡ true
goes_so SingleNal q e (inl h) = absurd (let f = e ∙ h in cc)
goes_so SingleNal q e (inr h) = absurd (let f = e ∙ h in cc)
goes_so FirstNal q e (inl h) = absurd (let f = e ∙ h in cc)
goes_so FirstNal q e (inr h) = absurd (let f = e ∙ h in cc)
goes_so MiddleNal q e h = refl
goes_so LastNal q e h = refl

complete_so : (part : NalPart) (q : Part) → part_of part ≡ q → Ends q → completes part ≡ true
complete_so SingleNal q e h = refl
complete_so FirstNal q e (inl h) = absurd (let f = e ∙ h in cc)
complete_so FirstNal q e (inr h) = absurd (let f = e ∙ h in cc)
complete_so MiddleNal q e (inl h) = absurd (let f = e ∙ h in cc)
complete_so MiddleNal q e (inr h) = absurd (let f = e ∙ h in cc)
complete_so LastNal q e h = refl

inside_ends : (part : Part) → IsInside part → Ends part → ⊥
inside_ends part (inl e) (inl f) = absurd (let g = sym e ∙ f in cc)
inside_ends part (inl e) (inr f) = absurd (let g = sym e ∙ f in cc)
inside_ends part (inr e) (inl f) = absurd (let g = sym e ∙ f in cc)
inside_ends part (inr e) (inr f) = absurd (let g = sym e ∙ f in cc)

same_due : (j : Journal) (part : ℕ → Part) (from k left : ℕ) → IsVideo j part → AreUnit part from (k + left) → from ≤ k → k + left < j.packets → j.due k ≡ j.due (k + left)
same_due j part from k zero is unit low known = let same : k ≡ k + zero = omega arith in ap j.due same
same_due j part from k (suc left) is unit low known =
    let next : suc k + left ≡ k + suc left = omega arith in
    let inside = part_before part from (k + suc left) k unit low (omega arith) in
    let here = is.unit k (omega (arith, known)) (inside_ends (part k) inside) in
    let rest = same_due j part from (suc k) left is (subst (λ (i : ℕ). AreUnit part from i) (sym next) unit) (omega (arith, low)) (omega (arith, known)) in
    sym here ∙ (rest ∙ ap j.due next)

-- ---- the stretch of a unit's fragments

abbrev HasInstant : ℤ → Fragment → Type 0
HasInstant t f = IfSome f.instant (λ stamp. stamp ≡ t)

-- the packets from `from` to `n` all have the same first byte
abbrev SameByte : PacketJournal → ℕ → ℕ → Type 0
SameByte p from n = (k : ℕ) → from ≤ k → k ≤ n → first_byte (p.packet k) ≡ first_byte (p.packet from)

one_byte : (a b : ℕ) → a ∷ [] ≡ b ∷ [] → a ≡ b
one_byte a b e = cc

next_seq : (k : ℕ) → suc k % 256 ≡ (k % 256 + 1) % 256
next_seq k = omega arith

linked : (p : PacketJournal) (part : ℕ → Part) (from n k : ℕ) (f : Fragment) (fs : List Fragment) → AreUnit part from n → SameByte p from n → from ≤ k → k + length fs ≤ n → AreFragmentsFrom p part k (f ∷ fs) → are_linked f fs ≡ true
linked p part from n k f [] unit byte low high all = refl
linked p part from n k f (g ∷ fs) unit byte low high all =
    let here = all.0 in
    let next = all.1.0 in
    let open_one = not_complete f.part (part k) here.part_is (part_before part from n k unit low (omega (arith, high))) in
    let on = goes_so g.part (part (suc k)) next.part_is (part_after part from n (suc k) unit (omega (arith, low)) (omega (arith, high))) in
    let nal : g.nal ≡ f.nal = one_byte g.nal f.nal (sym next.first ∙ (byte (suc k) (omega (arith, low)) (omega (arith, high)) ∙ (sym (byte k low (omega (arith, high))) ∙ here.first))) in
    let seq : g.mark.seq ≡ (f.mark.seq + 1) % sequence_numbers = next.seq ∙ (next_seq k ∙ ap (λ (i : ℕ). (i + 1) % 256) (sym here.seq)) in
    rw (open_one, on, eq-eqb g.nal f.nal nal, eq-eqb g.mark.seq ((f.mark.seq + 1) % sequence_numbers) seq) (linked p part from n (suc k) g fs unit byte (omega (arith, low)) (omega (arith, high)) all.1)

stamp_one : (j : Journal) (part : ℕ → Part) (k : ℕ) (due : ℕ) (r : Option ℕ) → IsVideo j part → k < j.packets → j.stamp k ≡ r → j.due k ≡ due → IfSome (option_map (λ (x : ℕ). pos x) r) (λ stamp. stamp ≡ pos due)
stamp_one j part k due None is known e same = tt
stamp_one j part k due (Some x) is known e same = ap (λ (i : ℕ). pos i) (is.one_instant k x known e ∙ same)

same_instants : (p : PacketJournal) (part : ℕ → Part) (from n k : ℕ) (fs : List Fragment) → IsVideo p.times part → AreUnit part from n → n < p.times.packets → from ≤ k → k + length fs ≤ suc n → AreFragmentsFrom p part k fs → All (HasInstant (pos (p.times.due n))) fs
same_instants p part from n k [] is unit known low high all = All-nil (HasInstant (pos (p.times.due n)))
same_instants p part from n k (f ∷ fs) is unit known low high all =
    let to : k + (n - k) ≡ n = omega (arith, high) in
    let due : p.times.due k ≡ p.times.due n = same_due p.times part from k (n - k) is (subst (λ (i : ℕ). AreUnit part from i) (sym to) unit) low (subst (λ (i : ℕ). i < p.times.packets) (sym to) known) ∙ ap p.times.due to in
    All-cons (HasInstant (pos (p.times.due n))) f fs
    (subst (λ (o : Option ℤ). IfSome o (λ stamp. stamp ≡ pos (p.times.due n))) (sym all.0.instant) (stamp_one p.times part k (p.times.due n) (p.times.stamp k) is all.0.known refl due))
    (same_instants p part from n (suc k) fs is unit known (omega (arith, low)) (omega (arith, high)) all.1)

stretch : (p : PacketJournal) (part : ℕ → Part) (from n : ℕ) (f : Fragment) (fs : List Fragment) → IsVideo p.times part → AreUnit part from n → SameByte p from n → n < p.times.packets → from + length fs ≤ n → AreFragmentsFrom p part from (f ∷ fs) → is_stretch (f ∷ fs) ≡ true
unfolding is_stretch
stretch p part from n f fs is unit byte known high all =
    let first = begins_so f.part (part from) all.0.part_is (first_part part from n unit) in
    let links = linked p part from n from f fs unit byte (omega arith) high all in
    let equal = equal_so (pos (p.times.due n)) (stamps (f ∷ fs)) (all_are (pos (p.times.due n)) (f ∷ fs) (same_instants p part from n from (f ∷ fs) is unit known (omega arith) (omega (arith, high)) all)) in
    rw (first, links, equal) refl

-- ---- the limits

shorter : (f : Fragment) (fs gs : List Fragment) → length (unit_of (f ∷ fs)) ≤ length (unit_of (f ∷ (fs ++ gs)))
shorter f fs gs =
    let all = ap length (flat_map-append (λ (h : Fragment). h.body) (f ∷ fs) gs) in
    omega (arith, all, length-append (flat_map (λ (h : Fragment). h.body) (f ∷ fs)) (flat_map (λ (h : Fragment). h.body) gs))

-- ---- the items of a delivery

-- The deliveries are the beginning of a unit: their fragments make one stretch, which is within the limits.
record Begins (before : List Delivery) (d : Delivery) : Type 0 where
  good : IsGood d
  others : All IsGood before
  stretches : is_stretch (fragments_at (before ++ d ∷ [])) ≡ true
  within : is_within (fragments_at (before ++ d ∷ [])) ≡ true

abbrev run_at : List Delivery → Delivery → List Fragment
run_at before d = fragments_at (before ++ d ∷ [])

more_run : (before : List Delivery) (d : Delivery) → run_at before d ≡ fragments_at before ++ fragment_at d ∷ []
more_run before d = map-append fragment_at before (d ∷ [])

events_are : (before : List Delivery) (d : Delivery) → Begins before d → events_to before d ≡ map packet (run_at before d)
events_are before d b =
    let stream = all_streamed before b.others in
    let front : events before ≡ map packet (fragments_at before) = ap (map event_of) stream ∙ all_packets before b.others in
    ap (λ (es : List Event). es ++ event_of d ∷ []) front
    ∙ (ap (λ (e : Event). map packet (fragments_at before) ++ e ∷ []) b.good.event
    ∙ (sym (map-append packet (fragments_at before) (fragment_at d ∷ []))
    ∙ ap (map packet) (sym (more_run before d))))

run_is : (before : List Delivery) (d : Delivery) → Begins before d → last_stretch (events_to before d) ≡ run_at before d
run_is before d b = one_stretch (events_to before d) (run_at before d) [] (events_are before d b) b.stretches

last_empty : {X : Type 0} (n : ℕ) → last_ones {X = X} n [] ≡ []
last_empty {X} n = none (0 - n)
  where
    none : (k : ℕ) → drop {A = X} k [] ≡ []
    none zero = refl
    none (suc k) = refl

joined : (run : List Fragment) → 1 < length run → is_within run ≡ true → is_joined run ≡ true
joined run some within = let test : nat_lt 1 (length run) ≡ true = grind (arith, nat_tests) in rw (test, within) refl

none_given : (before : List Delivery) (d : Delivery) → Begins before d → last_ones (length (given_up (events_to before d))) (in_stream before) ≡ []
none_given [] d b = last_empty {X = Delivery} (length (given_up (events_to [] d)))
none_given (x ∷ before) d b =
    let run = run_is (x ∷ before) d b in
    let long : 1 < length (run_at (x ∷ before) d) = omega (arith, length-map (x ∷ (before ++ d ∷ [])) fragment_at, length-append before (d ∷ [])) in
    let on : is_joined (last_stretch (events_to (x ∷ before) d)) ≡ true = ap is_joined run ∙ joined (run_at (x ∷ before) d) long b.within in
    let none : given_up (events_to (x ∷ before) d) ≡ [] = ap (λ (t : Bool). if t then [] else held (before_last (events_to (x ∷ before) d))) on in
    ap (λ (l : List Fragment). last_ones (length l) (in_stream (x ∷ before))) none ∙ none_last (in_stream (x ∷ before))

gives_own : (before : List Delivery) (d : Delivery) (pk : Piece) → Begins before d → piece (events_to before d) ≡ pk → given_by before d ≡ piece_by before d pk
gives_own before d pk b is =
    let none : given_up_by before d ≡ [] = ap (map (flagged (lost_for (reason (events_to before d))))) (none_given before d b) in
    ap (λ (t : Bool). if t then made_of_one d ∷ [] else given_up_by before d ++ own_by before d) b.good.streamed
    ∙ (ap (λ (l : List MadeItem). l ++ own_by before d) none
    ∙ (ap (λ (t : Bool). if t then video_by before d (flaw_of d) else made_of_one d ∷ []) b.good.is_video
    ∙ (ap (video_by before d) b.good.flawless
    ∙ ap (piece_by before d) is)))

abbrev settled_by : Bool → Piece
settled_by complete = if complete then Whole else Held

piece_so : (run : List Fragment) (b : Bool) → 1 ≤ length run → is_within run ≡ true → is_complete run ≡ b → piece_of run ≡ settled_by b
piece_so [] b some within complete = absurd (omega arith)
piece_so (f ∷ fs) b some within complete = rw (within, complete) refl

complete_last : (fs : List Fragment) (g : Fragment) → is_complete (fs ++ g ∷ []) ≡ completes g.part
complete_last [] g = complete_one g
complete_last (f ∷ fs) g = complete_more f fs g

piece_is : (before : List Delivery) (d : Delivery) (complete : Bool) → Begins before d → completes (fragment_at d).part ≡ complete → piece (events_to before d) ≡ settled_by complete
piece_is before d complete b e =
    let some : 1 ≤ length (run_at before d) = omega (arith, length-map (before ++ d ∷ []) fragment_at, length-append before (d ∷ [])) in
    let last : is_complete (run_at before d) ≡ complete = ap is_complete (more_run before d) ∙ (complete_last (fragments_at before) (fragment_at d) ∙ e) in
    ap piece_of (run_is before d b) ∙ piece_so (run_at before d) complete some b.within last

-- ---- the deliveries of one unit

-- The deliveries have the fragments of all packets of one unit, in order and within the limits.
record IsBegin (p : PacketJournal) (part : ℕ → Part) (lead from n : ℕ) (all : List Delivery) : Type 0 where
  good : All IsGood all
  fragments : AreFragmentsFrom p part from (fragments_at all)
  unit : AreUnit part from n
  byte : SameByte p from n
  is : IsVideo p.times part
  known : n < p.times.packets
  long : from + length all ≡ suc n
  size : length (unit_of (fragments_at all)) ≤ longest_unit
  few : length all ≤ most_fragments

fragments_front : (p : PacketJournal) (part : ℕ → Part) (k : ℕ) (fs gs : List Fragment) → AreFragmentsFrom p part k (fs ++ gs) → AreFragmentsFrom p part k fs
fragments_front p part k [] gs all = tt
fragments_front p part k (f ∷ fs) gs all = (all.0, fragments_front p part (suc k) fs gs all.1)

fragments_last : (p : PacketJournal) (part : ℕ → Part) (k : ℕ) (fs : List Fragment) (g : Fragment) → AreFragmentsFrom p part k (fs ++ g ∷ []) → part_of g.part ≡ part (k + length fs)
fragments_last p part k [] g all = let same : k ≡ k + 0 = omega arith in all.0.part_is ∙ ap part same
fragments_last p part k (f ∷ fs) g all = let same : suc k + length fs ≡ k + suc (length fs) = omega arith in fragments_last p part (suc k) fs g all.1 ∙ ap part same

run_test : (p : PacketJournal) (part : ℕ → Part) (from n : ℕ) (run : List Fragment) → IsVideo p.times part → AreUnit part from n → SameByte p from n → n < p.times.packets → 1 ≤ length run → from + length run ≤ suc n → AreFragmentsFrom p part from run → is_stretch run ≡ true
run_test p part from n [] is unit byte known some high all = absurd (omega arith)
run_test p part from n (f ∷ fs) is unit byte known some high all = stretch p part from n f fs is unit byte known (omega (arith, high)) all

run_within : (run rest : List Fragment) → 1 ≤ length run → length (unit_of (run ++ rest)) ≤ longest_unit → length (run ++ rest) ≤ most_fragments → is_within run ≡ true
run_within [] rest some size few = absurd (omega arith)
run_within (f ∷ fs) rest some size few = within_so (f ∷ fs) (omega (arith, shorter f fs rest, size)) (omega (arith, length-append fs rest, few))

begin_at : (p : PacketJournal) (part : ℕ → Part) (lead from n : ℕ) (all before : List Delivery) (d : Delivery) (rest : List Delivery) → IsBegin p part lead from n all → all ≡ (before ++ d ∷ []) ++ rest → Begins before d
begin_at p part lead from n all before d rest b same =
    let good = subst (λ (l : List Delivery). All IsGood l) same b.good in
    let front = all_before IsGood (before ++ d ∷ []) rest good in
    let split : fragments_at all ≡ run_at before d ++ fragments_at rest = ap fragments_at same ∙ map-append fragment_at (before ++ d ∷ []) rest in
    let some : 1 ≤ length (run_at before d) = omega (arith, length-map (before ++ d ∷ []) fragment_at, length-append before (d ∷ [])) in
    let count : length all ≡ length (run_at before d) + length (fragments_at rest) = sym (length-map all fragment_at) ∙ (ap length split ∙ length-append (run_at before d) (fragments_at rest)) in
    let here = fragments_front p part from (run_at before d) (fragments_at rest) (subst (λ (l : List Fragment). AreFragmentsFrom p part from l) split b.fragments) in
    record {
      good = at_end before d front;
      others = all_before IsGood before (d ∷ []) front;
      stretches = run_test p part from n (run_at before d) b.is b.unit b.byte b.known some (omega (arith, count, b.long)) here;
      within = run_within (run_at before d) (fragments_at rest) some (subst (λ (l : List Fragment). length (unit_of l) ≤ longest_unit) split b.size) (omega (arith, length-append (run_at before d) (fragments_at rest), count, b.few));
    }
  where
    at_end : (xs : List Delivery) (x : Delivery) → All IsGood (xs ++ x ∷ []) → IsGood x
    at_end [] x all = All-head IsGood x [] all
    at_end (y ∷ xs) x all = at_end xs x (All-tail IsGood y (xs ++ x ∷ []) all)

part_at : (p : PacketJournal) (part : ℕ → Part) (lead from n : ℕ) (all before : List Delivery) (d : Delivery) (rest : List Delivery) → IsBegin p part lead from n all → all ≡ (before ++ d ∷ []) ++ rest → part_of (fragment_at d).part ≡ part (from + length before)
part_at p part lead from n all before d rest b same =
    let split : fragments_at all ≡ run_at before d ++ fragments_at rest = ap fragments_at same ∙ map-append fragment_at (before ++ d ∷ []) rest in
    let here = fragments_front p part from (run_at before d) (fragments_at rest) (subst (λ (l : List Fragment). AreFragmentsFrom p part from l) split b.fragments) in
    fragments_last p part from (fragments_at before) (fragment_at d) (subst (λ (l : List Fragment). AreFragmentsFrom p part from l) (more_run before d) here)
    ∙ ap (λ (k : ℕ). part (from + k)) (length-map before fragment_at)

waits : (p : PacketJournal) (part : ℕ → Part) (lead from n : ℕ) (all before : List Delivery) (d x : Delivery) (rest : List Delivery) → IsBegin p part lead from n all → all ≡ (before ++ d ∷ []) ++ x ∷ rest → given_by before d ≡ []
waits p part lead from n all before d x rest b same =
    let begin = begin_at p part lead from n all before d (x ∷ rest) b same in
    let count = ap length same ∙ (length-append (before ++ d ∷ []) (x ∷ rest) ∙ ap (λ (k : ℕ). k + suc (length rest)) (length-append before (d ∷ []))) in
    let inside = part_before part from n (from + length before) b.unit (omega arith) (omega (arith, count, b.long)) in
    let not_last = not_complete (fragment_at d).part (part (from + length before)) (part_at p part lead from n all before d (x ∷ rest) b same) inside in
    gives_own before d Held begin (piece_is before d false begin not_last)

none_after : (p : PacketJournal) (part : ℕ → Part) (lead from n : ℕ) (all before rest : List Delivery) (last : Delivery) → IsBegin p part lead from n all → all ≡ before ++ (rest ++ last ∷ []) → given_after before rest ≡ []
none_after p part lead from n all before [] last b same = refl
none_after p part lead from n all before (d ∷ rest) last b same =
    let split : all ≡ (before ++ d ∷ []) ++ (rest ++ last ∷ []) = same ∙ sym (append_assoc before (d ∷ []) (rest ++ last ∷ [])) in
    let none = one_waits rest split in
    rw none (none_after p part lead from n all (before ++ d ∷ []) rest last b split)
  where
    one_waits : (rest : List Delivery) → all ≡ (before ++ d ∷ []) ++ (rest ++ last ∷ []) → given_by before d ≡ []
    one_waits [] e = waits p part lead from n all before d last [] b e
    one_waits (x ∷ rest) e = waits p part lead from n all before d x (rest ++ last ∷ []) b e

unit_given : (p : PacketJournal) (part : ℕ → Part) (lead from n : ℕ) (earlier : List Delivery) (last : Delivery) → IsBegin p part lead from n (earlier ++ last ∷ []) → given_by earlier last ≡ unit_by earlier last ∷ []
unit_given p part lead from n earlier last b =
    let same : earlier ++ last ∷ [] ≡ (earlier ++ last ∷ []) ++ [] = sym (append-nil (earlier ++ last ∷ [])) in
    let begin = begin_at p part lead from n (earlier ++ last ∷ []) earlier last [] b same in
    let to : from + length earlier ≡ n = omega (arith, length-append earlier (last ∷ []), b.long) in
    let ends : Ends (part (from + length earlier)) = subst (λ (k : ℕ). Ends (part k)) (sym to) (unit_last b.unit) in
    let whole = complete_so (fragment_at last).part (part (from + length earlier)) (part_at p part lead from n (earlier ++ last ∷ []) earlier last [] b same) ends in
    gives_own earlier last Whole begin (piece_is earlier last true begin whole)
  where
    unit_last : AreUnit part from n → Ends (part n)
    unit_last (inl e) = inl e.1
    unit_last (inr are) = inr are.last

first_given : (ds earlier : List Delivery) (last : Delivery) (rest : List Delivery) → ds ≡ earlier ++ last ∷ rest → given_after [] earlier ≡ [] → given_by earlier last ≡ unit_by earlier last ∷ [] → slice_get (items_of ds) 0 ≡ Some (unit_by earlier last)
first_given ds earlier last rest same none unit = rw (same, so_far_more earlier (last ∷ rest), none, unit) refl

-- ---- the unit

in_its_stream : (xs : List Delivery) → length xs - length xs ≡ 0
in_its_stream xs = omega arith

earlier_are : (earlier : List Delivery) (last : Delivery) → Begins earlier last → (unit_by earlier last).earlier ≡ earlier
earlier_are earlier last b =
    let run = run_is earlier last b in
    let long : length (run_at earlier last) - 1 ≡ length earlier = omega (arith, length-map (earlier ++ last ∷ []) fragment_at, length-append earlier (last ∷ [])) in
    let stream = all_streamed earlier b.others in
    ap (λ (l : List Fragment). last_ones (length l - 1) (in_stream earlier)) run
    ∙ (ap (λ (k : ℕ). last_ones k (in_stream earlier)) long
    ∙ (ap (last_ones (length earlier)) stream
    ∙ ap (λ (k : ℕ). drop k earlier) (in_its_stream earlier)))

unit_time : (kind : Kind) (p : PacketJournal) (part : ℕ → Part) (by : Bool) (n : ℕ) → kind ≡ H264 part → IsAtBy kind by p.times n 0 (pos (p.times.due n))
unit_time kind p part by n e = rw e (refl, refl)

shows_front : (ds earlier : List Delivery) (last : Delivery) (rest : List Delivery) → ds ≡ earlier ++ last ∷ rest → All Shows ds → All Shows (earlier ++ last ∷ [])
shows_front ds earlier last rest same all =
    all_before Shows (earlier ++ last ∷ []) rest (subst (λ (l : List Delivery). All Shows l) (same ∙ sym (append_assoc earlier (last ∷ []) rest)) all)

begin_of : (shift : ℤ) (p : PacketJournal) (part : ℕ → Part) (lead from n : ℕ) (earlier : List Delivery) (last : Delivery) → IsConforming shift p → p.times.kind ≡ H264 part → All Shows (earlier ++ last ∷ []) → AreOfUnit p part lead from n earlier last
    → IsBegin p part lead from n (earlier ++ last ∷ [])
begin_of shift p part lead from n earlier last is kind shows u =
    let copies = copies_all p lead from n earlier last u.to u.earlier_copies u.last_copy in
    let good = all_good shift p part lead from (earlier ++ last ∷ []) is kind copies shows in
    let fragments = fragments_from shift p part lead from (earlier ++ last ∷ []) (fragments_at (earlier ++ last ∷ [])) is kind copies shows (all_packets (earlier ++ last ∷ []) good) in
    let long : from + length (earlier ++ last ∷ []) ≡ suc n = omega (arith, length-append earlier (last ∷ []), u.to) in
    record {
      good = good;
      fragments = fragments;
      unit = u.packets;
      byte = u.same_byte;
      is = video p part kind is.times;
      known = u.last_copy.delivered.known;
      long = long;
      size = size_of (fragments_at (earlier ++ last ∷ [])) (omega (arith, length-map (earlier ++ last ∷ []) fragment_at, long)) fragments;
      few = omega (arith, length-append earlier (last ∷ []), u.few);
    }
  where
    size_of : (fs : List Fragment) → from + length fs ≡ suc n → AreFragmentsFrom p part from fs → length (unit_of fs) ≤ longest_unit
    size_of [] long all = omega arith
    size_of (f ∷ fs) long all = subst (λ (l : List ℕ). length l ≤ longest_unit) (sym (unit_is p part from n f fs (omega (arith, long)) all)) u.size

abbrev made_of : (p : PacketJournal) (part : ℕ → Part) (lead from n : ℕ) (earlier : List Delivery) (last : Delivery) → AreOfUnit p part lead from n earlier last → (unit_by earlier last).earlier ≡ earlier → IsMadeOf p lead n (unit_by earlier last)
made_of p part lead from n earlier last u same = record {
  from = from;
  to = ap (λ (l : List Delivery). from + length l) same ∙ u.to;
  earlier = subst (λ (l : List Delivery). AreCopiesFrom p lead from l) (sym same) u.earlier_copies;
  last = u.last_copy;
}

unit_by_known : (before : List Delivery) (d : Delivery) → IsKnownUnit (unit_by before d)
unit_by_known before d = record {
  unit = record {
    frame = d.frame;
    arrival = d.arrival;
    seq = d.seq;
    instant = unfolded (cvf_of d.packet).header.timestamp d.arrival;
    bytes = whole_unit (events_to before d);
  };
  is = refl;
}

pub unit_welcome : (shift : ℤ) (p : PacketJournal) (plan : ListenPlan) (records : List Record) (part : ℕ → Part) (from n : ℕ) (earlier : List Delivery) (last : Delivery) (rest : List Delivery) → HearsTalker shift p plan records → p.times.kind ≡ H264 part
    → deliveries_of plan records ≡ earlier ++ last ∷ rest → AreOfUnit p part plan.lead from n earlier last → last.arrival ≤ℤ pos (p.times.due n) → 1 ≤ plan.buffer → length (unit_bytes p from n) ≤ plan.room → IsWelcome p plan records 0 n (unit_by earlier last)
unit_welcome shift p plan records part from n earlier last rest h kind same u early some fits =
    let sp = schedule_plan plan in
    let ds = deliveries_of plan records in
    let shows = shows_front ds earlier last rest same (all_shown plan.stream plan.clock records) in
    let b = begin_of shift p part plan.lead from n earlier last h.conforming kind shows u in
    let begin = begin_at p part plan.lead from n (earlier ++ last ∷ []) earlier last [] b (sym (append-nil (earlier ++ last ∷ []))) in
    let there = first_given ds earlier last rest same (none_after p part plan.lead from n (earlier ++ last ∷ []) [] earlier last b refl) (unit_given p part plan.lead from n earlier last b) in
    let none = nothing clock_spot sp (entries_in plan records) in
    let time : time_of plan records 0 ≤ℤ pos (p.times.due n) =
    rw (first_time (entries_in plan records) (unit_by earlier last).entry (entry_at (items_in plan records) 0 (unit_by earlier last) there)) (both_early (pos 0) last.arrival (p.times.due n) (omega (arith, ints)) early) in
    record {
      timely = record {
        there = there;
        copy = made_of p part plan.lead from n earlier last u (earlier_are earlier last begin);
        known = unit_item_known p.times.kind part p plan records 0 (record { number = n; arrival = u.last_copy.arrival }) (unit_by earlier last) kind (unit_by_known earlier last);
        instant = pos (p.times.due n);
        at = unit_time p.times.kind p part (by_clock plan) n kind;
        in_time = time;
      };
      first = rw none (All-nil (λ (a : Accepted). ¬ IsOfPacket (by_clock plan) p n a.batch));
      bytes = unit_bytes p from n;
      content = subst (λ (k : Kind). IsContentBy k p n (unit_bytes p from n)) (sym kind) (record { from = from; packets = u.packets; bytes = refl });
      room = rw none (has_room sp (time_of plan records 0) (length (unit_bytes p from n)) some fits);
    }

-- ---- a unit whose packets came in order, anywhere in a capture

events_after : (before front earlier : List Delivery) (last : Delivery) → in_stream before ≡ front ++ earlier → Begins earlier last → events_to before last ≡ map event_of front ++ map packet (run_at earlier last)
events_after before front earlier last split b =
    let own : events before ≡ map event_of front ++ map event_of earlier = ap (map event_of) split ∙ map-append event_of front earlier in
    let alone : map event_of earlier ++ event_of last ∷ [] ≡ map packet (run_at earlier last) =
    ap (λ (l : List Delivery). map event_of l ++ event_of last ∷ []) (sym (all_streamed earlier b.others)) ∙ events_are earlier last b in
    ap (λ (es : List Event). es ++ event_of last ∷ []) own
    ∙ (append_assoc (map event_of front) (map event_of earlier) (event_of last ∷ [])
    ∙ ap (λ (es : List Event). map event_of front ++ es) alone)

run_after : (before front earlier : List Delivery) (last : Delivery) → in_stream before ≡ front ++ earlier → Begins earlier last → last_stretch (events_to before last) ≡ run_at earlier last
run_after before front earlier last split b =
    one_stretch (events_to before last) (run_at earlier last) (map event_of front) (events_after before front earlier last split b) b.stretches

whole_after : (p : PacketJournal) (part : ℕ → Part) (lead from n : ℕ) (before front earlier : List Delivery) (last : Delivery) → in_stream before ≡ front ++ earlier → IsBegin p part lead from n (earlier ++ last ∷ []) → Begins earlier last → piece (events_to before last) ≡ Whole
whole_after p part lead from n before front earlier last split b begin =
    let same : earlier ++ last ∷ [] ≡ (earlier ++ last ∷ []) ++ [] = sym (append-nil (earlier ++ last ∷ [])) in
    let to : from + length earlier ≡ n = omega (arith, length-append earlier (last ∷ []), b.long) in
    let ends : Ends (part (from + length earlier)) = subst (λ (k : ℕ). Ends (part k)) (sym to) (unit_last b.unit) in
    let complete = complete_so (fragment_at last).part (part (from + length earlier)) (part_at p part lead from n (earlier ++ last ∷ []) earlier last [] b same) ends in
    let some : 1 ≤ length (run_at earlier last) = omega (arith, length-map (earlier ++ last ∷ []) fragment_at, length-append earlier (last ∷ [])) in
    let all : is_complete (run_at earlier last) ≡ true = ap is_complete (more_run earlier last) ∙ (complete_last (fragments_at earlier) (fragment_at last) ∙ complete) in
    ap piece_of (run_after before front earlier last split begin) ∙ piece_so (run_at earlier last) true some begin.within all
  where
    unit_last : AreUnit part from n → Ends (part n)
    unit_last (inl e) = inl e.1
    unit_last (inr are) = inr are.last

-- if a delivery completes a unit, the delivery yields first the fragments that are given up because of the delivery,
-- and then the unit
given_after_all : (before : List Delivery) (last : Delivery) → IsGood last → piece (events_to before last) ≡ Whole → given_by before last ≡ given_up_by before last ++ unit_by before last ∷ []
given_after_all before last good whole =
    ap (λ (t : Bool). if t then made_of_one last ∷ [] else given_up_by before last ++ own_by before last) good.streamed
    ∙ ap (λ (l : List MadeItem). given_up_by before last ++ l)
    (ap (λ (t : Bool). if t then video_by before last (flaw_of last) else made_of_one last ∷ []) good.is_video
    ∙ (ap (video_by before last) good.flawless
    ∙ ap (piece_by before last) whole))

listed_after : (ds before : List Delivery) (last : Delivery) (rest : List Delivery) → ds ≡ before ++ last ∷ rest → given_by before last ≡ given_up_by before last ++ unit_by before last ∷ [] → Contains (items_of ds) (unit_by before last)
listed_after ds before last rest same given =
    let here : Contains (given_by before last) (unit_by before last) = subst (λ (l : List MadeItem). Contains l (unit_by before last)) (sym given) (Contains-push (given_up_by before last) (unit_by before last)) in
    let after = Contains-append_left (given_by before last) (given_after (before ++ last ∷ []) rest) (unit_by before last) here in
    let all = Contains-append_right (items_so_far before) (given_by before last ++ given_after (before ++ last ∷ []) rest) (unit_by before last) after in
    let so_far : Contains (items_so_far ds) (unit_by before last) = subst (λ (l : List MadeItem). Contains l (unit_by before last)) (sym (so_far_more before (last ∷ rest)) ∙ ap items_so_far (sym same)) all in
    Contains-append_left (items_so_far ds) (left_at_end ds) (unit_by before last) so_far

earlier_after : (before front earlier : List Delivery) (last : Delivery) → in_stream before ≡ front ++ earlier → Begins earlier last → (unit_by before last).earlier ≡ earlier
earlier_after before front earlier last split b =
    let run = run_after before front earlier last split b in
    let long : length (run_at earlier last) - 1 ≡ length earlier = omega (arith, length-map (earlier ++ last ∷ []) fragment_at, length-append earlier (last ∷ [])) in
    let place : length (front ++ earlier) - length earlier ≡ length front = omega (arith, length-append front earlier) in
    ap (λ (l : List Fragment). last_ones (length l - 1) (in_stream before)) run
    ∙ (ap (λ (k : ℕ). last_ones k (in_stream before)) long
    ∙ (ap (last_ones (length earlier)) split
    ∙ (ap (λ (k : ℕ). drop k (front ++ earlier)) place
    ∙ drop-append_seam front earlier)))

shows_after : (ds before front earlier : List Delivery) (last : Delivery) (rest : List Delivery) → ds ≡ before ++ last ∷ rest → in_stream before ≡ front ++ earlier → All Shows ds → All Shows (earlier ++ last ∷ [])
shows_after ds before front earlier last rest same split all =
    let there = subst (λ (l : List Delivery). All Shows l) same all in
    let streamed : All Shows (in_stream before) = All-filter (λ (d : Delivery). not (d.subtype == crf_subtype)) Shows before (all_before Shows before (last ∷ rest) there) in
    let run : All Shows earlier = All-back Shows front earlier (subst (λ (l : List Delivery). All Shows l) split streamed) in
    All-append Shows earlier (last ∷ []) run (All-cons Shows last [] (All-head Shows last rest (All-back Shows before (last ∷ rest) there)) (All-nil Shows))

-- The deliveries `earlier` and then the delivery `last` make a whole unit. That unit is one of the items.
pub record IsMadeUnit (items : List MadeItem) (before earlier : List Delivery) (last : Delivery) : Type 0 where
  pub listed : Contains items (unit_by before last)
  pub of : (unit_by before last).earlier ≡ earlier

pub unit_made_whole : (shift : ℤ) (p : PacketJournal) (plan : ListenPlan) (records : List Record) (part : ℕ → Part) (from n : ℕ) (before front earlier : List Delivery) (last : Delivery) (rest : List Delivery) → HearsTalker shift p plan records → p.times.kind ≡ H264 part
    → deliveries_of plan records ≡ before ++ last ∷ rest → in_stream before ≡ front ++ earlier → AreOfUnit p part plan.lead from n earlier last → IsMadeUnit (items_in plan records) before earlier last
unit_made_whole shift p plan records part from n before front earlier last rest h kind same split u =
    let ds = deliveries_of plan records in
    let shows = shows_after ds before front earlier last rest same split (all_shown plan.stream plan.clock records) in
    let b = begin_of shift p part plan.lead from n earlier last h.conforming kind shows u in
    let begin = begin_at p part plan.lead from n (earlier ++ last ∷ []) earlier last [] b (sym (append-nil (earlier ++ last ∷ []))) in
    record {
      listed = listed_after ds before last rest same (given_after_all before last begin.good (whole_after p part plan.lead from n before front earlier last split b begin));
      of = earlier_after before front earlier last split begin;
    }
