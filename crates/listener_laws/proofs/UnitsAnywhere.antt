-- A unit of H.264 that must be presented, wherever it is in a capture.
use Rattle.std.proofs.Common.{◌≡◌, ◌≢◌, ◌⊎◌, ℕ, zero, suc, ◌+◌, ◌%◌, ◌^◌, ◌<◌, ◌≤◌, Bool, true, false, ℤ, pos, ◌≤ℤ◌, List, [], ◌∷◌, ◌++◌, All, length, filter, map, take, Option, Some, None, Ok, refl, sym, ap, ◌∙◌, subst, inl, inr, arith, append-nil, append_assoc, length-append}
use Rattle.std.specs.Prelude.{◌==◌, Contains, Err, IfOk, IfSome, Result, is_some, fold, if◌then◌else◌, slice_get}
use Rattle.std.specs.Int.{int_max}
use Rattle.std.specs.List.{slice_index_or}
use Rattle.std.proofs.Math.Seq.{take-append_seam}
use Rattle.std.proofs.lemmas.Bool.{cases_lt, eqb-true}
use Rattle.std.proofs.lemmas.Int.{ints}
use Rattle.std.proofs.lemmas.List.Elements.{All-head, All-map, All-tail, filter-append}
use Rattle.crf_format.specs.Crf.{crf_subtype}
use Rattle.cvf_format.specs.Cvf.{Cvf, cvf_of, cvf_subtype}
use Rattle.cvf_format.specs.declared.piece.Piece.{Piece}
use Rattle.cvf_format.specs.declared.piece.Piece.TheVariants.{Whole, Held, Lost}
use Rattle.cvf_format.specs.WholeOrBroken.{given_up, piece, reason}
use Rattle.clock_track.specs.Rows.{clock_spot}
use Rattle.time_unfold.specs.Time.{unfolded}
use Rattle.stream_journal.proofs.TrueTime.{true_time}
use Rattle.pcap_frames.specs.Capture.{Record}
use Rattle.stream_journal.specs.Conforming.{Ends, IsVideo}
use Rattle.stream_journal.specs.Delivered.{IsAudioKind}
use Rattle.stream_journal.specs.Journal.{H264, IsAtBy, Kind, Part}
use Rattle.sample_schedule.specs.declared.accepted.Accepted.{Accepted}
use Rattle.sample_schedule.specs.declared.entry.Entry.{Entry}
use Rattle.sample_schedule.specs.declared.entry.Entry.TheVariants.{Item as OfItem, Clock as ClockEntry}
use Rattle.sample_schedule.specs.declared.shown.Reason.{Reason}
use Rattle.sample_schedule.specs.Batches.{Presented}
use Rattle.sample_schedule.specs.Order.{standing}
use Rattle.sample_schedule.specs.Schedule.{accepted_by, arrival_of, judged, latest, now_at}
use Rattle.sample_schedule.specs.Verdicts.{timed, total_bytes, unit_at_once, verdict}
use Rattle.sample_schedule.proofs.StageLemmas.{accepted-next}
use Rattle.packet_journal.specs.Deliveries.{Delivery}
use Rattle.packet_journal.specs.Delivered.{IsCopyOf, IsFrom, Origin, OfClock, OfStream}
use Rattle.packet_journal.specs.Packets.{IsConforming, PacketJournal, part_of}
use Rattle.packet_journal.specs.Units.{AreUnit, IsContentBy, IsUnitOf, unit_bytes}
use Rattle.listener.specs.declared.plan.ListenPlan.{ListenPlan}
use Rattle.listener.specs.Heard.{deliveries_of, entries_in, items_in, schedule_plan}
use Rattle.listener.specs.Items.{MadeItem, clock_row, entry_of, events_to, flagged, given_after, given_by, given_up_by, item_of, items_of, items_so_far, left_at_end, lost_for, made_entry, made_of_one, own_by, piece_by, unit_by, video_by}
use Rattle.listener.specs.Known.{IsKnownUnit}
use Rattle.listener.specs.Laws.{AreCopiesFrom, HearsTalker, IsFurther, IsOfPacket, IsTimely, IsWelcome, accepted_before, by_clock, time_of}
use Rattle.listener.specs.Units.{flaw_of, in_stream, last_ones}
use Rattle.listener.proofs.ItemKinds.{IsKind, IsWholeOf, all_before, all_here, all_kinds, at_place}
use Rattle.listener.proofs.KnownItems.{unit_item_known}
use Rattle.listener.proofs.Made.{IsOther, OfEach, items_all, so_far_more, so_far_next}
use Rattle.listener.proofs.Shown.{Rising, deliveries_rise, entry_at}
use Rattle.listener.proofs.TrueItems.{IsCopied, Shows, audio_other, clock_entry}
use Rattle.listener.proofs.TrueList.{are_heard}
use Rattle.listener.proofs.TrueOnce.{first_at, one_number, one_packet}
use Rattle.listener.proofs.TrueUnits.{IsVideoCopy, end_stamped, unit_ends, unit_item, unit_made, unit_packet, video, video_copy}
use Rattle.listener.proofs.UnitWelcome.{unit_made_whole}
use Rattle.listener.proofs.Welcome.{arrives, both_early}
use Rattle.listener_laws.specs.Anywhere.{UnitComesInTime, UnitMustBePresented, unit_place}
use Rattle.listener_laws.specs.Completed.{completed}
use Rattle.listener_laws.proofs.Anywhere.{accepted_later, fits, not_full, some_at}
use Rattle.listener_laws.proofs.Completed.{gives_unit, unit_there}
use Rattle.listener_laws.proofs.Taken.{AreTaken, IsAcceptedOf, IsMore, IsPacketAt, IsStep, all_taken, light as bytes_light, none_first, none_is, verdict_so}

-- ---- the items before an index

place_in : (front : List MadeItem) (m : MadeItem) (back : List MadeItem) → slice_get (front ++ m ∷ back) (length front) ≡ Some m
place_in [] m back = refl
place_in (x ∷ front) m back = place_in front m back

entry_in : (plan : ListenPlan) (records : List Record) (front : List MadeItem) (m : MadeItem) (back : List MadeItem) → items_in plan records ≡ front ++ m ∷ back → slice_get (entries_in plan records) (length front) ≡ Some m.entry
entry_in plan records front m back e = entry_at (items_in plan records) (length front) m (ap (λ (l : List MadeItem). slice_get l (length front)) e ∙ place_in front m back)

-- an item adds to the list of accepted items exactly what the item's verdict accepts
next_is : (plan : ListenPlan) (records : List Record) (front : List MadeItem) (m : MadeItem) (back : List MadeItem) → items_in plan records ≡ front ++ m ∷ back
    → accepted_before plan records (length (front ++ m ∷ [])) ≡ accepted_before plan records (length front) ++ accepted_by (judged clock_spot (schedule_plan plan) (entries_in plan records) (length front) (accepted_before plan records (length front)) m.entry)
next_is plan records front m back e =
    let long : length (front ++ m ∷ []) ≡ suc (length front) = omega (arith, length-append front (m ∷ [])) in
    ap (accepted_before plan records) long ∙ accepted-next clock_spot (schedule_plan plan) (entries_in plan records) (length front) m.entry (entry_in plan records front m back e)

flag_none : (plan : ListenPlan) (records : List Record) (front : List MadeItem) (why : Reason) (d : Delivery) (back : List MadeItem) → items_in plan records ≡ front ++ flagged why d ∷ back
    → accepted_before plan records (length (front ++ flagged why d ∷ [])) ≡ accepted_before plan records (length front)
unfolding timed verdict
flag_none plan records front why d back e = next_is plan records front (flagged why d) back e ∙ append-nil (accepted_before plan records (length front))

flags_none : (plan : ListenPlan) (records : List Record) (front : List MadeItem) (why : Reason) (ds : List Delivery) (back : List MadeItem) → items_in plan records ≡ front ++ (map (flagged why) ds ++ back)
    → accepted_before plan records (length (front ++ map (flagged why) ds)) ≡ accepted_before plan records (length front)
flags_none plan records front why [] back e = ap (λ (l : List MadeItem). accepted_before plan records (length l)) (append-nil front)
flags_none plan records front why (d ∷ ds) back e =
    let more = map (flagged why) ds in
    ap (λ (l : List MadeItem). accepted_before plan records (length l)) (sym (append_assoc front (flagged why d ∷ []) more))
    ∙ (flags_none plan records (front ++ flagged why d ∷ []) why ds back (e ∙ sym (append_assoc front (flagged why d ∷ []) (more ++ back)))
    ∙ flag_none plan records front why d (more ++ back) e)

clock_none : (plan : ListenPlan) (records : List Record) (front : List MadeItem) (d : Delivery) (back : List MadeItem) → items_in plan records ≡ front ++ made_of_one d ∷ back → (d.subtype == crf_subtype) ≡ true
    → accepted_before plan records (length (front ++ made_of_one d ∷ [])) ≡ accepted_before plan records (length front)
clock_none plan records front d back e clock =
    let none : entry_of d ≡ ClockEntry d.arrival (clock_row d) = rw clock refl in
    next_is plan records front (made_of_one d) back e
    ∙ (ap (λ (x : Entry). accepted_before plan records (length front) ++ accepted_by (judged clock_spot (schedule_plan plan) (entries_in plan records) (length front) (accepted_before plan records (length front)) x)) none
    ∙ append-nil (accepted_before plan records (length front)))

-- ---- the unit that a delivery completes

instant_is : (kind : Kind) (part : ℕ → Part) (by : Bool) (p : PacketJournal) (n : ℕ) (x : ℤ) → kind ≡ H264 part → IsAtBy kind by p.times n 0 x → x ≡ pos (p.times.due n)
instant_is kind part by p n x e is = (subst (λ (k : Kind). IsAtBy k by p.times n 0 x) e is).1

-- If `d` is a copy of a packet, that packet has property `Q`. If the packet ends a unit that is due at `t` or later,
-- the count grows.
pub record IsAsked (p : PacketJournal) (part : ℕ → Part) (lead : ℕ) (Q : ℕ → Type 0) (t : ℤ) (count next : ℕ) (d : Delivery) : Type 0 where
  pub holds : (k : ℕ) → IsCopyOf p lead k d → Q k
  pub counts : (k : ℕ) → IsCopyOf p lead k d → Ends (part k) → t ≤ℤ pos (p.times.due k) → count < next

more_by : (p : PacketJournal) (part : ℕ → Part) (by : Bool) (Q : ℕ → Type 0) (t : ℤ) (count next m : ℕ) (xs ys : List Accepted) (r : Result Accepted Reason) → p.times.kind ≡ H264 part → ((a : Accepted) → IsPacketAt by p m a → t ≤ℤ a.instant → count < next) → Q m
    → ((a : Accepted) → IsAcceptedOf (IsOfPacket by p m) a → IsPacketAt by p m a) → ys ≡ xs ++ accepted_by (Some r) → IfOk r (IsAcceptedOf (IsOfPacket by p m)) → (ys ≡ xs) ⊎ IsMore Q by p t count next xs ys
more_by p part by Q t count next m xs ys (Err reason) kind counts holds at e t2 = inl (e ∙ append-nil xs)
more_by p part by Q t count next m xs ys (Ok a) kind counts holds at e t2 = inr (record { a = a; more = e; some = record { k = m; holds = holds; is = at a t2 }; counts = counts a (at a t2) })

unit_more : (shift : ℤ) (p : PacketJournal) (plan : ListenPlan) (records : List Record) (part : ℕ → Part) (Q : ℕ → Type 0) (t : ℤ) (count next : ℕ) (front back : List MadeItem) (before : List Delivery) (d : Delivery) → HearsTalker shift p plan records → p.times.kind ≡ H264 part
    → IsWholeOf (deliveries_of plan records) (unit_by before d) → items_in plan records ≡ front ++ unit_by before d ∷ back → IsAsked p part plan.lead Q t count next d
    → (accepted_before plan records (length (front ++ unit_by before d ∷ [])) ≡ accepted_before plan records (length front)) ⊎ IsMore Q (by_clock plan) p t count next (accepted_before plan records (length front)) (accepted_before plan records (length (front ++ unit_by before d ∷ [])))
unfolding timed
unit_more shift p plan records part Q t count next front back before d h kind w e asked =
    let by = by_clock plan in
    let sp = schedule_plan plan in
    let es = entries_in plan records in
    let ds = deliveries_of plan records in
    let heard = are_heard shift p plan records h in
    let xs = accepted_before plan records (length front) in
    let m = unit_made shift p part plan.lead ds (unit_by before d) h.conforming kind (heard.chained part kind) heard.shows w in
    let u = unit_item shift p part plan.lead m.number ds (unit_by before d) h.conforming kind heard.shows w m.copies in
    let r = verdict sp (now_at es (length front)) xs (length front) (Ok (unit_at_once u.unit)) in
    let more : accepted_before plan records (length (front ++ unit_by before d ∷ [])) ≡ xs ++ accepted_by (Some r) =
    next_is plan records front (unit_by before d) back e ∙ ap (λ (x : Entry). xs ++ accepted_by (judged clock_spot sp es (length front) xs x)) u.entry in
    more_by p part by Q t count next m.number xs (accepted_before plan records (length (front ++ unit_by before d ∷ []))) r kind
    (λ a is late. asked.counts m.number m.copies.last (unit_ends part u.is.copies.from m.number u.is.packets) (subst (λ (z : ℤ). t ≤ℤ z) (instant_is p.times.kind part by p m.number a.instant kind is.at) late))
    (asked.holds m.number m.copies.last)
    (λ a is. record {
      at = subst (λ (z : ℤ). IsAtBy p.times.kind by p.times m.number 0 z) (sym is.instant) (first_at by p m.number a.batch h.conforming.times is.is);
      is = is.is;
    })
    more
    (verdict_so (IsOfPacket by p m.number) sp (now_at es (length front)) xs (length front) (Ok (unit_at_once u.unit)) (unit_packet by p part plan.lead m.number (unit_by before d) kind u))

-- ---- a delivery

-- the items that a listener has accepted after it has judged the items of the deliveries `ds`
abbrev pub given_to : ListenPlan → List Record → List Delivery → List Accepted
given_to plan records before = accepted_before plan records (length (items_so_far before))

-- the items of a capture are those of the deliveries before `d`, those of `d`, and those of the later deliveries
split_items : (before : List Delivery) (d : Delivery) (rest : List Delivery) → items_of (before ++ d ∷ rest) ≡ items_so_far before ++ (given_by before d ++ (given_after (before ++ d ∷ []) rest ++ left_at_end (before ++ d ∷ rest)))
split_items before d rest =
    let left = left_at_end (before ++ d ∷ rest) in
    let more = given_after (before ++ d ∷ []) rest in
    ap (λ (l : List MadeItem). l ++ left) (so_far_more before (d ∷ rest))
    ∙ (append_assoc (items_so_far before) (given_by before d ++ more) left
    ∙ ap (λ (l : List MadeItem). items_so_far before ++ l) (append_assoc (given_by before d) more left))

after_none : (Q : ℕ → Type 0) (by : Bool) (p : PacketJournal) (t : ℤ) (count next : ℕ) (xs ys zs : List Accepted) → ys ≡ xs → (zs ≡ ys) ⊎ IsMore Q by p t count next ys zs → (zs ≡ xs) ⊎ IsMore Q by p t count next xs zs
after_none Q by p t count next xs ys zs e is = subst (λ (l : List Accepted). (zs ≡ l) ⊎ IsMore Q by p t count next l zs) e is

delivery_more : (shift : ℤ) (p : PacketJournal) (plan : ListenPlan) (records : List Record) (part : ℕ → Part) (Q : ℕ → Type 0) (t : ℤ) (count next : ℕ) (before : List Delivery) (d : Delivery) (rest : List Delivery) → HearsTalker shift p plan records → p.times.kind ≡ H264 part
    → deliveries_of plan records ≡ before ++ d ∷ rest → IsAsked p part plan.lead Q t count next d
    → (given_to plan records (before ++ d ∷ []) ≡ given_to plan records before) ⊎ IsMore Q (by_clock plan) p t count next (given_to plan records before) (given_to plan records (before ++ d ∷ []))
delivery_more shift p plan records part Q t count next before d rest h kind is asked =
    let back = given_after (before ++ d ∷ []) rest ++ left_at_end (before ++ d ∷ rest) in
    let items : items_in plan records ≡ items_so_far before ++ (given_by before d ++ back) = ap items_of is ∙ split_items before d rest in
    subst (λ (l : List MadeItem). (accepted_before plan records (length l) ≡ given_to plan records before) ⊎ IsMore Q (by_clock plan) p t count next (given_to plan records before) (accepted_before plan records (length l))) (sym (so_far_next before d))
    (by (d.subtype == crf_subtype) refl back items)
  where
    Says : List MadeItem → List MadeItem → Type 0
    Says front l = (accepted_before plan records (length (front ++ l)) ≡ accepted_before plan records (length front)) ⊎ IsMore Q (by_clock plan) p t count next (accepted_before plan records (length front)) (accepted_before plan records (length (front ++ l)))

    copied : IsCopied p plan.lead d
    copied = all_here (IsCopied p plan.lead) before rest d (subst (λ (l : List Delivery). All (IsCopied p plan.lead) l) is (are_heard shift p plan records h).copied)

    not_clock : (b : Bool) → b ≡ false → (if b then ClockEntry d.arrival (clock_row d) else OfItem (item_of d)) ≡ ClockEntry d.arrival (clock_row d) → ⊥
    not_clock true e f = absurd cc
    not_clock false e f = cc

    other_none : (o : Origin) → IsFrom p plan.lead o d → Shows d → (d.subtype == crf_subtype) ≡ false → IsOther d → ⊥
    other_none (OfStream k) copy shows streamed other = subst (λ (k : Kind). IsAudioKind k) kind (audio_other shift p plan.lead k d h.conforming copy shows other)
    other_none (OfClock m) copy shows streamed other = not_clock (d.subtype == crf_subtype) streamed (clock_entry shift p m d h.conforming copy shows)

    piece_more : (front back : List MadeItem) → (d.subtype == crf_subtype) ≡ false → (d.subtype == cvf_subtype) ≡ true → flaw_of d ≡ None → (x : Piece) → piece (events_to before d) ≡ x → items_in plan records ≡ front ++ (piece_by before d x ++ back) → Says front (piece_by before d x)
    piece_more front back streamed video flawless Whole whole e =
        unit_more shift p plan records part Q t count next front back before d h kind (record { before = before; delivery = d; rest = rest; is = is; streamed = streamed; video = video; flawless = flawless; whole = whole; same = refl }) e asked
    piece_more front back streamed video flawless Held f e = inl (ap (λ (l : List MadeItem). accepted_before plan records (length l)) (append-nil front))
    piece_more front back streamed video flawless (Lost why) f e = inl (flag_none plan records front (lost_for why) d back e)

    video_more : (front back : List MadeItem) → (d.subtype == crf_subtype) ≡ false → (d.subtype == cvf_subtype) ≡ true → (o : Option Reason) → flaw_of d ≡ o → items_in plan records ≡ front ++ (video_by before d o ++ back) → Says front (video_by before d o)
    video_more front back streamed video None flawless e = piece_more front back streamed video flawless (piece (events_to before d)) refl e
    video_more front back streamed video (Some reason) f e = inl (flag_none plan records front reason d back e)

    own_more : (front back : List MadeItem) → (d.subtype == crf_subtype) ≡ false → (v : Bool) → (d.subtype == cvf_subtype) ≡ v → items_in plan records ≡ front ++ ((if v then video_by before d (flaw_of d) else made_of_one d ∷ []) ++ back) → Says front (if v then video_by before d (flaw_of d) else made_of_one d ∷ [])
    own_more front back streamed true video e = video_more front back streamed video (flaw_of d) refl e
    own_more front back streamed false other e = absurd (other_none copied.origin copied.copy copied.shows streamed other)

    by : (b : Bool) → (d.subtype == crf_subtype) ≡ b → (back : List MadeItem) → items_in plan records ≡ items_so_far before ++ ((if b then made_of_one d ∷ [] else given_up_by before d ++ own_by before d) ++ back)
        → Says (items_so_far before) (if b then made_of_one d ∷ [] else given_up_by before d ++ own_by before d)
    by true clock back e = inl (clock_none plan records (items_so_far before) d back e clock)
    by false streamed back e =
        let front = items_so_far before in
        let flags = given_up_by before d in
        let own = own_by before d in
        let all : items_in plan records ≡ front ++ (flags ++ (own ++ back)) = e ∙ ap (λ (l : List MadeItem). front ++ l) (append_assoc flags own back) in
        let none = flags_none plan records front (lost_for (reason (events_to before d))) (last_ones (length (given_up (events_to before d))) (in_stream before)) (own ++ back) all in
        let last = own_more (front ++ flags) back streamed (d.subtype == cvf_subtype) refl (all ∙ sym (append_assoc front flags (own ++ back))) in
        subst (λ (l : List MadeItem). (accepted_before plan records (length l) ≡ accepted_before plan records (length front)) ⊎ IsMore Q (by_clock plan) p t count next (accepted_before plan records (length front)) (accepted_before plan records (length l))) (append_assoc front flags own)
        (after_none Q (by_clock plan) p t count next (accepted_before plan records (length front)) (accepted_before plan records (length (front ++ flags))) (accepted_before plan records (length ((front ++ flags) ++ own))) none last)

-- ---- the unit is among the items

completes : (ds before : List Delivery) (last : Delivery) → last.subtype ≡ cvf_subtype → IsKind ds (unit_by before last) → IsWholeOf ds (unit_by before last)
completes ds before last video (inl one) = let same = ap (λ (m : MadeItem). m.last) one.same in absurd (other_not (ap (λ (d : Delivery). d.subtype) same ∙ video) one.other)
  where
    other_not : one.delivery.subtype ≡ cvf_subtype → (one.delivery.subtype == cvf_subtype) ≡ false → ⊥
    other_not e f = let t : (one.delivery.subtype == cvf_subtype) ≡ true = rw e refl in cc
completes ds before last video (inr (inl flag)) = absurd (let f = ap (λ (m : MadeItem). m.entry) flag.same in cc)
completes ds before last video (inr (inr w)) = w

kind_of : (ds : List Delivery) (made : MadeItem) → All (IsKind ds) (items_of ds) → Contains (items_of ds) made → IsKind ds made
kind_of ds made all (k, lt, e) = subst (IsKind ds) e (all k made lt)

delivery_in : (front : List Delivery) (d : Delivery) (back : List Delivery) → slice_get (front ++ d ∷ back) (length front) ≡ Some d
delivery_in [] d back = refl
delivery_in (x ∷ front) d back = delivery_in front d back

one_place : (ds front other : List Delivery) (d : Delivery) (back rest : List Delivery) → Rising ds → ds ≡ front ++ d ∷ back → ds ≡ other ++ d ∷ rest → other ≡ front
unfolding Rising
one_place ds front other d back rest rises e f =
    let here : slice_get ds (length front) ≡ Some d = ap (λ (l : List Delivery). slice_get l (length front)) e ∙ delivery_in front d back in
    let there : slice_get ds (length other) ≡ Some d = ap (λ (l : List Delivery). slice_get l (length other)) f ∙ delivery_in other d rest in
    let long : length other ≡ length front = elim (cases_lt (length other) (length front)) [
      | inl before ↦ absurd (let h = rises (length other) (length front) d d there here before in omega arith)
      | inr past ↦ elim (cases_lt (length front) (length other)) [
        | inl before ↦ absurd (let h = rises (length front) (length other) d d here there before in omega arith)
        | inr within ↦ omega arith
      ]
    ] in
    sym (take-append_seam other (d ∷ rest)) ∙ (ap (λ (l : List Delivery). take (length other) l) (sym f) ∙ (ap (λ (k : ℕ). take k ds) long ∙ (ap (λ (l : List Delivery). take (length front) l) e ∙ take-append_seam front (d ∷ back))))

-- The delivery `last` completes a unit.
record IsThere (ds before : List Delivery) (last : Delivery) : Type 0 where
  streamed : (last.subtype == crf_subtype) ≡ false
  video : last.subtype ≡ cvf_subtype
  flawless : flaw_of last ≡ None
  whole : piece (events_to before last) ≡ Whole

whole_by : (ds before other : List Delivery) (last d : Delivery) → other ≡ before → d ≡ last → (d.subtype == crf_subtype) ≡ false → (d.subtype == cvf_subtype) ≡ true → flaw_of d ≡ None → piece (events_to other d) ≡ Whole → IsThere ds before last
whole_by ds before other last d e f streamed video flawless whole =
    subst (λ (x : Delivery). IsThere ds before x) f (subst (λ (l : List Delivery). IsThere ds l d) e (record { streamed = streamed; video = eqb-true d.subtype cvf_subtype video; flawless = flawless; whole = whole }))

is_there : (plan : ListenPlan) (records : List Record) (before : List Delivery) (last : Delivery) (rest : List Delivery) → last.subtype ≡ cvf_subtype → deliveries_of plan records ≡ before ++ last ∷ rest → Contains (items_in plan records) (unit_by before last) → IsThere (deliveries_of plan records) before last
is_there plan records before last rest video split listed =
    let ds = deliveries_of plan records in
    let w = completes ds before last video (kind_of ds (unit_by before last) (all_kinds ds) listed) in
    let same : w.delivery ≡ last = ap (λ (m : MadeItem). m.last) w.same in
    let place = one_place ds before w.before last rest w.rest (deliveries_rise plan records) split (w.is ∙ ap (λ (x : Delivery). w.before ++ x ∷ w.rest) same) in
    whole_by ds before w.before last w.delivery place same w.streamed w.video w.flawless w.whole

last_video : (shift : ℤ) (p : PacketJournal) (plan : ListenPlan) (records : List Record) (part : ℕ → Part) (n : ℕ) (before : List Delivery) (last : Delivery) (rest : List Delivery) → HearsTalker shift p plan records → p.times.kind ≡ H264 part → deliveries_of plan records ≡ before ++ last ∷ rest
    → IsCopyOf p plan.lead n last → last.subtype ≡ cvf_subtype
last_video shift p plan records part n before last rest h kind split copy =
    let shows = all_here Shows before rest last (subst (λ (l : List Delivery). All Shows l) split (are_heard shift p plan records h).shows) in
    (video_copy shift p part plan.lead n last h.conforming kind copy shows).subtype

-- ---- when the unit is judged

early_from : (due : ℕ) (x : ℤ) (es : List Entry) → x ≤ℤ pos due → All (λ (e : Entry). arrival_of e ≤ℤ pos due) es → fold int_max x (map arrival_of es) ≤ℤ pos due
early_from due x [] early all = early
early_from due x (e ∷ es) early all =
    let P : Entry → Type 0 = λ (y : Entry). arrival_of y ≤ℤ pos due in
    early_from due (int_max x (arrival_of e)) es (both_early x (arrival_of e) due early (All-head P e es all)) (All-tail P e es all)

latest_early : (due : ℕ) (es : List Entry) → All (λ (e : Entry). arrival_of e ≤ℤ pos due) es → latest es ≤ℤ pos due
unfolding latest
latest_early due es all = early_from due (pos 0) es (omega (arith, ints)) all

each_early : (due : ℕ) → OfEach (λ (d : Delivery). d.arrival ≤ℤ pos due) (λ (m : MadeItem). arrival_of m.entry ≤ℤ pos due)
each_early due = record { one = λ d early. rw (arrives d) early; flag = λ why d early streamed. early; unit = λ before d all early streamed. early }

take_front : (xs ys : List MadeItem) (n : ℕ) → n ≡ length xs → take n (map made_entry (xs ++ ys)) ≡ map made_entry xs
take_front xs ys n e = ap (λ (k : ℕ). take k (map made_entry (xs ++ ys))) e ∙ front xs ys
  where
    front : (xs ys : List MadeItem) → take (length xs) (map made_entry (xs ++ ys)) ≡ map made_entry xs
    front [] ys = refl
    front (x ∷ xs) ys = ap (λ (l : List Entry). x.entry ∷ l) (front xs ys)

time_early : (plan : ListenPlan) (records : List Record) (before : List Delivery) (last : Delivery) (rest : List Delivery) (due : ℕ) → deliveries_of plan records ≡ before ++ last ∷ rest → IsThere (deliveries_of plan records) before last → All (λ (d : Delivery). d.arrival ≤ℤ pos due) (before ++ last ∷ [])
    → time_of plan records (unit_place before last) ≤ℤ pos due
time_early plan records before last rest due split t early =
    let upto = before ++ last ∷ [] in
    let P : MadeItem → Type 0 = λ (m : MadeItem). arrival_of m.entry ≤ℤ pos due in
    let Q : Entry → Type 0 = λ (e : Entry). arrival_of e ≤ℤ pos due in
    let so_far = items_so_far upto in
    let given : so_far ≡ items_so_far before ++ (given_up_by before last ++ unit_by before last ∷ []) = so_far_next before last ∙ ap (λ (l : List MadeItem). items_so_far before ++ l) (gives_unit before last t.video t.flawless t.whole) in
    let long : suc (unit_place before last) ≡ length so_far =
    omega (arith, ap (λ (l : List MadeItem). length l) given, length-append (items_so_far before) (given_up_by before last), length-append (items_so_far before) (given_up_by before last ++ unit_by before last ∷ []), length-append (given_up_by before last) (unit_by before last ∷ [])) in
    let ds_are : deliveries_of plan records ≡ upto ++ rest = split ∙ sym (append_assoc before (last ∷ []) rest) in
    let more = given_after upto rest ++ left_at_end (upto ++ rest) in
    let items : items_in plan records ≡ so_far ++ more = ap items_of ds_are ∙ (ap (λ (l : List MadeItem). l ++ left_at_end (upto ++ rest)) (so_far_more upto rest) ∙ append_assoc so_far (given_after upto rest) (left_at_end (upto ++ rest))) in
    let entries : take (suc (unit_place before last)) (entries_in plan records) ≡ map made_entry so_far = ap (λ (l : List MadeItem). take (suc (unit_place before last)) (map made_entry l)) items ∙ take_front so_far more (suc (unit_place before last)) long in
    let all : All P so_far = all_before P so_far (left_at_end upto) (items_all (λ (d : Delivery). d.arrival ≤ℤ pos due) P upto (each_early due) early) in
    rw entries (latest_early due (map made_entry so_far) (All-map Q made_entry so_far all))

-- ---- the unit is welcome

front_of : (ds : List Delivery) (j : ℕ) (d : Delivery) → slice_get ds j ≡ Some d → (rest : List Delivery) × ((take (suc j) ds ≡ take j ds ++ d ∷ []) × (ds ≡ take j ds ++ d ∷ rest))
front_of [] j d at = absurd cc
front_of (x ∷ ds) zero d at = let same : x ≡ d = cc in (ds, (ap (λ (y : Delivery). y ∷ []) same, ap (λ (y : Delivery). y ∷ ds) same))
front_of (x ∷ ds) (suc j) d at =
    let rest = front_of ds j d at in
    (rest.0, (ap (λ (l : List Delivery). x ∷ l) rest.1.0, ap (λ (l : List Delivery). x ∷ l) rest.1.1))

abbrev pub counting : (Delivery → Bool) → List Delivery → ℕ → ℕ
counting waits ds j = length (filter waits (take j ds))

unit_step : (shift : ℤ) (p : PacketJournal) (plan : ListenPlan) (records : List Record) (part : ℕ → Part) (Q : ℕ → Type 0) (waits : Delivery → Bool) (t : ℤ) (before tail : List Delivery) (j : ℕ) → HearsTalker shift p plan records → p.times.kind ≡ H264 part → deliveries_of plan records ≡ before ++ tail
    → All (λ (d : Delivery). (k : ℕ) → IsCopyOf p plan.lead k d → Q k) before → ((i k : ℕ) (d : Delivery) → slice_get before i ≡ Some d → IsCopyOf p plan.lead k d → Ends (part k) → t ≤ℤ pos (p.times.due k) → waits d ≡ true) → j < length before
    → IsStep Q (by_clock plan) p t (counting waits before j) (counting waits before (suc j)) (given_to plan records (take j before)) (given_to plan records (take (suc j) before))
unit_step shift p plan records part Q waits t before tail j h kind split holds finds lt =
    let d = some_at before j lt in
    let f = front_of before j d.0 d.1 in
    let front = take j before in
    let count = counting waits before j in
    let all : deliveries_of plan records ≡ front ++ d.0 ∷ (f.0 ++ tail) = split ∙ (ap (λ (l : List Delivery). l ++ tail) f.1.1 ∙ append_assoc front (d.0 ∷ f.0) tail) in
    let sum : counting waits before (suc j) ≡ count + length (filter waits (d.0 ∷ [])) =
    ap (λ (l : List Delivery). length (filter waits l)) f.1.0 ∙ (ap (λ (l : List Delivery). length l) (filter-append waits front (d.0 ∷ [])) ∙ length-append (filter waits front) (filter waits (d.0 ∷ []))) in
    let more = delivery_more shift p plan records part Q t count (counting waits before (suc j)) front d.0 (f.0 ++ tail) h kind all (record {
      holds = at_place (λ (x : Delivery). (k : ℕ) → IsCopyOf p plan.lead k x → Q k) before j d.0 holds d.1;
      counts = λ k copy ends late. let one : length (filter waits (d.0 ∷ [])) ≡ 1 = rw (finds j k d.0 d.1 copy ends late) refl in omega arith;
    }) in
    record {
      grows = omega arith;
      is = subst (λ (l : List Delivery). (given_to plan records l ≡ given_to plan records front) ⊎ IsMore Q (by_clock plan) p t count (counting waits before (suc j)) (given_to plan records front) (given_to plan records l)) (sym f.1.0) more;
    }

content_is : (kind : Kind) (part : ℕ → Part) (p : PacketJournal) (n : ℕ) (bytes : List ℕ) → kind ≡ H264 part → IsContentBy kind p n bytes → IsUnitOf p part n bytes
content_is kind part p n bytes e is = subst (λ (k : Kind). IsContentBy k p n bytes) e is

unit_short : (by : Bool) (p : PacketJournal) (part : ℕ → Part) (most k : ℕ) (b : Presented) → p.times.kind ≡ H264 part → ((s m : ℕ) → AreUnit part s m → m < p.times.packets → length (unit_bytes p s m) ≤ most) → IsOfPacket by p k b → length b.bytes ≤ most
unit_short by p part most k b kind short is =
    let unit = content_is p.times.kind part p k b.bytes kind is.bytes in
    rw unit.bytes (short unit.from k unit.packets is.known)

unit_by_known : (before : List Delivery) (d : Delivery) → IsKnownUnit (unit_by before d)
unit_by_known before d = record { unit = completed before d; is = refl }

time_is : (kind : Kind) (part : ℕ → Part) (by : Bool) (p : PacketJournal) (n : ℕ) → kind ≡ H264 part → IsAtBy kind by p.times n 0 (pos (p.times.due n))
time_is kind part by p n e = rw e (refl, refl)

unit_timely : (shift : ℤ) (p : PacketJournal) (plan : ListenPlan) (records : List Record) (part : ℕ → Part) (from n : ℕ) (before : List Delivery) (last : Delivery) → HearsTalker shift p plan records → p.times.kind ≡ H264 part → UnitComesInTime p plan records part from n before last
    → IsTimely p plan records (unit_place before last) n (unit_by before last)
unit_timely shift p plan records part from n before last h kind c =
    let m = unit_made_whole shift p plan records part from n before c.front c.earlier last c.rest h kind c.there c.gathered c.unit in
    let t = is_there plan records before last c.rest (last_video shift p plan records part n before last c.rest h kind c.there c.unit.last_copy) c.there m.listed in
    record {
      there = ap (λ (l : List Delivery). slice_get (items_of l) (unit_place before last)) c.there ∙ unit_there before last c.rest t.video t.flawless t.whole;
      copy = record {
        from = from;
        to = ap (λ (l : List Delivery). from + length l) m.of ∙ c.unit.to;
        earlier = subst (λ (l : List Delivery). AreCopiesFrom p plan.lead from l) (sym m.of) c.unit.earlier_copies;
        last = c.unit.last_copy;
      };
      known = unit_item_known p.times.kind part p plan records (unit_place before last) (record { number = n; arrival = c.unit.last_copy.arrival }) (unit_by before last) kind (unit_by_known before last);
      instant = pos (p.times.due n);
      at = time_is p.times.kind part (by_clock plan) p n kind;
      in_time = time_early plan records before last c.rest (p.times.due n) c.there t c.in_time;
    }

upto_unit : (plan : ListenPlan) (records : List Record) (before : List Delivery) (last : Delivery) (rest : List Delivery) → deliveries_of plan records ≡ before ++ last ∷ rest → IsThere (deliveries_of plan records) before last
    → accepted_before plan records (unit_place before last) ≡ given_to plan records before
upto_unit plan records before last rest split t =
    let flags = given_up_by before last in
    let back = given_after (before ++ last ∷ []) rest ++ left_at_end (before ++ last ∷ rest) in
    let items : items_in plan records ≡ items_so_far before ++ (flags ++ (unit_by before last ∷ back)) =
    ap items_of split ∙ (split_items before last rest ∙ (ap (λ (l : List MadeItem). items_so_far before ++ (l ++ back)) (gives_unit before last t.video t.flawless t.whole) ∙ ap (λ (l : List MadeItem). items_so_far before ++ l) (append_assoc flags (unit_by before last ∷ []) back))) in
    flags_none plan records (items_so_far before) (lost_for (reason (events_to before last))) (last_ones (length (given_up (events_to before last))) (in_stream before)) (unit_by before last ∷ back) items

pub unit_welcome_here : (shift : ℤ) (p : PacketJournal) (plan : ListenPlan) (records : List Record) (part : ℕ → Part) (from n : ℕ) (before : List Delivery) (last : Delivery) → HearsTalker shift p plan records → p.times.kind ≡ H264 part → UnitMustBePresented p plan records part from n before last
    → IsWelcome p plan records (unit_place before last) n (unit_by before last)
unit_welcome_here shift p plan records part from n before last h kind m =
    let c = m.comes in
    let by = by_clock plan in
    let place = unit_place before last in
    let t = time_of plan records place in
    let Q : ℕ → Type 0 = λ (k : ℕ). k ≢ n in
    let w = unit_made_whole shift p plan records part from n before c.front c.earlier last c.rest h kind c.there c.gathered c.unit in
    let there = is_there plan records before last c.rest (last_video shift p plan records part n before last c.rest h kind c.there c.unit.last_copy) c.there w.listed in
    let xs = accepted_before plan records place in
    let same : given_to plan records before ≡ xs = sym (upto_unit plan records before last c.rest c.there there) in
    let holds = never_copied p plan.lead n before m.first in
    let whole : take (length before) before ≡ before = take-all before in
    let first = all_taken Q by p t (counting m.waits before) (λ j. given_to plan records (take j before)) (length before) (none_first plan records) (λ j lt. unit_step shift p plan records part Q m.waits t before (last ∷ c.rest) j h kind c.there holds m.finds lt) in
    let taken : AreTaken Q by p t (length (filter m.waits before)) xs = subst (AreTaken Q by p t (length (filter m.waits before))) same (subst (λ (l : List Delivery). AreTaken Q by p t (length (filter m.waits l)) (given_to plan records l)) whole first) in
    let few = taken.few in
    let some = m.some in
    let light = bytes_light Q by p t m.most xs (λ k b is. unit_short by p part m.most k b kind m.size is) taken.all in
    let own = m.size from n c.unit.packets c.unit.last_copy.delivered.known in
    record {
      timely = unit_timely shift p plan records part from n before last h kind c;
      first = none_is by p n xs (λ k b ne is other. ne (one_number by p k n b h.conforming.times is other)) taken.all;
      bytes = unit_bytes p from n;
      content = subst (λ (k : Kind). IsContentBy k p n (unit_bytes p from n)) (sym kind) (record { from = from; packets = c.unit.packets; bytes = refl });
      room = not_full (schedule_plan plan) (standing t xs) (length (unit_bytes p from n)) (omega (arith, few, some))
          (fits (length (standing t xs)) (length (filter m.waits before)) (total_bytes (standing t xs)) (length (unit_bytes p from n)) m.most plan.room few light own m.bytes);
    }
  where
    never_copied : (p : PacketJournal) (lead n : ℕ) (ds : List Delivery) → All (λ (d : Delivery). ¬ IsCopyOf p lead n d) ds → All (λ (d : Delivery). (k : ℕ) → IsCopyOf p lead k d → k ≢ n) ds
    never_copied p lead n ds all = λ i d lt k copy same. all i d lt (subst (λ (m : ℕ). IsCopyOf p lead m (slice_index_or ds i d)) same copy)

    take-all : (ds : List Delivery) → take (length ds) ds ≡ ds
    take-all [] = refl
    take-all (d ∷ ds) = ap (λ (l : List Delivery). d ∷ l) (take-all ds)

pub unit_further_here : (shift : ℤ) (p : PacketJournal) (plan : ListenPlan) (records : List Record) (part : ℕ → Part) (earlier from n : ℕ) (made : MadeItem) (before : List Delivery) (last : Delivery) → HearsTalker shift p plan records → p.times.kind ≡ H264 part → IsWelcome p plan records earlier n made
    → earlier < unit_place before last → UnitComesInTime p plan records part from n before last → IsFurther p plan records (unit_place before last) n (unit_by before last)
unit_further_here shift p plan records part earlier from n made before last h kind w lt c = record {
  timely = unit_timely shift p plan records part from n before last h kind c;
  before = accepted_later shift p plan records earlier (unit_place before last) n made h w lt;
}

-- ---- one copy, one packet

due_of : (p : PacketJournal) (part : ℕ → Part) (lead n : ℕ) (d : Delivery) (r : Option ℕ) → IsVideo p.times part → (copy : IsCopyOf p lead n d) → IsVideoCopy p part n d → p.times.stamp n ≡ r → is_some r ≡ true → unfolded (cvf_of d.packet).header.timestamp d.arrival ≡ pos (p.times.due n)
due_of p part lead n d None is copy c e some = absurd cc
due_of p part lead n d (Some x) is copy c e some =
    let stamp : c.view.header.timestamp ≡ x % 2 ^ 32 = subst (λ (o : Option ℕ). IfSome o (λ (y : ℕ). c.view.header.timestamp ≡ y % 2 ^ 32)) e c.packet.header.timestamp in
    let timestamp : (cvf_of d.packet).header.timestamp ≡ x % 2 ^ 32 = sym (ap (λ (w : Cvf). w.header.timestamp) c.same) ∙ stamp in
    let at : unfolded (x % 2 ^ 32) (pos copy.arrival) ≡ pos x = true_time p.times lead (record { number = n; arrival = copy.arrival }) x copy.delivered e in
    rw (timestamp, copy.arrived) (at ∙ ap (λ (k : ℕ). pos k) (is.one_instant n x copy.delivered.known e))

-- the part of a unit that a delivery carries
abbrev pub part_in : Delivery → Part
part_in d = part_of (cvf_of d.packet).part

pub part_seen : (shift : ℤ) (p : PacketJournal) (part : ℕ → Part) (lead n : ℕ) (d : Delivery) → IsConforming shift p → p.times.kind ≡ H264 part → IsCopyOf p lead n d → Shows d → part_in d ≡ part n
part_seen shift p part lead n d is kind copy shows =
    let c = video_copy shift p part lead n d is kind copy shows in
    sym (ap (λ (w : Cvf). part_of w.part) c.same) ∙ c.packet.part_is

pub one_end : (shift : ℤ) (p : PacketJournal) (part : ℕ → Part) (lead n k : ℕ) (d : Delivery) → IsConforming shift p → p.times.kind ≡ H264 part → Shows d → Ends (part n) → IsCopyOf p lead n d → IsCopyOf p lead k d → n ≡ k
one_end shift p part lead n k d is kind shows ends a b =
    let sound = video p part kind is.times in
    let x = video_copy shift p part lead n d is kind a shows in
    let y = video_copy shift p part lead k d is kind b shows in
    let same : part n ≡ part k = sym (part_seen shift p part lead n d is kind a shows) ∙ part_seen shift p part lead k d is kind b shows in
    let first = due_of p part lead n d (p.times.stamp n) sound a x refl (end_stamped p.times part n sound a.delivered.known ends) in
    let second = due_of p part lead k d (p.times.stamp k) sound b y refl (end_stamped p.times part k sound b.delivered.known (subst Ends same ends)) in
    let due : p.times.due n ≡ p.times.due k = let e = sym first ∙ second in omega (arith, ints) in
    one_packet false p n k (pos (p.times.due n)) is.times a.delivered.known b.delivered.known (sym x.seq ∙ y.seq) (time_is p.times.kind part false p n kind)
    (rw due (time_is p.times.kind part false p k kind))
