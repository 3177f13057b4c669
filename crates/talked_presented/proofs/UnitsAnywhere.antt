-- Which units of a plan of H.264 must be presented, wherever they are in a capture.
use Rattle.std.proofs.Common.{◌≡◌, ◌≢◌, ℕ, zero, suc, ◌+◌, ◌-◌, ◌<◌, ◌≤◌, Bool, true, false, pos, ◌≤ℤ◌, List, [], ◌∷◌, ◌++◌, All, length, map, filter, Some, refl, sym, ap, ◌∙◌, subst, arith, append_assoc, length-append}
use Rattle.std.specs.Prelude.{cond, slice_get}
use Rattle.std.specs.List.{range_with_len, slice_index_or}
use Rattle.std.proofs.lemmas.List.FromFn.{length-range_with_len}
use Rattle.std.proofs.lemmas.List.{length-map}
use Rattle.std.proofs.lemmas.List.Elements.{All-append, All-cons, All-head, All-nil, All-tail, filter-append}
use Rattle.std.proofs.lemmas.Option.{slice_get-get_or}
use Rattle.pcap_frames.specs.Capture.{Record}
use Rattle.stream_journal.specs.Conforming.{Ends}
use Rattle.stream_journal.specs.Journal.{H264 as OfParts, Part}
use Rattle.packet_journal.specs.Deliveries.{Delivery}
use Rattle.packet_journal.specs.Delivered.{AreFrom, IsCopyOf, Origin, OfStream}
use Rattle.packet_journal.specs.Packets.{IsConforming, PacketJournal}
use Rattle.packet_journal.specs.Units.{AreUnit}
use Rattle.listener.specs.declared.plan.ListenPlan.{ListenPlan}
use Rattle.listener.specs.Heard.{deliveries_of}
use Rattle.listener.specs.Laws.{AreCopiesFrom}
use Rattle.listener.specs.Units.{in_stream}
use Rattle.listener.proofs.ItemKinds.{all_before, at_place}
use Rattle.listener.proofs.Made.{is_streamed}
use Rattle.listener.proofs.TrueItems.{Shows, all_shown}
use Rattle.listener.proofs.TrueUnits.{video, video_copy, video_streamed}
use Rattle.listener_laws.specs.Anywhere.{UnitMustBePresented as IsUnitDue}
use Rattle.listener_laws.proofs.UnitsAnywhere.{one_end, part_in, part_seen}
use Rattle.talk_plan.specs.declared.plan.TalkPlan.{TalkPlan}
use Rattle.talker.specs.Journal.{journal, stream_of}
use Rattle.talked_headline.specs.Premises.{captured, part_sent}
use Rattle.talked_headline.proofs.Fragments.{few_packets, first_before, one_due, parts_are, same_byte, unit_size, unit_small}
use Rattle.talked_presented.specs.Anywhere.{UnitMustBePresented}
use Rattle.talked_presented.specs.Whole.{ends_unit}
use Rattle.talked_presented.proofs.Caught.{IsCaught, as_many, came_by}
use Rattle.talked_presented.proofs.UnitRuns.{ends_so, inside_unit, unit_ends}

-- ---- the deliveries before the unit, those of the unit, and those after it

-- the deliveries `ds` are those of the packets `xs`, followed by those of the packets `ys`
record IsParted (p : PacketJournal) (lead : ℕ) (xs ys : List ℕ) (ds : List Delivery) : Type 0 where
  front : List Delivery
  back : List Delivery
  is : ds ≡ front ++ back
  first : AreFrom p lead (map OfStream xs) front
  second : AreFrom p lead (map OfStream ys) back

part_at : (p : PacketJournal) (lead : ℕ) (xs ys : List ℕ) (ds : List Delivery) → AreFrom p lead (map OfStream (xs ++ ys)) ds → IsParted p lead xs ys ds
part_at p lead [] ys ds from = record { front = []; back = ds; is = refl; first = tt; second = from }
part_at p lead (x ∷ xs) ys [] from = absurd from
part_at p lead (x ∷ xs) ys (d ∷ ds) from =
    let rest = part_at p lead xs ys ds from.1 in
    record { front = d ∷ rest.front; back = rest.back; is = ap (λ (l : List Delivery). d ∷ l) rest.is; first = (from.0, rest.first); second = rest.second }

copies_of : (p : PacketJournal) (lead a k : ℕ) (ds : List Delivery) → AreFrom p lead (map OfStream (range_with_len a k)) ds → AreCopiesFrom p lead a ds
copies_of p lead a zero [] from = tt
copies_of p lead a zero (d ∷ ds) from = absurd from
copies_of p lead a (suc k) [] from = tt
copies_of p lead a (suc k) (d ∷ ds) from = let next : a + 1 ≡ suc a = omega arith in (from.0, subst (λ (b : ℕ). AreCopiesFrom p lead b ds) next (copies_of p lead (a + 1) k ds from.1))

-- `p` is a journal of H.264, and conforms
record IsHeard (p : PacketJournal) (part : ℕ → Part) (lead : ℕ) : Type 0 where
  conforming : IsConforming (pos 0) p
  kind : p.times.kind ≡ OfParts part

all_streamed : (p : PacketJournal) (part : ℕ → Part) (lead : ℕ) (ks : List ℕ) (ds : List Delivery) → IsHeard p part lead → All Shows ds → AreFrom p lead (map OfStream ks) ds → in_stream ds ≡ ds
all_streamed p part lead [] [] h shows from = refl
all_streamed p part lead [] (d ∷ ds) h shows from = absurd from
all_streamed p part lead (k ∷ ks) [] h shows from = absurd from
all_streamed p part lead (k ∷ ks) (d ∷ ds) h shows from =
    let here = video_streamed d (video_copy (pos 0) p part lead k d h.conforming h.kind from.0 (All-head Shows d ds shows)).subtype in
    rw here (ap (λ (l : List Delivery). d ∷ l) (all_streamed p part lead ks ds h (All-tail Shows d ds shows) from.1))

counted : (p : PacketJournal) (part : ℕ → Part) (lead : ℕ) (ks : List ℕ) (ds : List Delivery) → IsHeard p part lead → All Shows ds → AreFrom p lead (map OfStream ks) ds
    → length (filter (λ (d : Delivery). ends_unit (part_in d)) ds) ≡ length (filter (λ (k : ℕ). ends_unit (part k)) ks)
counted p part lead [] [] h shows from = refl
counted p part lead [] (d ∷ ds) h shows from = absurd from
counted p part lead (k ∷ ks) [] h shows from = absurd from
counted p part lead (k ∷ ks) (d ∷ ds) h shows from =
    let seen = part_seen (pos 0) p part lead k d h.conforming h.kind from.0 (All-head Shows d ds shows) in
    rw seen (by (ends_unit (part k)) (counted p part lead ks ds h (All-tail Shows d ds shows) from.1))
  where
    by : (b : Bool) → length (filter (λ (x : Delivery). ends_unit (part_in x)) ds) ≡ length (filter (λ (m : ℕ). ends_unit (part m)) ks)
        → length (cond b (d ∷ filter (λ (x : Delivery). ends_unit (part_in x)) ds) (filter (λ (x : Delivery). ends_unit (part_in x)) ds)) ≡ length (cond b (k ∷ filter (λ (m : ℕ). ends_unit (part m)) ks) (filter (λ (m : ℕ). ends_unit (part m)) ks))
    by true e = ap suc e
    by false e = e

none_ends : (part : ℕ → Part) (m n a k : ℕ) → AreUnit part m n → m ≤ a → a + k ≤ n → filter (λ (i : ℕ). ends_unit (part i)) (range_with_len a k) ≡ []
none_ends part m n a zero unit low high = refl
none_ends part m n a (suc k) unit low high = rw (inside_unit part m n a unit low (omega arith)) (none_ends part m n (a + 1) k unit (omega arith) (omega arith))

-- if n is not among the numbers `ks`, none of the deliveries is a copy of packet n
never : (p : PacketJournal) (part : ℕ → Part) (lead n : ℕ) (ks : List ℕ) (ds : List Delivery) → IsHeard p part lead → Ends (part n) → All Shows ds → AreFrom p lead (map OfStream ks) ds → All (λ (k : ℕ). k ≢ n) ks → All (λ (d : Delivery). ¬ IsCopyOf p lead n d) ds
never p part lead n [] [] h ends shows from other = All-nil (λ (d : Delivery). ¬ IsCopyOf p lead n d)
never p part lead n [] (d ∷ ds) h ends shows from other = absurd from
never p part lead n (k ∷ ks) [] h ends shows from other = All-nil (λ (d : Delivery). ¬ IsCopyOf p lead n d)
never p part lead n (k ∷ ks) (d ∷ ds) h ends shows from other =
    All-cons (λ (x : Delivery). ¬ IsCopyOf p lead n x) d ds
    (λ copy. All-head (λ (m : ℕ). m ≢ n) k ks other (sym (one_end (pos 0) p part lead n k d h.conforming h.kind (All-head Shows d ds shows) ends copy from.0)))
    (never p part lead n ks ds h ends (All-tail Shows d ds shows) from.1 (All-tail (λ (m : ℕ). m ≢ n) k ks other))

others_in : (n a k : ℕ) → a + k ≤ n → All (λ (m : ℕ). m ≢ n) (range_with_len a k)
others_in n a zero le = All-nil (λ (m : ℕ). m ≢ n)
others_in n a (suc k) le = All-cons (λ (m : ℕ). m ≢ n) a (range_with_len (a + 1) k) (λ e. absurd (omega arith)) (others_in n (a + 1) k (omega arith))

-- ---- when the deliveries arrived

all_in : (Q : ℕ → Type 0) (a k : ℕ) → ((m : ℕ) → a ≤ m → m < a + k → Q m) → All Q (range_with_len a k)
all_in Q a zero each = All-nil Q
all_in Q a (suc k) each = All-cons Q a (range_with_len (a + 1) k) (each a (omega arith) (omega arith)) (all_in Q (a + 1) k (λ m low high. each m (omega arith) (omega arith)))

first_of : (Q : ℕ → Type 0) (xs rest : List ℕ) (j : ℕ) (o : Origin) → All Q xs → j < length xs → slice_get (map OfStream (xs ++ rest)) j ≡ Some o → (k : ℕ) × ((o ≡ OfStream k) × Q k)
first_of Q [] rest j o all lt at = absurd (omega arith)
first_of Q (x ∷ xs) rest zero o all lt at = let same : OfStream x ≡ o = cc in (x, (sym same, All-head Q x xs all))
first_of Q (x ∷ xs) rest (suc j) o all lt at = first_of Q xs rest j o (All-tail Q x xs all) (omega arith) at

front_same : (xs ys : List Delivery) (j : ℕ) → j < length xs → slice_get (xs ++ ys) j ≡ slice_get xs j
front_same [] ys j lt = absurd (omega arith)
front_same (x ∷ xs) ys zero lt = refl
front_same (x ∷ xs) ys (suc j) lt = front_same xs ys j (omega arith)

came_before : (plan : TalkPlan) (input : List ℕ) (listen : ListenPlan) (rs : List Record) (ks rest : List ℕ) (xs ys : List Delivery) (due : ℕ) → IsCaught plan input listen rs (map OfStream (ks ++ rest)) → deliveries_of listen rs ≡ xs ++ ys → length xs ≡ length ks
    → All (λ (k : ℕ). (stream_of plan input).arrival k ≤ due) ks → All (λ (d : Delivery). d.arrival ≤ℤ pos due) xs
came_before plan input listen rs ks rest xs ys due w split long early =
    λ i d lt. came_by plan input listen rs (map OfStream (ks ++ rest)) i due (slice_index_or xs i d) w
    (ap (λ (l : List Delivery). slice_get l i) split ∙ (front_same xs ys i lt ∙ slice_get-get_or xs i d lt))
    (λ o at. let f = first_of (λ (k : ℕ). (stream_of plan input).arrival k ≤ due) ks rest i o early (omega (arith, lt, long)) at in rw f.1.0 f.1.1)

-- ---- the unit must be presented

-- `last` is the delivery that ends the unit, and `before` are the deliveries before it
pub record IsUnitAfter (plan : TalkPlan) (input : List ℕ) (listen : ListenPlan) (places : List ℕ) (from n : ℕ) : Type 0 where
  pub before : List Delivery
  pub last : Delivery
  pub due : IsUnitDue (journal plan input) listen (captured plan input places) (part_sent input) from n before last

all_behind : (P : Delivery → Type 0) (xs ys : List Delivery) → All P (xs ++ ys) → All P ys
all_behind P [] ys all = all
all_behind P (x ∷ xs) ys all = all_behind P xs ys (All-tail P x (xs ++ ys) all)

joined_places : (front run after : List ℕ) (n : ℕ) → front ++ (run ++ n ∷ after) ≡ (front ++ (run ++ n ∷ [])) ++ after
joined_places front run after n = sym (append_assoc front (run ++ n ∷ []) after ∙ ap (λ (l : List ℕ). front ++ l) (append_assoc run (n ∷ []) after))

joined_deliveries : (fs es rest : List Delivery) (last : Delivery) → fs ++ (es ++ last ∷ rest) ≡ ((fs ++ es) ++ last ∷ []) ++ rest
joined_deliveries fs es rest last = sym (append_assoc fs es (last ∷ rest)) ∙ sym (append_assoc (fs ++ es) (last ∷ []) rest)

unit_in : (plan : TalkPlan) (input front after : List ℕ) (from n : ℕ) (listen : ListenPlan) (fs es : List Delivery) (last : Delivery) (rest : List Delivery) → UnitMustBePresented plan input listen front from n after → IsConforming (pos 0) (journal plan input)
    → IsCaught plan input listen (captured plan input (front ++ (range_with_len from (n - from) ++ n ∷ after))) (map OfStream (front ++ (range_with_len from (n - from) ++ n ∷ after)))
    → deliveries_of listen (captured plan input (front ++ (range_with_len from (n - from) ++ n ∷ after))) ≡ fs ++ (es ++ last ∷ rest) → AreFrom (journal plan input) listen.lead (map OfStream front) fs
    → AreFrom (journal plan input) listen.lead (map OfStream (range_with_len from (n - from))) es → IsCopyOf (journal plan input) listen.lead n last → IsUnitAfter plan input listen (front ++ (range_with_len from (n - from) ++ n ∷ after)) from n
unit_in plan input front after from n listen fs es last rest h conforming w split first second third =
    let p = journal plan input in
    let part = part_sent input in
    let l = h.talk in
    let run = range_with_len from (n - from) in
    let rs = captured plan input (front ++ (run ++ n ∷ after)) in
    let kind = parts_are plan input l.last_stamp l.kind in
    let heard : IsHeard p part listen.lead = record { conforming = conforming; kind = kind } in
    let sound = video p part kind conforming.times in
    let known = third.delivered.known in
    let low = first_before part from n h.packets in
    let ends = unit_ends part from n h.packets in
    let few = few_packets plan input l.last_stamp from n l.kind sound known h.packets in
    let all = subst (λ (ds : List Delivery). All Shows ds) split (all_shown listen.stream listen.clock rs) in
    let shows_front = all_before Shows fs (es ++ last ∷ rest) all in
    let shows_run = all_before Shows es (last ∷ rest) (all_behind Shows fs (es ++ last ∷ rest) all) in
    let shows = All-append Shows fs es shows_front shows_run in
    let waits : Delivery → Bool = λ (d : Delivery). ends_unit (part_in d) in
    let ends_sent : ℕ → Bool = λ (k : ℕ). ends_unit (part k) in
    let long : length es ≡ n - from = as_many p listen.lead (map OfStream run) es second ∙ (length-map run OfStream ∙ length-range_with_len from (n - from)) in
    let long_front : length fs ≡ length front = as_many p listen.lead (map OfStream front) fs first ∙ length-map front OfStream in
    let in_run : length (filter waits es) ≡ 0 = counted p part listen.lead run es heard shows_run second ∙ ap (λ (ks : List ℕ). length ks) (none_ends part from n from (n - from) h.packets (omega arith) (omega (arith, low))) in
    let in_front = counted p part listen.lead front fs heard shows_front first in
    let count : length (filter waits (fs ++ es)) ≡ length (filter ends_sent front) =
    omega (arith, ap (λ (ds : List Delivery). length ds) (filter-append waits fs es), length-append (filter waits fs) (filter waits es), in_run, in_front) in
    let due = p.times.due n in
    let due_is : (m : ℕ) → from ≤ m → m ≤ n → p.times.due m ≡ due = λ m above below. one_due plan input l.last_stamp from n m l.kind h.packets above below ∙ sym (one_due plan input l.last_stamp from n n l.kind h.packets low (omega arith)) in
    let sent : (m : ℕ) → from ≤ m → m ≤ n → (stream_of plan input).arrival m ≤ due = λ m above below. omega (arith, w.stream.early m (let none = l.talked.crf in rw none tt) (omega (arith, below, known)), due_is m above below) in
    let Early : ℕ → Type 0 = λ (k : ℕ). (stream_of plan input).arrival k ≤ due in
    let early : All Early (front ++ (run ++ n ∷ [])) =
    All-append Early front (run ++ n ∷ []) h.in_time (All-append Early run (n ∷ []) (all_in Early from (n - from) (λ m above below. sent m above (omega (arith, below, low)))) (All-cons Early n [] (sent n low (omega arith)) (All-nil Early))) in
    let places = joined_places front run after n in
    let w' : IsCaught plan input listen rs (map OfStream ((front ++ (run ++ n ∷ [])) ++ after)) = subst (λ (ks : List ℕ). IsCaught plan input listen rs (map OfStream ks)) places w in
    record {
      before = fs ++ es;
      last = last;
      due = record {
        comes = record {
          rest = rest;
          there = split ∙ sym (append_assoc fs es (last ∷ rest));
          front = fs;
          earlier = es;
          gathered = filter-append is_streamed fs es ∙ (ap (λ (ds : List Delivery). ds ++ in_stream es) (all_streamed p part listen.lead front fs heard shows_front first) ∙ ap (λ (ds : List Delivery). fs ++ ds) (all_streamed p part listen.lead run es heard shows_run second));
          unit = record {
            to = omega (arith, long, low);
            packets = h.packets;
            earlier_copies = copies_of p listen.lead from (n - from) es second;
            last_copy = third;
            same_byte = λ k above below. same_byte plan input l.last_stamp from n k l.kind h.packets above below;
            size = unit_size plan input l.last_stamp from n l.kind few;
            few = omega (arith, long, few);
          };
          in_time = came_before plan input listen rs (front ++ (run ++ n ∷ [])) after ((fs ++ es) ++ last ∷ []) rest due w' (split ∙ joined_deliveries fs es rest last)
              (omega (arith, length-append (fs ++ es) (last ∷ []), length-append fs es, long, long_front, length-append front (run ++ n ∷ []), length-append run (n ∷ []), length-range_with_len from (n - from))) early;
        };
        first = All-append (λ (d : Delivery). ¬ IsCopyOf p listen.lead n d) fs es (never p part listen.lead n front fs heard ends shows_front first h.first)
            (never p part listen.lead n run es heard ends shows_run second (others_in n from (n - from) (omega (arith, low))));
        waits = waits;
        finds = λ j k d at copy last_part late. rw (part_seen (pos 0) p part listen.lead k d conforming kind copy (at_place Shows (fs ++ es) j d shows at)) (ends_so (part k) last_part);
        some = rw count h.some;
        most = 382500;
        size = λ m k unit lt. let most = unit_small plan input l.last_stamp m k l.kind (first_before part m k unit) in let less = few_packets plan input l.last_stamp m k l.kind sound lt unit in omega arith;
        bytes = rw count h.bytes;
      };
    }

unit_before : (plan : TalkPlan) (input front after : List ℕ) (from n : ℕ) (listen : ListenPlan) (fs es back : List Delivery) → UnitMustBePresented plan input listen front from n after → IsConforming (pos 0) (journal plan input)
    → IsCaught plan input listen (captured plan input (front ++ (range_with_len from (n - from) ++ n ∷ after))) (map OfStream (front ++ (range_with_len from (n - from) ++ n ∷ after)))
    → deliveries_of listen (captured plan input (front ++ (range_with_len from (n - from) ++ n ∷ after))) ≡ fs ++ (es ++ back) → AreFrom (journal plan input) listen.lead (map OfStream front) fs
    → AreFrom (journal plan input) listen.lead (map OfStream (range_with_len from (n - from))) es → AreFrom (journal plan input) listen.lead (map OfStream (n ∷ after)) back → IsUnitAfter plan input listen (front ++ (range_with_len from (n - from) ++ n ∷ after)) from n
unit_before plan input front after from n listen fs es [] h conforming w split first second third = absurd third
unit_before plan input front after from n listen fs es (last ∷ rest) h conforming w split first second third = unit_in plan input front after from n listen fs es last rest h conforming w split first second third.0

pub unit_due : (plan : TalkPlan) (input front after : List ℕ) (from n : ℕ) (listen : ListenPlan) → UnitMustBePresented plan input listen front from n after → IsConforming (pos 0) (journal plan input)
    → IsCaught plan input listen (captured plan input (front ++ (range_with_len from (n - from) ++ n ∷ after))) (map OfStream (front ++ (range_with_len from (n - from) ++ n ∷ after))) → IsUnitAfter plan input listen (front ++ (range_with_len from (n - from) ++ n ∷ after)) from n
unit_due plan input front after from n listen h conforming w =
    let p = journal plan input in
    let run = range_with_len from (n - from) in
    let a = part_at p listen.lead front (run ++ n ∷ after) (deliveries_of listen (captured plan input (front ++ (run ++ n ∷ after)))) w.from in
    let b = part_at p listen.lead run (n ∷ after) a.back a.second in
    unit_before plan input front after from n listen a.front b.front b.back h conforming w (a.is ∙ ap (λ (x : List Delivery). a.front ++ x) b.is) a.first b.first b.second

-- all captured packets are of the plan
pub all_known : (plan : TalkPlan) (input front after : List ℕ) (from n : ℕ) (listen : ListenPlan) → UnitMustBePresented plan input listen front from n after → All (λ (k : ℕ). k < (journal plan input).times.packets) (front ++ (range_with_len from (n - from) ++ n ∷ after))
all_known plan input front after from n listen h =
    let In : ℕ → Type 0 = λ (k : ℕ). k < (journal plan input).times.packets in
    let low = first_before (part_sent input) from n h.packets in
    let rest = rest_of In front (n ∷ after) h.sent in
    let known = All-head In n after rest in
    All-append In front (range_with_len from (n - from) ++ n ∷ after) (all_before In front (n ∷ after) h.sent) (All-append In (range_with_len from (n - from)) (n ∷ after) (all_in In from (n - from) (λ m above below. omega (arith, below, low, known))) rest)
  where
    rest_of : (P : ℕ → Type 0) (xs ys : List ℕ) → All P (xs ++ ys) → All P ys
    rest_of P [] ys all = all
    rest_of P (x ∷ xs) ys all = rest_of P xs ys (All-tail P x (xs ++ ys) all)
