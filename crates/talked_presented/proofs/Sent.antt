-- What a listener gets from a whole capture of an audio plan without a clock: packet n in record n, in order and in
-- time.
use Rattle.std.proofs.Common.{◌≡◌, ℕ, zero, suc, ◌+◌, ◌-◌, ◌*◌, ◌<◌, ◌≤◌, Bool, true, false, ℤ, pos, ◌≤ℤ◌, List, All, length, map, Option, Some, None, is_some, refl, sym, ap, ◌∙◌, subst, inl, inr, arith, length-append}
use Rattle.std.specs.Prelude.{IsSome, slice_get}
use Rattle.std.specs.Int.{int_max}
use Rattle.std.specs.List.{AllByRecursion, range_with_len}
use Rattle.std.proofs.lemmas.List.FromFn.{length-map-range_with_len}
use Rattle.std.proofs.lemmas.Bool.{cases_lt}
use Rattle.std.proofs.lemmas.Int.{ints}
use Rattle.std.proofs.lemmas.List.{length-map}
use Rattle.std.proofs.Math.Nat.{mul-le-mul_right}
use Rattle.avtp_base.specs.Layout.{spelling}
use Rattle.aaf_format.specs.Aaf.{aaf_layout}
use Rattle.iec61883_format.specs.Iec.{iec_layout}
use Rattle.cvf_format.specs.Cvf.{layout_of}
use Rattle.pcap_frames.specs.Capture.{Record}
use Rattle.time_unfold.specs.declared.head_rule.Head.{Head}
use Rattle.stream_journal.specs.Conforming.{IsAudio}
use Rattle.stream_journal.specs.Delivered.{Copy, IsAudioKind}
use Rattle.stream_journal.specs.Journal.{IsAt, Journal, head_of}
use Rattle.stream_journal.proofs.Spacing.{spaced}
use Rattle.packet_journal.specs.Deliveries.{Delivery}
use Rattle.packet_journal.specs.Delivered.{IsCopyOf, OfStream}
use Rattle.packet_journal.specs.Packets.{PacketJournal, PacketView, Pcm, Am824Data, H264Data, carried, spelling_of}
use Rattle.sample_schedule.proofs.StageLemmas.{now-next}
use Rattle.listener.specs.declared.plan.ListenPlan.{ListenPlan}
use Rattle.listener.specs.Heard.{deliveries_of, entries_in}
use Rattle.listener.specs.Items.{MadeItem, entries, entry_of, items_of, made_entry, made_of_one}
use Rattle.listener.specs.Known.{IsKnownCopy}
use Rattle.listener.specs.Laws.{HearsTalker, IsTimely, by_clock, time_of}
use Rattle.listener.proofs.KnownItems.{audio_item, origins_of}
use Rattle.listener.proofs.Made.{IsOther, items_other}
use Rattle.listener.proofs.TrueHeard.{at_nominal}
use Rattle.listener.proofs.TrueList.{audio, others}
use Rattle.listener.proofs.TrueTimely.{entry_there, item_there}
use Rattle.listener.proofs.Welcome.{arrives, first_time}
use Rattle.talk_plan.specs.declared.plan.TalkKind.{TalkKind}
use Rattle.talk_plan.specs.declared.plan.TalkKind.TheVariants.{Aaf, Am824, H264}
use Rattle.talk_plan.specs.declared.plan.TalkPlan.{TalkPlan}
use Rattle.listener_laws.proofs.Carried.{AreRead}
use Rattle.talk_plan.specs.Plan.{Expects, IsAhead, IsAudioKind as IsAudioTalk, IsAudioPlan, most_input}
use Rattle.talk_plan.specs.Timing.{arrival_of as sent_at, first_instant}
use Rattle.talk_plan.proofs.HeaderLemmas.{bytes_size}
use Rattle.talk_plan.proofs.StampLemmas.{most_early, most_late}
use Rattle.talk_plan.proofs.TimingLemmas.{lead_within}
use Rattle.talk_audio.specs.Audio.{audio_by}
use Rattle.talk_audio.specs.Streams.{audio_of, packets_of}
use Rattle.talk_audio.proofs.DueLemmas.{due_near}
use Rattle.talk_audio.proofs.FormatLemmas.{format_of, has_format}
use Rattle.talker.specs.Frames.{record_of, records}
use Rattle.talker.specs.Journal.{Stream, journal, stream_by, stream_of}
use Rattle.talker.proofs.StreamLemmas.{IsStream, packets_in}
use Rattle.talker.proofs.TalkLemmas.{audio_plan, frames_alone, plan_keeps, stream_is}
use Rattle.talked_presented.specs.Whole.{HoldsLead}
use Rattle.talked_presented.proofs.Caught.{IsCaught, IsCaughtAt, as_many, is_caught, stream_heard}
use Rattle.talked_presented.proofs.Merged.{IsSent, stream_frames_are}
use Rattle.talked_presented.proofs.Whole.{AreTimely}

-- ---- the journal of a plan of audio

-- The journal has the plan's rate and count, and packets are sent when the plan says.
pub record HasTimes (plan : TalkPlan) (s : Stream) : Type 0 where
  pub rate : s.journal.times.rate ≡ plan.rate
  pub count : s.journal.times.count ≡ plan.count
  pub arrival : (n : ℕ) → s.arrival n ≡ sent_at plan n

times_by : (kind : TalkKind) (plan : TalkPlan) (input : List ℕ) → IsAudioTalk kind → HasTimes plan (stream_by (audio_by kind plan) plan input)
times_by (Aaf format sparse) plan input kind = record { rate = refl; count = refl; arrival = λ n. refl }
times_by Am824 plan input kind = record { rate = refl; count = refl; arrival = λ n. refl }
times_by (H264 last_stamp) plan input kind = absurd kind

pub has_times : (plan : TalkPlan) (input : List ℕ) → IsAudioPlan plan → HasTimes plan (stream_of plan input)
has_times plan input p = times_by plan.kind plan input p.kind

-- a packet is due at most 1 ns after its nominal first instant
pub due_after : (plan : TalkPlan) (input : List ℕ) (n : ℕ) → IsAudioPlan plan → (journal plan input).times.due n ≤ first_instant plan n + 1
due_after plan input n p =
    let has = has_format plan p in
    let s = has.stream in
    let P : TalkPlan → Type 0 = λ (plan : TalkPlan). (journal plan input).times.due n ≤ first_instant plan n + 1 in
    let near = due_near (audio_of s).kind s.plan (packets_of s input) n has.audio.plan (format_of s has.audio).kind in
    let here : P s.plan = subst (λ (stream : Stream). stream.journal.times.due n ≤ first_instant s.plan n + 1) (sym (stream_is s input has.audio))
    (omega (arith, near.from, most_late s.plan.crf)) in
    subst P has.plan_is here

pub due_before : (plan : TalkPlan) (input : List ℕ) (n : ℕ) → IsAudioPlan plan → first_instant plan n ≤ (journal plan input).times.due n + 3
due_before plan input n p =
    let has = has_format plan p in
    let s = has.stream in
    let P : TalkPlan → Type 0 = λ (plan : TalkPlan). first_instant plan n ≤ (journal plan input).times.due n + 3 in
    let near = due_near (audio_of s).kind s.plan (packets_of s input) n has.audio.plan (format_of s has.audio).kind in
    let here : P s.plan = subst (λ (stream : Stream). first_instant s.plan n ≤ stream.journal.times.due n + 3) (sym (stream_is s input has.audio))
    (omega (arith, near.to, most_early s.plan.crf)) in
    subst P has.plan_is here

due_soon : (plan : TalkPlan) (input : List ℕ) (n : ℕ) → IsAudioPlan plan → (journal plan input).times.due n ≤ (stream_of plan input).arrival n + plan.lead + 1
due_soon plan input n p =
    let after = due_after plan input n p in
    let sent = (has_times plan input p).arrival n in
    let within = lead_within plan n in
    omega arith

-- ---- fewer than `buffer` packets wait

few_by : (x y lead rate k m buffer size : ℕ) → y ≤ x + lead + 1 → 4 * (x * rate) + 3 * m * size ≤ 4 * (y * rate) → 4 * ((lead + 1) * rate) < 3 * (buffer * size) → m < buffer
few_by x y lead rate k m buffer size soon far room = elim (cases_lt m buffer) [
  | inl less ↦ less
  | inr past ↦
      let most : y * rate ≤ (x + lead + 1) * rate = mul-le-mul_right rate soon in
      let times : buffer * size ≤ m * size = mul-le-mul_right size past in
      absurd (omega arith)
]

pub few_wait : (plan : TalkPlan) (input : List ℕ) (listen : ListenPlan) (k n : ℕ) → IsAudioPlan plan → IsAudio (journal plan input).times → HoldsLead plan listen → k ≤ n → n < (journal plan input).times.packets
    → (stream_of plan input).arrival n ≤ (journal plan input).times.due k → n < k + listen.buffer
few_wait plan input listen k n p is room le known early =
    let j = (journal plan input).times in
    let has = has_times plan input p in
    let soon = due_soon plan input n p in
    let sum : k + (n - k) ≡ n = omega (arith, le) in
    let far : 4 * (j.due k * plan.rate) + 3 * (n - k) * (plan.count * 1000000000) ≤ 4 * (j.due n * plan.rate) =
    apart_as j.rate plan.rate j.count plan.count (j.due k) (j.due (k + (n - k))) (j.due n) (n - k) has.rate has.count (ap j.due sum) (spaced j is k (n - k) (omega (arith, sum, known))) in
    let fewer = few_by (j.due k) (j.due n) plan.lead plan.rate k (n - k) listen.buffer (plan.count * 1000000000) (omega arith) far room.packets in
    omega arith
  where
    apart_as : (r rate c count x z y m : ℕ) → r ≡ rate → c ≡ count → z ≡ y → 4 * (x * r) + 3 * m * (c * 1000000000) ≤ 4 * (z * r) → 4 * (x * rate) + 3 * m * (count * 1000000000) ≤ 4 * (y * rate)
    apart_as r rate c count x z y m e f g h = rw (← e, ← f, ← g) h

-- ---- the size of a packet

carried_less : (view : PacketView) → length (carried view) ≤ length (spelling_of view)
carried_less (Pcm v) = omega (arith, length-append (spelling aaf_layout v) v.payload)
carried_less (Am824Data v) = omega (arith, length-append (spelling iec_layout v) v.payload)
carried_less (H264Data v) = omega (arith, length-append (spelling (layout_of v.part) v) v.body)

pub packet_size : (plan : TalkPlan) (input : List ℕ) (n : ℕ) → IsStream plan (stream_of plan input) → n < (journal plan input).times.packets → length (carried ((journal plan input).packet n)) ≤ 1500
packet_size plan input n is known =
    let view = (journal plan input).packet n in
    omega (arith, is.size n known, bytes_size view, carried_less view)

-- ---- when each delivery is judged

pub later_one : (x y : ℕ) → x ≤ y → int_max (pos x) (pos y) ≡ pos y
later_one x y le = grind (arith, ints)

-- if deliveries are in the order of their arrivals, each is judged at its arrival
judged_at : (plan : ListenPlan) (rs : List Record) (at : ℕ → ℕ) (n : ℕ) → All IsOther (deliveries_of plan rs) → ((m : ℕ) → at m ≤ at (m + 1)) → ((m : ℕ) → m ≤ n → (d : Delivery) × ((slice_get (deliveries_of plan rs) m ≡ Some d) × (d.arrival ≡ pos (at m))))
    → time_of plan rs n ≡ pos (at n)
judged_at plan rs at zero all rises each =
    let here = each zero (omega arith) in
    first_time (entries_in plan rs) (entry_of here.0) (entry_there (deliveries_of plan rs) 0 here.0 all here.1.0)
    ∙ (ap (int_max (pos 0)) (arrives here.0 ∙ here.1.1) ∙ later_one 0 (at 0) (omega arith))
judged_at plan rs at (suc n) all rises each =
    let here = each (suc n) (omega arith) in
    let before : time_of plan rs n ≡ pos (at n) = judged_at plan rs at n all rises (λ m le. each m (omega arith)) in
    let next : n + 1 ≡ suc n = omega arith in
    let rise : at n ≤ at (suc n) = subst (λ (m : ℕ). at n ≤ at m) next (rises n) in
    now-next (entries_in plan rs) (suc n) (entry_of here.0) (entry_there (deliveries_of plan rs) (suc n) here.0 all here.1.0)
    ∙ (ap (int_max (time_of plan rs n)) (arrives here.0 ∙ here.1.1)
    ∙ (ap (λ (z : ℤ). int_max z (pos (at (suc n)))) before ∙ later_one (at n) (at (suc n)) rise))

-- ---- a packet that is known and arrives in time

pub due_head : (j : Journal) (n : ℕ) (o : Option Head) → IsAudioKind j.kind → IsAudio j → n < j.packets → head_of j n ≡ o → IsSome o → IsAt false j n 0 (pos (j.due n))
due_head j n None kind is known e some = absurd cc
due_head j n (Some head) kind is known e some = at_nominal j.kind j n 0 _ kind (record { head = head; is_head = e; at = is.first_instants n head known e })

-- Let a copy have a head and be known. If the copy is judged no later than its packet is due, the copy's item is
-- timely.
timely_of : (shift : ℤ) (p : PacketJournal) (plan : ListenPlan) (records : List Record) (place n : ℕ) (d : Delivery) → HearsTalker shift p plan records → IsAudioKind p.times.kind → plan.clock ≡ None → slice_get (deliveries_of plan records) place ≡ Some d
    → (copy : IsCopyOf p plan.lead n d) → IsSome (head_of p.times n) → IsKnownCopy p plan records place (record { number = n; arrival = copy.arrival }) → time_of plan records place ≤ℤ pos (p.times.due n) → IsTimely p plan records place n (made_of_one d)
timely_of shift p plan records place n d h kind off at copy some known early =
    let by_is : by_clock plan ≡ false = rw off refl in
    record {
      there = item_there (deliveries_of plan records) place d (others shift p plan records h kind) at;
      copy = record { from = n; to = omega arith; earlier = tt; last = copy };
      known = audio_item p.times.kind p plan records place (record { number = n; arrival = copy.arrival }) (made_of_one d) kind known;
      instant = pos (p.times.due n);
      at = subst (λ (by : Bool). IsAt by p.times n 0 (pos (p.times.due n))) (sym by_is) (due_head p.times n (head_of p.times n) kind (audio p kind h.conforming.times) copy.delivered.known refl some);
      in_time = early;
    }

pub not_both : (b : Bool) → b ≡ false → b ≡ true → ⊥
not_both b e f = cc

-- a listener without a clock knows each stamped copy
pub known_stamped : (shift : ℤ) (p : PacketJournal) (plan : ListenPlan) (records : List Record) (place : ℕ) (c : Copy) → HearsTalker shift p plan records → plan.clock ≡ None → is_some (p.times.stamp c.number) ≡ true → IsKnownCopy p plan records place c
known_stamped shift p plan records place c h off stamped =
    let by_is : by_clock plan ≡ false = rw off refl in
    record {
      origins = h.delivered.origins;
      from = origins_of shift p plan records h;
      is = record { timed = inl stamped; covered = λ on head e. absurd (not_both (is_some plan.clock) by_is on) };
    }

some_head : (j : Journal) (n : ℕ) (o : Option ℕ) → j.stamp n ≡ o → is_some o ≡ true → IsSome (head_of j n)
some_head j n None e some = absurd cc
some_head j n (Some instant) e some = rw e refl

pub stamped_head : (j : Journal) (n : ℕ) → is_some (j.stamp n) ≡ true → IsSome (head_of j n)
stamped_head j n some = some_head j n (j.stamp n) refl some

-- ---- a whole capture

entries_long : (ds : List Delivery) → All IsOther ds → length (entries ds) ≡ length ds
entries_long ds all = length-map (items_of ds) made_entry ∙ (ap (λ (l : List MadeItem). length l) (items_other ds all) ∙ length-map ds made_of_one)

packet_at : (a k i n : ℕ) → i < k → a + i ≡ n → slice_get (map OfStream (range_with_len a k)) i ≡ Some (OfStream n)
packet_at a zero i n lt e = absurd (omega arith)
packet_at a (suc k) zero n lt e = let same : a ≡ n = omega arith in ap (λ (m : ℕ). Some (OfStream m)) same
packet_at a (suc k) (suc i) n lt e = packet_at (a + 1) k i n (omega arith) (omega arith)

pub all_sent : (s : Stream) (a k : ℕ) → a + k ≤ packets_in s → AllByRecursion (IsSent s) (map OfStream (range_with_len a k))
all_sent s a zero le = tt
all_sent s a (suc k) le = (omega arith, all_sent s (a + 1) k (omega arith))

-- the listener gets each packet once, in order
abbrev pub IsWhole : TalkPlan → List ℕ → ListenPlan → List Record → Type 0
IsWhole plan input listen rs = IsCaught plan input listen rs (map OfStream (range_with_len 0 (journal plan input).times.packets))

pub whole_caught : (plan : TalkPlan) (input : List ℕ) (listen : ListenPlan) → IsAudioPlan plan → plan.crf ≡ None → length input ≤ most_input → Expects plan listen.lead → HearsTalker (pos 0) (journal plan input) listen (records plan input)
    → AreRead (journal plan input) listen.lead → IsWhole plan input listen (records plan input)
whole_caught plan input listen p none limit expects h are =
    let s = stream_of plan input in
    let N = packets_in s in
    let plan_is = audio_plan plan p in
    is_caught plan input listen (records plan input) (map OfStream (range_with_len 0 N)) h (plan_keeps plan input plan_is limit) expects are (all_sent s 0 N (omega arith)) (stream_heard (journal plan input) listen.clock (range_with_len 0 N))
    (ap (map record_of) (frames_alone plan input plan_is none limit ∙ sym (stream_frames_are s (range_with_len 0 N))))

-- delivery n is a copy of packet n
pub caught_at : (plan : TalkPlan) (input : List ℕ) (listen : ListenPlan) (rs : List Record) (n : ℕ) → IsWhole plan input listen rs → n < (journal plan input).times.packets → IsCaughtAt (journal plan input) (stream_of plan input) listen rs n (OfStream n)
caught_at plan input listen rs n w lt = w.each n (OfStream n) (packet_at 0 (journal plan input).times.packets n n lt (omega arith))

-- if each packet has a head and is known, each is timely
pub are_timely : (plan : TalkPlan) (input : List ℕ) (listen : ListenPlan) (rs : List Record) → IsAudioPlan plan → plan.crf ≡ None → IsAudioKind (journal plan input).times.kind → listen.clock ≡ None → HoldsLead plan listen
    → (w : IsWhole plan input listen rs)
    → ((n : ℕ) → n < (journal plan input).times.packets → IsSome (head_of (journal plan input).times n))
    → ((n : ℕ) (lt : n < (journal plan input).times.packets) → IsKnownCopy (journal plan input) listen rs n (record { number = n; arrival = (caught_at plan input listen rs n w lt).copy.arrival }))
    → AreTimely (pos 0) (journal plan input) listen rs
are_timely plan input listen rs p none kind off room w heads known =
    let j = journal plan input in
    let s = stream_of plan input in
    let all = others (pos 0) j listen rs w.heard kind in
    let time : (n : ℕ) → n < j.times.packets → time_of listen rs n ≡ pos (s.arrival n) =
    λ n lt. judged_at listen rs s.arrival n all w.stream.rising (λ m le. let here = caught_at plan input listen rs m w (omega (arith, le, lt)) in (here.d, (here.there, here.arrived))) in
    let ready : IsAhead plan.crf plan.lead = rw none tt in
    record {
      heard = w.heard;
      kind = kind;
      off = off;
      entries = entries_long (deliveries_of listen rs) all ∙ (as_many j listen.lead (map OfStream (range_with_len 0 j.times.packets)) (deliveries_of listen rs) w.from ∙ length-map-range_with_len OfStream 0 j.times.packets);
      each = λ n lt.
          let here = caught_at plan input listen rs n w lt in
          let early : time_of listen rs n ≤ℤ pos (j.times.due n) = omega (arith, ints, time n lt, w.stream.early n ready lt) in
          record {
            made = made_of_one here.d;
            timely = timely_of (pos 0) j listen rs n n here.d w.heard kind off here.there here.copy (heads n lt) (known n lt) early;
          };
      few = λ k n le lt early. few_wait plan input listen k n p (audio j kind w.heard.conforming.times) room le lt (omega (arith, ints, time n lt, early));
      size = λ n lt. packet_size plan input n w.stream lt;
      bytes = room.bytes;
    }
