-- A whole capture of a plan with a clock, and what a listener with the talker's clock gets from it.
use Rattle.std.proofs.Common.{◌≡◌, ℕ, ◌+◌, ◌-◌, ◌*◌, ◌/◌, ◌%◌, ◌≤◌, true, false, ℤ, pos, List, [], ◌∷◌, length, map, Option, Some, None, is_some, refl, sym, ap, ◌∙◌, subst, inl, inr, arith}
use Rattle.std.specs.Prelude.{nat_lt}
use Rattle.std.proofs.lemmas.Bool.Decides.{nat_tests}
use Rattle.time_unfold.specs.Heads.{stamped_index}
use Rattle.stream_journal.specs.Journal.{rule_of}
use Rattle.std.specs.List.{AllByRecursion}
use Rattle.packet_journal.specs.Delivered.{Origin, OfClock, OfStream}
use Rattle.packet_journal.specs.Packets.{PacketJournal}
use Rattle.listener.specs.declared.plan.ListenPlan.{ListenPlan}
use Rattle.listener.specs.Laws.{FollowsClock, HearsTalker}
use Rattle.listener_laws.proofs.Carried.{AreRead, HearsOrigin}
use Rattle.talk_plan.specs.declared.plan.CrfPlan.{CrfPlan}
use Rattle.talk_plan.specs.declared.plan.TalkKind.{TalkKind}
use Rattle.talk_plan.specs.declared.plan.TalkKind.TheVariants.{Aaf, Am824, H264}
use Rattle.talk_plan.specs.declared.plan.TalkPlan.{TalkPlan}
use Rattle.talk_plan.specs.Plan.{IsAudioPlan, interval_of, most_input}
use Rattle.talk_plan.specs.Beats.{stamped_at}
use Rattle.talk_plan.specs.Stamps.{beat_of, stamped_by}
use Rattle.talk_plan.specs.Timing.{event_of, first_packet, run_of, run_start}
use Rattle.talk_plan.proofs.RateLemmas.{rate_range}
use Rattle.talk_audio.specs.Audio.{audio_by}
use Rattle.talk_audio.specs.Streams.{audio_of, headers_of}
use Rattle.talk_audio.proofs.FormatLemmas.{format_of, has_format}
use Rattle.talk_clock.specs.Clock.{AreFew, clock_arrival_by, clock_times}
use Rattle.talker.specs.Frames.{record_of, records}
use Rattle.talker.specs.Journal.{Stream, journal, stream_by, stream_of}
use Rattle.talker.specs.state.Frames.{left_of}
use Rattle.talker.proofs.AudioLemmas.{timely}
use Rattle.talker.proofs.StreamLemmas.{clocks_in, frames_of, packets_in}
use Rattle.talker.proofs.TalkLemmas.{audio_plan, is_of, plan_keeps, stream_is}
use Rattle.talked_clocked.specs.Clocked.{HasDefaultClock, HearsClock, StampsFirst, clocked_listener}
use Rattle.talked_headline.proofs.Talked.{kind_heard}
use Rattle.talked_presented.proofs.Caught.{is_caught}
use Rattle.talked_clocked.proofs.Clocked.{HasWhole}
use Rattle.talked_clocked.proofs.Covered.{IsClocked, stamp_at}
use Rattle.talked_presented.proofs.Defaults.{expects_by, holds}
use Rattle.talked_presented.proofs.Known.{IsInterval, interval_is}
use Rattle.talked_presented.proofs.Merged.{all_merged, frame_by}
use Rattle.talked_presented.proofs.Sent.{has_times}

-- ---- the journal

few_packets : (plan : TalkPlan) (input : List ℕ) → IsAudioPlan plan → length input ≤ most_input → AreFew plan (journal plan input).times.packets
few_packets plan input p limit =
    let has = has_format plan p in
    let s = has.stream in
    let P : TalkPlan → Type 0 = λ (plan : TalkPlan). AreFew plan (journal plan input).times.packets in
    let here : P s.plan = subst (λ (stream : Stream). AreFew s.plan stream.journal.times.packets) (sym (stream_is s input has.audio)) (λ n lt. timely s.plan (audio_of s) (headers_of s) input n has.audio.plan (format_of s has.audio) limit lt) in
    subst P has.plan_is here

stamp_is : (plan : TalkPlan) (crf : CrfPlan) (n : ℕ) → plan.crf ≡ Some crf → plan.restart ≡ None → stamped_by plan.crf plan n 0 ≡ stamp_at plan crf n
stamp_is plan crf n e r =
    let run : run_of plan n ≡ 0 = rw r refl in
    let first : first_packet plan (run_of plan n) ≡ 0 = rw r refl in
    let none : n - 0 ≡ n = omega arith in
    let events : event_of plan n 0 ≡ n * plan.count = ap (λ (z : ℕ). (n - z) * plan.count + 0) first ∙ rw none (omega arith) in
    ap (λ (o : Option CrfPlan). stamped_by o plan n 0) e
    ∙ (ap (λ (g : ℕ). stamped_at (beat_of crf plan) (run_start plan g) (event_of plan n 0)) run ∙ ap (stamped_at (beat_of crf plan) (run_start plan 0)) events)

-- if the number of blocks in a packet is a multiple of the SYT interval, each packet stamps its first block
first_index : (interval n count : ℕ) → IsInterval interval → count % interval ≡ 0 → (interval - n * count % 256 % interval) % interval ≡ 0
first_index interval n count (inl e) whole =
    let times : count ≡ 8 * (count / 8) = let w = rw e at whole in omega arith in
    rw (e, times) (first_of_8 n (count / 8))
  where
    first_of_8 : (n k : ℕ) → (8 - n * (8 * k) % 256 % 8) % 8 ≡ 0
    first_of_8 n k = let x : n * (8 * k) ≡ 8 * (n * k) = omega arith in rw x (omega arith)
first_index interval n count (inr (inl e)) whole =
    let times : count ≡ 16 * (count / 16) = let w = rw e at whole in omega arith in
    rw (e, times) (first_of_16 n (count / 16))
  where
    first_of_16 : (n k : ℕ) → (16 - n * (16 * k) % 256 % 16) % 16 ≡ 0
    first_of_16 n k = let x : n * (16 * k) ≡ 16 * (n * k) = omega arith in rw x (omega arith)
first_index interval n count (inr (inr e)) whole =
    let times : count ≡ 32 * (count / 32) = let w = rw e at whole in omega arith in
    rw (e, times) (first_of_32 n (count / 32))
  where
    first_of_32 : (n k : ℕ) → (32 - n * (32 * k) % 256 % 32) % 32 ≡ 0
    first_of_32 n k = let x : n * (32 * k) ≡ 32 * (n * k) = omega arith in rw x (omega arith)

is_some_count : (n : ℕ) → 1 ≤ n → nat_lt 0 n ≡ true
is_some_count n some = grind (arith, nat_tests)

-- what the journal holds if each packet of a plan of this kind stamps its first sample
record HasFirst (kind : TalkKind) (plan : TalkPlan) (crf : CrfPlan) (input : List ℕ) : Type 0 where
  first : (n : ℕ) → stamped_index (rule_of (stream_by (audio_by kind plan) plan input).journal.times.kind n) ≡ 0
  stamp : (n : ℕ) → (stream_by (audio_by kind plan) plan input).journal.times.stamp n ≡ Some (stamped_by plan.crf plan n 0)
  clock : (stream_by (audio_by kind plan) plan input).journal.times.clock ≡ clock_times crf plan (stream_by (audio_by kind plan) plan input).journal.times.packets
  id : crf.id ≡ (stream_by (audio_by kind plan) plan input).journal.clock

has_first : (kind : TalkKind) (plan : TalkPlan) (crf : CrfPlan) (input : List ℕ) → plan.crf ≡ Some crf → 1 ≤ plan.count → StampsFirst kind plan → HasFirst kind plan crf input
has_first (Aaf format false) plan crf input e some stamps = record { first = λ n. refl; stamp = λ n. refl; clock = rw e refl; id = rw e refl }
has_first (Aaf format true) plan crf input e some stamps = absurd stamps
has_first Am824 plan crf input e some stamps = record {
  first = λ n. first_index (interval_of plan.rate) n plan.count (interval_is plan.rate) stamps;
  stamp = λ n. rw (first_index (interval_of plan.rate) n plan.count (interval_is plan.rate) stamps, is_some_count plan.count some) refl;
  clock = rw e refl;
  id = rw e refl;
}
has_first (H264 last_stamp) plan crf input e some stamps = absurd stamps

clocked_is : (plan : TalkPlan) (crf : CrfPlan) (input : List ℕ) → IsAudioPlan plan → length input ≤ most_input → StampsFirst plan.kind plan → plan.crf ≡ Some crf → plan.restart ≡ None → IsClocked plan crf (journal plan input).times
clocked_is plan crf input p limit stamps e r =
    let has = has_first plan.kind plan crf input e p.some_count stamps in
    record {
      talked = p;
      crf_is = e;
      steady = r;
      few = few_packets plan input p limit;
      kind = kind_heard plan input p;
      first = has.first;
      rate = (has_times plan input p).rate;
      clock = has.clock;
      stamp = λ n. has.stamp n ∙ ap Some (stamp_is plan crf n e r);
    }

-- ---- the capture

all_left : (s : Stream) → left_of s 0 0 ≡ frames_of s
all_left s =
    let c : clocks_in s - 0 ≡ clocks_in s = omega arith in
    let p : packets_in s - 0 ≡ packets_in s = omega arith in
    rw (c, p) refl

all_hear : (p : PacketJournal) (clock : Option ℕ) (os : List Origin) → clock ≡ Some p.clock → AllByRecursion (HearsOrigin p clock) os
all_hear p clock [] e = tt
all_hear p clock (OfStream n ∷ os) e = (tt, all_hear p clock os e)
all_hear p clock (OfClock m ∷ os) e = (e, all_hear p clock os e)

follows_by : (p : PacketJournal) (shift : ℤ) (clock : Option ℕ) (id : ℕ) → clock ≡ Some id → FollowsClock (pos 0) p shift clock → (id ≡ p.clock) × (shift ≡ pos 0)
follows_by p shift clock id e f = subst (FollowsClock (pos 0) p shift) e f

pub record IsWholeHeard (plan : TalkPlan) (crf : CrfPlan) (input : List ℕ) (listen : ListenPlan) : Type 0 where
  pub origins : List Origin
  pub whole : HasWhole plan crf input listen (records plan input) origins

pub whole_heard : (plan : TalkPlan) (crf : CrfPlan) (input : List ℕ) (listen : ListenPlan) → HearsClock plan crf input listen → HearsTalker (pos 0) (journal plan input) listen (records plan input) → AreRead (journal plan input) listen.lead → IsWholeHeard plan crf input listen
whole_heard plan crf input listen h heard are =
    let p = journal plan input in
    let s = stream_of plan input in
    let l = h.talk in
    let is_plan = audio_plan plan l.talked in
    let stream = plan_keeps plan input is_plan l.limit in
    let merged = all_merged plan s stream in
    let os = merged.origins in
    let records_are : records plan input ≡ map record_of (map (frame_by s) os) = ap (map record_of) (sym (all_left s) ∙ merged.frames) in
    let follows = follows_by p listen.shift listen.clock crf.id h.with_clock l.clock in
    let clock : listen.clock ≡ Some p.clock = h.with_clock ∙ ap Some follows.0 in
    record {
      origins = os;
      whole = record {
        caught = is_caught plan input listen (records plan input) os heard stream l.lead are merged.sent (all_hear p listen.clock os clock) records_are;
        kind = kind_heard plan input l.talked;
        clocked = clocked_is plan crf input l.talked l.limit h.stamps h.crf_is h.steady;
        ahead = h.ahead;
        clock_sent = λ m. (is_of plan input is_plan l.limit).clock.arrival m ∙ ap (λ (o : Option CrfPlan). clock_arrival_by o plan m) h.crf_is;
        on = ap is_some h.with_clock;
        shift = follows.1;
        now = h.now;
        room = h.room;
        merged = merged.merged;
      };
    }

-- ---- the defaults

pub default_hears : (plan : TalkPlan) (crf : CrfPlan) (input : List ℕ) → HasDefaultClock plan crf input → HearsClock plan crf input (clocked_listener plan.id crf.id)
default_hears plan crf input h = record {
  talk = record {
    talked = h.talked;
    id = h.id;
    limit = h.limit;
    lead = expects_by plan.kind plan h.lead h.talked.some_count;
    stream = refl;
    clock = ((has_first plan.kind plan crf input h.crf_is h.talked.some_count h.stamps).id, refl);
  };
  stamps = h.stamps;
  steady = h.steady;
  crf_is = h.crf_is;
  ahead = let lead = h.lead in omega arith;
  with_clock = refl;
  now = refl;
  room = record {
    packets = holds plan.lead plan.rate plan.count h.lead (rate_range plan h.talked).most h.talked.some_count;
    bytes = omega arith;
  };
}
