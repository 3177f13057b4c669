-- Plans and captures that meet the premises.
use Rattle.std.proofs.Common.{◌≡◌, ◌≢◌, ℕ, ◌+◌, ◌<◌, ◌≤◌, zero, suc, Bool, true, false, List, [], ◌∷◌, length, filter, inl, refl, arith}
use Rattle.std.specs.Prelude.{nat_le}
use Rattle.std.proofs.lemmas.List.Sums.{count_by-le-length, length-filter}
use Rattle.std.proofs.lemmas.Int.{ints}
use Rattle.std.proofs.lemmas.List.Elements.{All-cons, All-nil}
use Rattle.talk_plan.specs.Plan.{IsAudioPlan, most_input}
use Rattle.avtp_base.specs.Octets.{bits}
use Rattle.cvf_format.specs.AnnexB.{units_from}
use Rattle.talk_video.specs.Fragments.{part_by}
use Rattle.talk_video.specs.Units.{sent_units, units_fault}
use Rattle.talker.specs.Examples.{six_blocks}
use Rattle.talker.specs.Journal.{journal, stream_of}
use Rattle.talk_plan.specs.Timing.{first_instant, nominal_instant}
use Rattle.talked_presented.specs.Anywhere.{MustBePresented, UnitMustBePresented}
use Rattle.talked_presented.specs.Examples.{one_unit, plain, silence, thirty}
use Rattle.talked_presented.proofs.Sent.{due_before}
use Rattle.talked_presented.specs.Whole.{HasDefaultLead, IsDefaultVideo, default_listener}

plain_plan : (sparse : Bool) → IsAudioPlan (plain sparse)
plain_plan sparse = record {
  kind = tt;
  rate = refl;
  some_channels = omega arith;
  channels = omega arith;
  some_count = omega arith;
  count = omega arith;
  fits = omega arith;
  started = omega (arith, ints);
  start = omega (arith, ints);
  some_lead = omega arith;
  lead = omega arith;
  restart = tt;
  crf = tt;
}

pub dense_fits : (input : List ℕ) → length input ≤ most_input → HasDefaultLead (plain false) input
dense_fits input limit = record { talked = plain_plan false; id = omega arith; limit = limit; alone = refl; lead = refl; heads = tt }

pub sparse_fits : (input : List ℕ) → length input ≤ most_input → HasDefaultLead (plain true) input
sparse_fits input limit = record { talked = plain_plan true; id = omega arith; limit = limit; alone = refl; lead = refl; heads = refl }

blocks_plan : IsAudioPlan (six_blocks 48000)
blocks_plan = record {
  kind = tt;
  rate = refl;
  some_channels = omega arith;
  channels = omega arith;
  some_count = omega arith;
  count = omega arith;
  fits = record { quadlets = omega arith; some = omega arith; size = omega arith };
  started = omega (arith, ints);
  start = omega (arith, ints);
  some_lead = omega arith;
  lead = omega arith;
  restart = tt;
  crf = tt;
}

pub blocks_fit : (input : List ℕ) → length input ≤ most_input → HasDefaultLead (six_blocks 48000) input
blocks_fit input limit = record { talked = blocks_plan; id = omega arith; limit = limit; alone = refl; lead = refl; heads = refl }

pub video_fits : (input : List ℕ) (last_stamp : Bool) → length input ≤ most_input → IsDefaultVideo (thirty last_stamp) input
video_fits input last_stamp limit = record {
  last_stamp = last_stamp;
  kind = refl;
  talked = record {
    some_rate = omega arith;
    rate = omega arith;
    started = omega (arith, ints);
    start = omega (arith, ints);
    some_lead = omega arith;
    lead = omega arith;
    restart = refl;
    crf = refl;
  };
  stream_id = omega arith;
  limit = limit;
  lead = refl;
}

-- a packet is due at most 3 ns before its nominal first instant
due_later : (n : ℕ) → first_instant (plain false) n ≤ (journal (plain false) silence).times.due n + 3
due_later n = due_before (plain false) silence n (plain_plan false)

sent_before : (k : ℕ) → k ≤ 2 → (stream_of (plain false) silence).arrival k ≤ (journal (plain false) silence).times.due 1
unfolding nominal_instant
sent_before k le =
    let due = due_later 1 in
    let first : first_instant (plain false) 1 ≡ 1002125000 = refl in
    sent_by k le (omega arith)
  where
    sent_by : (k : ℕ) → k ≤ 2 → 1002124990 ≤ (journal (plain false) silence).times.due 1 → (stream_of (plain false) silence).arrival k ≤ (journal (plain false) silence).times.due 1
    sent_by zero le due = let sent : (stream_of (plain false) silence).arrival 0 ≡ 1000000000 = refl in omega arith
    sent_by (suc zero) le due = let sent : (stream_of (plain false) silence).arrival 1 ≡ 1000125000 = refl in omega arith
    sent_by (suc (suc zero)) le due = let sent : (stream_of (plain false) silence).arrival 2 ≡ 1000250000 = refl in omega arith
    sent_by (suc (suc (suc k))) le due = absurd (omega arith)

few_of : (test : ℕ → Bool) (xs : List ℕ) → length (filter test xs) ≤ length xs
few_of test xs = omega (arith, length-filter test xs, count_by-le-length test xs)

pub repeated_fits : MustBePresented (plain false) silence (default_listener 0x0200000000010001) (0 ∷ 2 ∷ []) 1 (1 ∷ [])
repeated_fits =
    let long : length silence ≡ 72 = refl in
    let count : (journal (plain false) silence).times.packets ≡ 3 = refl in
    let In : ℕ → Type 0 = λ (k : ℕ). k < (journal (plain false) silence).times.packets in
    let Early : ℕ → Type 0 = λ (k : ℕ). (stream_of (plain false) silence).arrival k ≤ (journal (plain false) silence).times.due 1 in
    let Other : ℕ → Type 0 = λ (k : ℕ). k ≢ 1 in
    let few = few_of (λ (k : ℕ). nat_le ((stream_of (plain false) silence).arrival 1) ((journal (plain false) silence).times.due k)) (0 ∷ 2 ∷ []) in
    record {
      comes = record {
        talk = record { talked = plain_plan false; id = omega arith; limit = omega arith; lead = tt; stream = refl; clock = tt };
        alone = refl;
        without = refl;
        sent = All-cons In 0 (2 ∷ 1 ∷ 1 ∷ []) (omega arith) (All-cons In 2 (1 ∷ 1 ∷ []) (omega arith) (All-cons In 1 (1 ∷ []) (omega arith) (All-cons In 1 [] (omega arith) (All-nil In))));
        timed = inl refl;
        in_time = All-cons Early 0 (2 ∷ []) (sent_before 0 (omega arith)) (All-cons Early 2 [] (sent_before 2 (omega arith)) (All-nil Early));
      };
      first = All-cons Other 0 (2 ∷ []) (λ e. cc) (All-cons Other 2 [] (λ e. cc) (All-nil Other));
      some = omega arith;
      bytes = omega arith;
    }

pub unit_fits : UnitMustBePresented (thirty false) one_unit (default_listener 0x0200000000010001) [] 0 0 (0 ∷ [])
unfolding sent_units units_fault part_by units_from bits
unit_fits =
    let count : (journal (thirty false) one_unit).times.packets ≡ 1 = refl in
    let In : ℕ → Type 0 = λ (k : ℕ). k < (journal (thirty false) one_unit).times.packets in
    let plan = video_fits one_unit false (omega arith) in
    record {
      talk = record { last_stamp = false; kind = refl; talked = plan.talked; stream_id = plan.stream_id; limit = plan.limit; near = tt; stream = refl; clock = tt };
      sent = All-cons In 0 (0 ∷ []) (omega arith) (All-cons In 0 [] (omega arith) (All-nil In));
      packets = inl (refl, refl);
      in_time = All-nil (λ (k : ℕ). (stream_of (thirty false) one_unit).arrival k ≤ (journal (thirty false) one_unit).times.due 0);
      first = All-nil (λ (k : ℕ). k ≢ 0);
      some = omega arith;
      bytes = omega arith;
    }
