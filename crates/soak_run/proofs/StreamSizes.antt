-- How many samples the stream has, and how many packets they fill.
use Rattle.std.proofs.Common.{◌≡◌, ℕ, zero, suc, ◌*◌, ◌/◌, ◌%◌, ◌≤◌, true, ◌⊎◌, inl, inr, Some, None, List, [], ◌∷◌, ◌++◌, length, refl, sym, ap, ◌∙◌, arith, length-append}
use Rattle.std.specs.Prelude.{◌==◌}
use Rattle.std.specs.List.{flat_map, range_with_len}
use Rattle.std.specs.Int.{div_ceil}
use Rattle.std.proofs.lemmas.Int.{ints}
use Rattle.std.proofs.lemmas.List.{append-nil}
use Rattle.std.proofs.lemmas.Grind.{flat_map-append}
use Rattle.talk_plan.specs.declared.fault.TalkFault.{TalkFault}
use Rattle.talk_plan.specs.declared.fault.TalkFault.TheVariants.{Memory}
use Rattle.talker.specs.Faults.{fault_of}
use Rattle.talker.specs.Frames.{stream_frames}
use Rattle.soak_run.specs.Network.{soak_plan}
use Rattle.talker.specs.Journal.{stream_of}
use Rattle.talk_plan.specs.Plan.{IsAudioPlan, most_input}
use Rattle.talker.proofs.StreamLemmas.{count_of, packets_in}
use Rattle.talker.proofs.TalkLemmas.{none_late}
use Rattle.soak_run.specs.Captured.{sample_frame, sample_frames, soak_input}
use Rattle.soak_run.proofs.SoakLemmas.{range-more}

-- the first `n + 1` sample frames are the first n sample frames, followed by sample frame n
pub frames_more : (n : ℕ) → sample_frames (suc n) ≡ sample_frames n ++ sample_frame n
frames_more n =
    ap (λ (l : List ℕ). flat_map sample_frame l) (range-more 0 n n (omega arith))
    ∙ flat_map-append sample_frame (range_with_len 0 n) (n ∷ [])
    ∙ ap (λ (l : List ℕ). sample_frames n ++ l) (append-nil (sample_frame n))

frame_long : (k : ℕ) → length (sample_frame k) ≡ 4
frame_long k = refl

frames_long : (n : ℕ) → length (sample_frames n) ≡ 4 * n
frames_long zero = refl
frames_long (suc n) = omega (arith, ap length (frames_more n), length-append (sample_frames n) (sample_frame n), frame_long n, frames_long n)

pub input_long : (packets : ℕ) → length (soak_input packets) ≡ 24 * packets
unfolding soak_input
input_long packets = omega (arith, frames_long (6 * packets))

filled : (long packets : ℕ) → long ≡ 24 * packets → div_ceil (long / 4) 6 ≡ packets
filled long packets e = omega arith

pub stream_long : (packets : ℕ) → packets_in (stream_of soak_plan (soak_input packets)) ≡ packets
stream_long packets = filled (length (soak_input packets)) packets (input_long packets)

pub frames_of_stream : (packets : ℕ) → length (stream_frames soak_plan (soak_input packets)) ≡ packets
frames_of_stream packets = count_of (stream_of soak_plan (soak_input packets)) ∙ stream_long packets

pub input_within : (packets : ℕ) → packets ≤ 1000000 → length (soak_input packets) ≤ most_input
input_within packets few = omega (arith, input_long packets)

pub soak_is_plan : IsAudioPlan soak_plan
soak_is_plan = record {
  kind = tt;
  rate = refl;
  some_channels = omega arith;
  channels = omega arith;
  some_count = omega arith;
  count = omega arith;
  fits = omega arith;
  started = omega (arith, ints);
  start = omega (arith, ints);
  some_lead = omega arith;
  lead = omega arith;
  restart = tt;
  crf = tt;
}

-- the samples are whole sample frames of four bytes
by_fours : (long packets : ℕ) → long ≡ 24 * packets → (long % 4 == 0) ≡ true
by_fours long packets e = let none : long % 4 ≡ 0 = omega arith in rw none refl

pub no_fault : (packets : ℕ) → packets ≤ 1000000 → fault_of soak_plan (soak_input packets) ≡ None
unfolding fault_of
no_fault packets few =
    rw (by_fours (length (soak_input packets)) packets (input_long packets), none_late soak_plan (soak_input packets) soak_is_plan (input_within packets few)) refl

pub only_memory : (packets : ℕ) (input : List ℕ) (fault : TalkFault) → packets ≤ 1000000 → input ≡ soak_input packets → (fault_of soak_plan input ≡ Some fault) ⊎ (fault ≡ Memory) → fault ≡ Memory
only_memory packets input fault few is (inl e) = absurd (let none : None ≡ Some fault = sym (no_fault packets few) ∙ ap (λ (l : List ℕ). fault_of soak_plan l) (sym is) ∙ e in cc)
only_memory packets input fault few is (inr e) = e
