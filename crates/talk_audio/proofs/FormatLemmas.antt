-- Each plan of audio has a format.
use Rattle.std.proofs.Common.{◌≡◌, ℕ, ◌*◌, ◌≤◌, Bool, false, List, [], length, Option, Some, None, refl, arith, take, drop, subst}
use Rattle.std.specs.Prelude.{IsSome}
use Rattle.talk_plan.specs.declared.plan.TalkPlan.{TalkPlan}
use Rattle.talk_audio.specs.Audio.{audio_by}
use Rattle.talk_audio.specs.Journal.{samples_in}
use Rattle.talk_audio.specs.Packets.{aaf_packet}
use Rattle.talk_plan.specs.Plan.{IsAudioPlan, FitsBlocks, FitsPacket, IsAudioKind, fdf_of, rate_code}
use Rattle.talk_audio.proofs.DueLemmas.{IsFormatOf}
use Rattle.talk_plan.proofs.RateLemmas.{some_interval, known_fdf}
use Rattle.talk_audio.proofs.SampleLemmas.{whole_samples}
use Rattle.aaf_format.specs.declared.aaf.AafFormat.{AafFormat}
use Rattle.aaf_format.specs.Aaf.{frame_size}
use Rattle.iec61883_format.specs.Iec.{block_size, syt_interval}
use Rattle.talk_audio.specs.declared.audio.AudioStream.{AudioStream}
use Rattle.talk_audio.specs.declared.audio.Format.{Format}
use Rattle.talk_audio.specs.declared.audio.Format.TheVariants.{Am824 as OfAm824, Pcm as OfPcm}
use Rattle.talk_plan.specs.declared.plan.TalkKind.{TalkKind}
use Rattle.talk_plan.specs.declared.plan.TalkKind.TheVariants.{Aaf, Am824, H264}
use Rattle.talk_audio.specs.Streams.{IsAudio, IsFormat, audio_in, audio_of, headers_by, headers_of, samples_size}
use Rattle.talk_audio.proofs.Am824Lemmas.{am824_format}
use Rattle.talk_audio.proofs.PcmLemmas.{both_headers, has_both, pcm_format}

-- ---- an audio plan with its format

format_by : (format : Format) (plan : TalkPlan) → IsAudioPlan plan → IsFormat format plan → IsFormatOf plan (audio_in format plan) (headers_by format)
format_by (OfPcm f) plan p is = pcm_format f plan p is.format
format_by (OfAm824 f) plan p is = am824_format f plan p is

pub format_of : (s : AudioStream) → IsAudio s → IsFormatOf s.plan (audio_of s) (headers_of s)
format_of s is = format_by s.format s.plan is.plan is.format

audio_is : (format : Format) (plan : TalkPlan) → IsFormat format plan → audio_by plan.kind plan ≡ Some (audio_in format plan)
audio_is (OfPcm f) plan is = rw is.format.kind refl
audio_is (OfAm824 f) plan is = rw is.kind refl

pub audio_found : (s : AudioStream) → IsAudio s → audio_by s.plan.kind s.plan ≡ Some (audio_of s)
audio_found s is = audio_is s.format s.plan is.format

-- `stream` is an audio stream of the plan
pub record HasFormat (plan : TalkPlan) : Type 0 where
  pub stream : AudioStream
  pub audio : IsAudio stream
  pub plan_is : stream.plan ≡ plan

pcm_by : (plan : TalkPlan) (format : AafFormat) (sparse : Bool) (code : Option ℕ) → IsAudioPlan plan → plan.kind ≡ Aaf format sparse
    → rate_code plan.rate ≡ code → IsSome code → HasFormat plan
pcm_by plan format sparse None p kind e some = absurd cc
pcm_by plan format sparse (Some code) p kind e some = record {
  stream = record {
    plan = plan;
    format = OfPcm (record {
      format = format;
      sparse = sparse;
      steady = false;
      code = code;
      headers = both_headers
          (aaf_packet format sparse plan 0 []);
    });
    size = plan.count * frame_size plan.channels format;
  };
  audio = record {
    plan = p;
    format = record {
      format = record { kind = kind; code = e };
      headers = has_both
          (aaf_packet format sparse plan 0 []);
      steady = λ t. absurd cc;
    };
    size = refl;
    fits = subst (λ (k : TalkKind). FitsPacket k plan) kind p.fits;
  };
  plan_is = refl;
}

interval_by : (plan : TalkPlan) (fdf : ℕ) (interval : Option ℕ) → IsAudioPlan plan → plan.kind ≡ Am824 → fdf_of plan.rate ≡ Some fdf
    → syt_interval fdf ≡ interval → IsSome interval → HasFormat plan
interval_by plan fdf None p kind e f some = absurd cc
interval_by plan fdf (Some interval) p kind e f some = record {
  stream = record { plan = plan; format = OfAm824 (record { fdf = fdf; interval = interval }); size = plan.count * block_size plan.channels };
  audio = record {
    plan = p;
    format = record { kind = kind; code = e; interval = f };
    size = refl;
    fits = (let fits : FitsBlocks
        plan = subst (λ (k : TalkKind). FitsPacket k plan) kind p.fits in omega (arith, fits.size));
  };
  plan_is = refl;
}

am824_by : (plan : TalkPlan) (fdf : Option ℕ) → IsAudioPlan plan → plan.kind ≡ Am824 → fdf_of plan.rate ≡ fdf → IsSome fdf → HasFormat plan
am824_by plan None p kind e some = absurd cc
am824_by plan (Some fdf) p kind e some = interval_by plan fdf (syt_interval fdf) p kind e refl (some_interval fdf (known_fdf plan.rate fdf e).few)

has_by : (plan : TalkPlan) (kind : TalkKind) → plan.kind ≡ kind → IsAudioKind kind → IsAudioPlan plan → HasFormat plan
has_by plan (Aaf format sparse) e talked p = pcm_by plan format sparse (rate_code plan.rate) p e refl (rw e at p.rate)
has_by plan Am824 e talked p = am824_by plan (fdf_of plan.rate) p e refl (rw e at p.rate)
has_by plan (H264 last_stamp) e talked p = absurd talked

pub has_format : (plan : TalkPlan) → IsAudioPlan plan → HasFormat plan
has_format plan p = has_by plan plan.kind refl p.kind p

-- ---- all frames

pub whole_of : (s : AudioStream) (input : List ℕ) (n : ℕ) → IsAudio s → samples_size s ≤ length (drop (n * samples_size s) input)
    → take (samples_size s) (drop (n * samples_size s) input) ≡ samples_in (audio_of s) s.plan input n
whole_of s input n is whole = whole_samples (audio_of s).silence (audio_of s).frame s.plan.count n input (format_of s is).silence whole
