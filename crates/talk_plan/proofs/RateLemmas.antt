-- The codes of sample rates, the range of the rates, and the SYT interval of each AM824 rate.
use Rattle.std.proofs.Common.{◌≡◌, ℕ, zero, suc, ◌≤◌, Some, None, refl, sym, ap, ◌∙◌, arith, Option}
use Rattle.std.specs.Prelude.{IsSome}
use Rattle.std.proofs.lemmas.Bool.Decides.{nat_tests}
use Rattle.iec61883_format.specs.Iec.{syt_interval, rate_of_fdf}
use Rattle.talk_plan.specs.declared.plan.TalkKind.{TalkKind}
use Rattle.talk_plan.specs.declared.plan.TalkKind.TheVariants.{Am824, Aaf, H264}
use Rattle.talk_plan.specs.declared.plan.TalkPlan.{TalkPlan}
use Rattle.talk_plan.specs.Plan.{IsAudioPlan, fdf_of, interval_of, HasRate, rate_code}
use Rattle.aaf_format.specs.Aaf.{rate_of}

-- ---- the codes of rates

pub some_interval : (fdf : ℕ) → fdf ≤ 6 → IsSome (syt_interval fdf)
some_interval zero few = refl
some_interval (suc zero) few = refl
some_interval (suc (suc zero)) few = refl
some_interval (suc (suc (suc zero))) few = refl
some_interval (suc (suc (suc (suc zero)))) few = refl
some_interval (suc (suc (suc (suc (suc zero))))) few = refl
some_interval (suc (suc (suc (suc (suc (suc zero)))))) few = refl
some_interval (suc (suc (suc (suc (suc (suc (suc fdf))))))) few = absurd (omega arith)

pub record IsRate (rate code : ℕ) : Type 0 where
  pub named : rate_of code ≡ Some rate
  pub least : 8000 ≤ rate
  pub most : rate ≤ 192000
  pub few : code ≤ 10

pub known_rate : (rate code : ℕ) → rate_code rate ≡ Some code → IsRate rate code
known_rate rate code h = grind (arith, nat_tests)

pub record IsFdfRate (rate fdf : ℕ) : Type 0 where
  pub named : rate_of_fdf fdf ≡ Some rate
  pub least : 32000 ≤ rate
  pub most : rate ≤ 192000
  pub few : fdf ≤ 6

pub known_fdf : (rate fdf : ℕ) → fdf_of rate ≡ Some fdf → IsFdfRate rate fdf
known_fdf rate fdf h = grind (arith, nat_tests)

-- each sample rate of audio is from 8 kHz to 192 kHz
pub record IsInRange (rate : ℕ) : Type 0 where
  pub least : 8000 ≤ rate
  pub most : rate ≤ 192000

pcm_range : (rate : ℕ) (code : Option ℕ) → rate_code rate ≡ code → IsSome code → IsInRange rate
pcm_range rate None e some = absurd cc
pcm_range rate (Some code) e some = let is = known_rate rate code e in record { least = is.least; most = is.most }

am824_range : (rate : ℕ) (fdf : Option ℕ) → fdf_of rate ≡ fdf → IsSome fdf → IsInRange rate
am824_range rate None e some = absurd cc
am824_range rate (Some fdf) e some = let is = known_fdf rate fdf e in record { least = omega (arith, is.least); most = is.most }

range_by : (kind : TalkKind) (rate : ℕ) → HasRate kind rate → IsInRange rate
range_by (Aaf format sparse) rate has = pcm_range rate (rate_code rate) refl has
range_by Am824 rate has = am824_range rate (fdf_of rate) refl has
range_by (H264 last_stamp) rate has = absurd has

pub rate_range : (plan : TalkPlan) → IsAudioPlan plan → IsInRange plan.rate
rate_range plan p = range_by plan.kind plan.rate p.rate

pub rate_from : (plan : TalkPlan) → IsAudioPlan plan → 8000 ≤ plan.rate
rate_from plan p = (rate_range plan p).least

pub named_rate : (rate code : ℕ) → rate_of code ≡ Some rate → rate_code rate ≡ Some code
named_rate rate code h = grind (arith, nat_tests)

pub named_fdf : (rate fdf : ℕ) → rate_of_fdf fdf ≡ Some rate → fdf_of rate ≡ Some fdf
named_fdf rate fdf h = grind (arith, nat_tests)

pub named_interval : (rate fdf interval : ℕ) → fdf_of rate ≡ Some fdf → syt_interval fdf ≡ Some interval → interval_of rate ≡ interval
named_interval rate fdf interval e f = rw (e, f) refl

stated_by : (rate fdf : ℕ) (interval : Option ℕ) → fdf_of rate ≡ Some fdf → syt_interval fdf ≡ interval → IsSome interval
    → syt_interval fdf ≡ Some (interval_of rate)
stated_by rate fdf None e f some = absurd cc
stated_by rate fdf (Some interval) e f some = f ∙ ap (λ (i : ℕ). Some i) (sym (named_interval rate fdf interval e f))

pub stated_interval : (rate fdf : ℕ) → fdf_of rate ≡ Some fdf → syt_interval fdf ≡ Some (interval_of rate)
stated_interval rate fdf e = stated_by rate fdf (syt_interval fdf) e refl (some_interval fdf (known_fdf rate fdf e).few)
