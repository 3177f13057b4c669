-- The media clock that the words of a `talk` command line ask for.
use Rattle.std.proofs.Common.{◌≡◌, ℕ, ◌≤◌, List, Option, Some, None, codes, arith, refl, ap}
use Rattle.avtp_words.specs.declared.crf.Crf.{Crf}
use Rattle.avtp_words.specs.Grammar.{SaysClock, SaysCrf}
use Rattle.avtp_words.specs.Limits as limits
use Rattle.avtp_words.specs.Limits.{with_default}
use Rattle.option_words.specs.Options.{Setting}
use Rattle.avtp_words.specs.state.Reading.{ClockIsWithin}
use Rattle.avtp_words.proofs.CommandLines.{same_id_given_if, same_number, within}

-- ---- words ask for only one clock

same_crf : (gs : List Setting) (rate : ℕ) (a b : Crf) → SaysCrf gs rate a → SaysCrf gs rate b → a ≡ b
same_crf gs rate a b p q = same ids
    (same_number (with_default limits.crf_rate rate) a.rate b.rate gs (omega arith) p.base q.base)
    (same_number limits.crf_pull a.pull b.pull gs (omega arith) p.pull q.pull)
    (same_number limits.crf_interval a.interval b.interval gs (omega arith) p.interval q.interval)
    (same_number limits.crf_points a.points b.points gs (omega arith) p.points q.points) where
      ids : a.id ≡ b.id
      ids = let both = same_id_given_if (codes "--crf") (Some a.id) (Some b.id) gs p.id q.id in cc

      same : a.id ≡ b.id → a.rate ≡ b.rate → a.pull ≡ b.pull → a.interval ≡ b.interval → a.points ≡ b.points → a ≡ b
      same ids rates pulls intervals points = rw (ids, rates, pulls, intervals, points) refl

pub same_clock : (gs : List Setting) (rate : ℕ) (a b : Option Crf) → SaysClock gs rate a → SaysClock gs rate b → a ≡ b
same_clock gs rate None None p q = refl
same_clock gs rate None (Some b) p q = absurd (let e : None ≡ Some b.id = same_id_given_if (codes "--crf") None (Some b.id) gs p q.id in cc)
same_clock gs rate (Some a) None p q = absurd (let e : None ≡ Some a.id = same_id_given_if (codes "--crf") None (Some a.id) gs q p.id in cc)
same_clock gs rate (Some a) (Some b) p q = ap Some (same_crf gs rate a b p q)

-- ---- a clock is within its limits

pub clock_within : (gs : List Setting) (rate : ℕ) (crf : Option Crf) → 1 ≤ rate → rate ≤ 192000 → SaysClock gs rate crf → ClockIsWithin crf rate
clock_within gs rate None some most says = tt
clock_within gs rate (Some crf) some most says = record {
  some_base = (within (with_default limits.crf_rate rate) rate crf.rate gs refl some (omega (arith, most)) says.base).0;
  some_interval = (within limits.crf_interval 96 crf.interval gs refl (omega arith) (omega arith) says.interval).0;
  some_points = (within limits.crf_points 1 crf.points gs refl (omega arith) (omega arith) says.points).0;
  some_rate = some;
  most_rate = most;
}
