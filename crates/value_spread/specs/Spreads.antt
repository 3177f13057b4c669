-- The nearest-rank percentiles of values, and the buckets in which a spread counts the values. The values are a list,
-- in any order.
use Rattle.std.specs.Prelude.{◌≡◌, ◌↔◌, Option, IsNone, IfSome, ℕ, ◌+◌, ◌-◌, ◌*◌, ◌/◌, ◌^◌, ◌<◌, ◌≤◌, max, nat_lt, if◌then◌else◌, List, [], ◌∷◌, length, sum, take, ℤ, pos, negsuc, neg_ℤ, ◌-ℤ◌, ◌≤ℤ◌, int_lt, int_le, unsigned_abs}
use Rattle.std.specs.Int.{div_ceil, int_max, int_min}
use Rattle.value_spread.specs.declared.spread.Spread.{Spread}

-- how many of the values are less than `limit`
abbrev pub number_below : ℤ → List ℤ → ℕ
number_below limit [] = 0
number_below limit (value ∷ values) = number_below limit values + (if int_lt value limit then 1 else 0)

-- how many of the values are at most `limit`
abbrev pub number_up_to : ℤ → List ℤ → ℕ
number_up_to limit [] = 0
number_up_to limit (value ∷ values) = number_up_to limit values + (if int_le value limit then 1 else 0)

-- The rank of a percentile of `count` values: at least this many of the values must be less than or equal to the
-- percentile. The rank is at least 1.
abbrev pub rank : ℕ → ℕ → ℕ
rank count hundredths = max 1 (div_ceil (count * hundredths) 100)

-- `value` is the nearest-rank percentile `hundredths` of `values`. The number of values below `value` is less than the
-- percentile's rank. The number of values that are at most `value` is at least the percentile's rank.
pub record NearestRank (values : List ℤ) (hundredths : ℕ) (value : ℤ) : Type 0 where
  pub less : number_below value values < rank (length values) hundredths
  pub enough : rank (length values) hundredths ≤ number_up_to value values

-- The number `told` is at least the exact percentile, and exceeds it by at most a 64th of the exact percentile's
-- magnitude.
pub record RoundedUp (values : List ℤ) (hundredths : ℕ) (told : ℤ) : Type 0 where
  pub exact : ℤ
  pub percentile : NearestRank values hundredths exact
  pub least : exact ≤ℤ told
  pub most : 64 * unsigned_abs (told -ℤ exact) ≤ unsigned_abs exact

-- the number of buckets of one sign: one for each of the first 64 magnitudes, and 64 for each power of two from 2^6 to
-- 2^62
abbrev pub side : ℕ
side = 3712

-- The least magnitude in a bucket. Each magnitude below 128 has its own bucket. Starting at 128, each power of two
-- begins a group of 64 buckets of equal width. The group reaches to the next power of two.
unfoldable pub first_in : ℕ → ℕ
first_in bucket = (bucket - 64 * (bucket / 64 - 1)) * 2 ^ (bucket / 64 - 1)

-- The least value in the bucket at index `place`. The buckets of negative values precede the others, and the lowest
-- bucket has index 0.
unfoldable pub edge : ℕ → ℤ
edge place = if nat_lt place side then neg_ℤ (pos (first_in (side - place))) else pos (first_in (place - side))

-- a spread gives percentiles for at most this many values
abbrev pub most_values : ℕ
most_values = 2 ^ 32 - 1

-- the least of the values, or the greatest signed 64-bit number if there are no values
abbrev pub least_of : List ℤ → ℤ
least_of [] = pos (2 ^ 63 - 1)
least_of (value ∷ values) = int_min (least_of values) value

-- the greatest of the values, or the least signed 64-bit number if there are no values
abbrev pub greatest_of : List ℤ → ℤ
greatest_of [] = negsuc (2 ^ 63 - 1)
greatest_of (value ∷ values) = int_max (greatest_of values) value

-- `spread` describes `values`. The spread has the number of values, the least value and the greatest value. For each
-- edge, the counts of the buckets below the edge add up to the number of values that are less than the edge.
pub record TellsOf (spread : Spread) (values : List ℤ) : Type 0 where
  pub count : spread.count ≡ length values
  pub few : length values ≤ most_values
  pub least : spread.least ≡ least_of values
  pub greatest : spread.greatest ≡ greatest_of values
  pub places : spread.first + length spread.counts.items ≤ 2 * side
  pub counts : (place : ℕ) → place ≤ 2 * side → sum (take (place - spread.first) spread.counts.items) ≡ number_below (edge place) values

-- `result` is the percentile `hundredths` of the values that `spread` describes, rounded up. `result` is `None` if and
-- only if the spread describes no values.
pub record TellsPercentile (spread : Spread) (hundredths : ℕ) (result : Option ℤ) : Type 0 where
  pub none : IsNone result ↔ (spread.count ≡ 0)
  pub told : (values : List ℤ) → TellsOf spread values → hundredths ≤ 100 → IfSome result (RoundedUp values hundredths)
