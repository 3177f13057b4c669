-- The sample rates of AAF and of IEC 61883-6.
use Rattle.std.proofs.Common.{◌≡◌, ℕ, ◌-◌, ◌*◌, ◌≤◌, ◌<◌, true, IsSomeAnd, Option, Some, None, arith, ap, ◌∙◌, nat_eq, get_or}
use Rattle.std.specs.List.{list_any, range_with_len}
use Rattle.std.specs.Option.{option_eq}
use Rattle.std.proofs.lemmas.Bool.Decides.{nat_tests}
use Rattle.std.proofs.lemmas.List.Folds.{Any-from_list_any, list_any-from_Any}
use Rattle.std.proofs.lemmas.List.FromFn.{get_or-range_with_len}
use Rattle.std.proofs.lemmas.Bool.{leb-true, le-leb, and_parts}
use Rattle.aaf_format.specs.Aaf.{rate_of}
use Rattle.iec61883_format.specs.Iec.{rate_of_fdf, syt_interval}
use Rattle.avtp_words.specs.state.Reading.{is_long_enough, suits}

-- the codes of AAF that name a rate are 1 to 10
known : (code rate : ℕ) → rate_of code ≡ Some rate → (1 ≤ code) × (code ≤ 10)
known code rate h = (grind (arith, nat_tests), grind (arith, nat_tests))

same : (named : Option ℕ) (rate : ℕ) → option_eq nat_eq named (Some rate) ≡ true → named ≡ Some rate
same None rate e = absurd cc
same (Some n) rate e = let is : n ≡ rate = grind (arith, nat_tests) in ap Some is

pub rate_named : (rate : ℕ) → list_any (λ code. option_eq nat_eq (rate_of code) (Some rate)) (range_with_len 1 10) ≡ true → (code : ℕ) × (rate_of code ≡ Some rate)
rate_named rate e =
    let (k, code, within, at, is) = Any-from_list_any (λ code. option_eq nat_eq (rate_of code) (Some rate)) (range_with_len 1 10) e in
    (code, same (rate_of code) rate is)

pub named_rate : (rate code : ℕ) → rate_of code ≡ Some rate → list_any (λ code. option_eq nat_eq (rate_of code) (Some rate)) (range_with_len 1 10) ≡ true
named_rate rate code h =
    let (least, most) = known code rate h in
    let here : option_eq nat_eq (rate_of code) (Some rate) ≡ true = rw h (grind (arith, nat_tests)) in
    let within : code - 1 < 10 = omega (arith, least, most) in
    let at : get_or (range_with_len 1 10) (code - 1) code ≡ code = get_or-range_with_len 1 10 (code - 1) code within ∙ omega (arith, least) in
    list_any-from_Any (λ code. option_eq nat_eq (rate_of code) (Some rate)) (range_with_len 1 10) (code - 1, code, within, at, here)

-- ---- IEC 61883-6

-- the codes of IEC 61883-6 that name a rate are 0 to 6
known_fdf : (fdf rate : ℕ) → rate_of_fdf fdf ≡ Some rate → fdf ≤ 6
known_fdf fdf rate h = grind (arith, nat_tests)

enough : (interval : Option ℕ) (count : ℕ) → is_long_enough interval count ≡ true → IsSomeAnd interval (λ interval. interval ≤ 8 * count)
enough None count e = absurd cc
enough (Some interval) count e = leb-true interval (8 * count) e

is_enough : (interval : Option ℕ) (count : ℕ) → IsSomeAnd interval (λ interval. interval ≤ 8 * count) → is_long_enough interval count ≡ true
is_enough None count h = absurd h
is_enough (Some interval) count h = le-leb interval (8 * count) h

pub suited : (rate count : ℕ) → list_any (λ fdf. suits rate count fdf) (range_with_len 0 7) ≡ true → (fdf : ℕ) × (rate_of_fdf fdf ≡ Some rate) × IsSomeAnd (syt_interval fdf) (λ interval. interval ≤ 8 * count)
suited rate count e =
    let (k, fdf, within, at, is) = Any-from_list_any (λ fdf. suits rate count fdf) (range_with_len 0 7) e in
    let each = and_parts _ _ is in
    (fdf, same (rate_of_fdf fdf) rate each.0, enough (syt_interval fdf) count each.1)

pub suiting : (rate count fdf : ℕ) → rate_of_fdf fdf ≡ Some rate → IsSomeAnd (syt_interval fdf) (λ interval. interval ≤ 8 * count) → list_any (λ fdf. suits rate count fdf) (range_with_len 0 7) ≡ true
suiting rate count fdf h long =
    let most : fdf ≤ 6 = known_fdf fdf rate h in
    let named : option_eq nat_eq (rate_of_fdf fdf) (Some rate) ≡ true = rw h (grind (arith, nat_tests)) in
    let here : suits rate count fdf ≡ true = rw named (is_enough (syt_interval fdf) count long) in
    let within : fdf < 7 = omega (arith, most) in
    let at : get_or (range_with_len 0 7) fdf fdf ≡ fdf = get_or-range_with_len 0 7 fdf fdf within ∙ omega arith in
    list_any-from_Any (λ fdf. suits rate count fdf) (range_with_len 0 7) (fdf, fdf, within, at, here)
