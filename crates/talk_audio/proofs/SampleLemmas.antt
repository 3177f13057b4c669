-- How many packets a list of sample frames fills, and which samples each packet has.
use Rattle.std.proofs.Common.{◌≡◌, ℕ, ◌+◌, ◌-◌, ◌*◌, ◌/◌, ◌<◌, ◌≤◌, List, [], ◌++◌, length, take, drop, length-drop, refl, sym, ap, ◌∙◌, arith}
use Rattle.std.proofs.Math.Nat.{mul_assoc, mul-le-mul_right, div-mul-le_self}
use Rattle.std.proofs.Math.Seq.{take-append-add}
use Rattle.std.proofs.lemmas.Grind.{div_ceil_times}
use Rattle.std.proofs.Math.ListN.{drop_of_length-le}
use Rattle.std.proofs.lemmas.List.{append-nil, drop-take, length-append, length-take, take_all}
use Rattle.std.specs.Int.{div_ceil}
use Rattle.talk_audio.specs.Samples.{filled_up, packets_for, samples_of}

-- each packet has at least one of the sample frames
pub begun : (frames count n : ℕ) → 0 < count → n < div_ceil frames count → n * count < frames
begun frames count n some h =
    let whole : (n + 1) * count ≤ div_ceil frames count * count = mul-le-mul_right count (omega arith) in
    let bound = div_ceil_times frames count some in
    omega (arith, whole, bound.1)

-- each packet begins within the input
pub begun_within : (frame count n : ℕ) (input : List ℕ) → 0 < frame → 0 < count → n < packets_for frame count input
    → n * (count * frame) < length input
begun_within frame count n input some_frame some_count h =
    let first : n * count < length input / frame = begun (length input / frame) count n some_count h in
    let whole : (n * count + 1) * frame ≤ length input / frame * frame = mul-le-mul_right frame (omega arith) in
    let within = div-mul-le_self (length input) frame in
    omega (arith, whole, within, mul_assoc n count frame)

-- writing `rest` over the start of silence gives `rest` filled up with silence
pub laid_over : (size : ℕ) (rest whole : List ℕ) → length rest ≤ size → take size (rest ++ drop (length rest) whole) ≡ filled_up (take size whole) rest
laid_over size rest whole part =
    let k : ℕ = size - length rest in
    let split : size ≡ length rest + k = omega arith in
    let over : take (length rest + k) (rest ++ drop (length rest) whole) ≡ rest ++ take k (drop (length rest) whole) = take-append-add rest
    (drop (length rest) whole) k in
    rw split (over ∙ ap (λ (xs : List ℕ). rest ++ xs) (sym (drop-take (length rest) k whole)))

pub last_samples : (silence : List ℕ) (frame count n : ℕ) (input : List ℕ) → length (drop (n * (count * frame)) input) ≤ count * frame
    → filled_up silence (drop (n * (count * frame)) input) ≡ samples_of silence frame count input n
unfolding samples_of
last_samples silence frame count n input part =
    let moved : n * (count * frame) ≡ n * count * frame = sym (mul_assoc n count frame) in
    let all = take_all (count * frame) (drop (n * (count * frame)) input) part in
    rw (← moved, all) refl

pub whole_samples : (silence : List ℕ) (frame count n : ℕ) (input : List ℕ) → length silence ≡ count * frame
    → count * frame ≤ length (drop (n * (count * frame)) input)
    → take (count * frame) (drop (n * (count * frame)) input) ≡ samples_of silence frame count input n
unfolding samples_of
whole_samples silence frame count n input same whole =
    let moved : n * (count * frame) ≡ n * count * frame = sym (mul_assoc n count frame) in
    let part : List ℕ = take (count * frame) (drop (n * (count * frame)) input) in
    let size : length part ≡ count * frame = simp length-take (omega arith) in
    let none : drop (length part) silence ≡ [] = drop_of_length-le silence {i = length part} (omega arith) in
    rw (← moved, none) (sym (append-nil part))

-- each packet has `count` whole sample frames
pub samples_whole : (silence : List ℕ) (frame count n : ℕ) (input : List ℕ) → length silence ≡ count * frame
    → length (samples_of silence frame count input n) ≡ count * frame
unfolding samples_of
samples_whole silence frame count n input same =
    let part : List ℕ = take (count * frame) (drop (n * count * frame) input) in
    let short : length part ≤ count * frame = simp length-take (omega arith) in
    let rest : length (drop (length part) silence) ≡ length silence - length part = length-drop (length part) silence in
    length-append part (drop (length part) silence) ∙ omega arith
