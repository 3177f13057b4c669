-- What one more item adds to what the devices write.
use Rattle.std.proofs.Common.{◌≡◌, ℕ, Bool, true, false, not, List, [], ◌∷◌, ◌++◌, Option, None, Some, refl, sym, ap, ◌∙◌, append_assoc}
use Rattle.std.specs.List.{last_or}
use Rattle.std.specs.Prelude.{filter, flat_map}
use Rattle.std.proofs.lemmas.List.{append-nil}
use Rattle.std.proofs.lemmas.List.Elements.{filter-append, filter_map-append}
use Rattle.std.proofs.lemmas.Grind.{flat_map-append}
use Rattle.sample_schedule.specs.Batches.{Presented, is_unit}
use Rattle.sample_schedule.specs.declared.shown.Reason.{Reason}
use Rattle.sample_schedule.specs.declared.shown.Shown.{Shown}
use Rattle.sample_schedule.specs.declared.shown.Shown.TheVariants.{Present, Flag}
use Rattle.device_rack.specs.declared.silent_bytes.Silence.{Silence}
use Rattle.device_rack.specs.RawOutput.{annexb, batch_of, batches, raw, raw_behind, sample_batches, silence_before, units}

kept_more : (test : Presented → Bool) (items : List Shown) (batch : Presented)
    → filter test (batches (items ++ Present batch ∷ [])) ≡ filter test (batches items) ++ filter test (batch ∷ [])
kept_more test items batch =
    ap (λ (bs : List Presented). filter test bs) (filter_map-append batch_of items (Present batch ∷ [])) ∙ filter-append test (batches items) (batch ∷ [])

kept_flag : (test : Presented → Bool) (items : List Shown) (frame seq : ℕ) (reason : Reason)
    → filter test (batches (items ++ Flag frame seq reason ∷ [])) ≡ filter test (batches items)
kept_flag test items frame seq reason =
    ap (λ (bs : List Presented). filter test bs) (filter_map-append batch_of items (Flag frame seq reason ∷ []) ∙ append-nil (batches items))

pub samples_of_samples : (items : List Shown) (batch : Presented) → is_unit batch ≡ false → sample_batches (items ++ Present batch ∷ []) ≡ sample_batches items ++ batch ∷ []
samples_of_samples items batch other = kept_more (λ b. not (is_unit b)) items batch ∙ rw other refl

pub samples_of_unit : (items : List Shown) (batch : Presented) → is_unit batch ≡ true → sample_batches (items ++ Present batch ∷ []) ≡ sample_batches items
samples_of_unit items batch is = kept_more (λ b. not (is_unit b)) items batch ∙ rw is (append-nil (sample_batches items))

pub samples_of_flag : (items : List Shown) (frame seq : ℕ) (reason : Reason) → sample_batches (items ++ Flag frame seq reason ∷ []) ≡ sample_batches items
samples_of_flag items frame seq reason = kept_flag (λ b. not (is_unit b)) items frame seq reason

units_of_unit : (items : List Shown) (batch : Presented) → is_unit batch ≡ true → units (items ++ Present batch ∷ []) ≡ units items ++ batch ∷ []
units_of_unit items batch is = kept_more is_unit items batch ∙ rw is refl

units_of_samples : (items : List Shown) (batch : Presented) → is_unit batch ≡ false → units (items ++ Present batch ∷ []) ≡ units items
units_of_samples items batch other = kept_more is_unit items batch ∙ rw other (append-nil (units items))

-- ---- units

pub annexb_of_unit : (items : List Shown) (batch : Presented) → is_unit batch ≡ true → annexb (items ++ Present batch ∷ []) ≡ annexb items ++ 0 ∷ 0 ∷ 0 ∷ 1 ∷ batch.bytes
annexb_of_unit items batch is =
    let code = λ (unit : Presented). 0 ∷ 0 ∷ 0 ∷ 1 ∷ unit.bytes in
    ap (λ (us : List Presented). flat_map code us) (units_of_unit items batch is) ∙ flat_map-append code (units items) (batch ∷ [])
    ∙ ap (λ (bs : List ℕ). annexb items ++ bs) (append-nil (code batch))

pub annexb_of_samples : (items : List Shown) (batch : Presented) → is_unit batch ≡ false → annexb (items ++ Present batch ∷ []) ≡ annexb items
annexb_of_samples items batch other = ap (λ (us : List Presented). flat_map (λ (unit : Presented). 0 ∷ 0 ∷ 0 ∷ 1 ∷ unit.bytes) us) (units_of_samples items batch other)

pub annexb_of_flag : (items : List Shown) (frame seq : ℕ) (reason : Reason) → annexb (items ++ Flag frame seq reason ∷ []) ≡ annexb items
annexb_of_flag items frame seq reason =
    ap (λ (us : List Presented). flat_map (λ (unit : Presented). 0 ∷ 0 ∷ 0 ∷ 1 ∷ unit.bytes) us) (kept_flag is_unit items frame seq reason)

-- ---- samples

pub last_more : (before : Option Presented) (bs : List Presented) (batch : Presented) → last_or before (bs ++ batch ∷ []) ≡ Some batch
last_more before [] batch = refl
last_more before (b ∷ bs) batch = last_more (Some b) bs batch

raw_more : (silence : Silence) (before : Option Presented) (bs : List Presented) (batch : Presented)
    → raw_behind silence before (bs ++ batch ∷ []) ≡ raw_behind silence before bs ++ (silence_before silence (last_or before bs) batch ++ batch.bytes)
raw_more silence before [] batch = append-nil (silence_before silence before batch ++ batch.bytes)
raw_more silence before (b ∷ bs) batch =
    let front = silence_before silence before b ++ b.bytes in
    ap (λ (xs : List ℕ). front ++ xs) (raw_more silence (Some b) bs batch)
    ∙ sym (append_assoc front (raw_behind silence (Some b) bs) (silence_before silence (last_or (Some b) bs) batch ++ batch.bytes))

pub raw_of_samples : (silence : Silence) (items : List Shown) (batch : Presented) → is_unit batch ≡ false
    → raw silence (items ++ Present batch ∷ []) ≡ raw silence items ++ (silence_before silence (last_or None (sample_batches items)) batch ++ batch.bytes)
raw_of_samples silence items batch other =
    ap (λ (bs : List Presented). raw_behind silence None bs) (samples_of_samples items batch other) ∙ raw_more silence None (sample_batches items) batch
