-- The state of a device that took one more item.
use Rattle.std.proofs.Common.{◌≡◌, ℕ, true, false, List, [], ◌∷◌, ◌++◌, None, Some, sym, ap, ◌∙◌, append_assoc}
use Rattle.std.specs.List.{last_or}
use Rattle.avtp_base.proofs.Told.{Appends-trans}
use Rattle.avtp_base.specs.States.{SinkState}
use Rattle.avtp_base.specs.Told.{Appends}
use Rattle.sample_schedule.specs.Batches.{Presented, is_unit}
use Rattle.sample_schedule.specs.declared.shown.Shown.{Shown}
use Rattle.sample_schedule.specs.declared.shown.Shown.TheVariants.{Present}
use Rattle.device_rack.specs.declared.raw.RawDevice.{RawDevice}
use Rattle.device_rack.specs.declared.annex_b.AnnexBDevice.{AnnexBDevice}
use Rattle.device_rack.specs.RawOutput.{annexb, raw, sample_batches, silence_before}
use Rattle.device_rack.specs.Written.{AppendsUpTo, HasTakenRaw, HasTakenUnits, IsPreviousOf, annexb_failed, annexb_sink, raw_failed, raw_sink, silence_in}
use Rattle.device_rack.specs.state.Written.{AppendsPrefix}
use Rattle.device_rack.proofs.Outputs.{annexb_of_unit, last_more, raw_of_samples, samples_of_samples}

up_to : (a b c : SinkState) (bs adds more : List ℕ) → more ≡ bs ++ adds → Appends a.held b.held bs → AppendsPrefix b.held c.held adds → AppendsUpTo a c bs more
up_to a b c bs adds more is first taken =
    let part = taken.0 in
    let rest = taken.1.0 in
    let parts : part ++ rest ≡ adds = taken.1.1 in
    (part, (rest, append_assoc bs part rest ∙ ap (λ (xs : List ℕ). bs ++ xs) parts ∙ sym is), Appends-trans a.held b.held c.held bs part first taken.2)

-- ---- samples

-- if `items` and `more` have the same samples, a device that has taken `items` has also taken `more`
pub raw_same : {S : Type 0} (state : S → SinkState) (start : SinkState) (device : RawDevice S) (items more : List Shown)
    → sample_batches more ≡ sample_batches items → HasTakenRaw state start device items → HasTakenRaw state start device more
raw_same state start device items more same taken = record {
  previous = rw same taken.previous;
  holds = λ lives. rw same (taken.holds lives);
}

-- if the sink takes the silence before a batch and the samples of the batch, the device has taken the batch
pub raw_added : {S : Type 0} (state : S → SinkState) (start : SinkState) (old new : RawDevice S) (items : List Shown) (batch : Presented)
    → is_unit batch ≡ false → HasTakenRaw state start old items
    → raw_failed new ≡ raw_failed old → silence_in new ≡ silence_in old → IsPreviousOf new.previous (Some batch)
    → Appends (state (raw_sink old)).held (state (raw_sink new)).held (silence_before (silence_in old) (last_or None (sample_batches items)) batch ++ batch.bytes)
    → HasTakenRaw state start new (items ++ Present batch ∷ [])
raw_added state start old new items batch samples taken failed silence previous added = record {
  previous =
      let last : last_or None (sample_batches (items ++ Present batch ∷ [])) ≡ Some batch =
      ap (last_or None) (samples_of_samples items batch samples) ∙ last_more None (sample_batches items) batch in
      rw last previous;
  holds = λ lives.
      let first = taken.holds (sym failed ∙ lives) in
      let more : raw (silence_in new) (items ++ Present batch ∷ []) ≡ raw (silence_in old) items ++ (silence_before (silence_in old) (last_or None (sample_batches items)) batch ++ batch.bytes) =
      ap (λ s. raw s (items ++ Present batch ∷ [])) silence ∙ raw_of_samples (silence_in old) items batch samples in
      rw more (Appends-trans start.held (state (raw_sink old)).held (state (raw_sink new)).held (raw (silence_in old) items)
      (silence_before (silence_in old) (last_or None (sample_batches items)) batch ++ batch.bytes) first added);
}

-- if the sink takes only a prefix of a batch's silence and samples, the sink holds a prefix of the output
pub raw_part : {S : Type 0} (state : S → SinkState) (start now : SinkState) (old : RawDevice S) (items : List Shown) (batch : Presented)
    → is_unit batch ≡ false → raw_failed old ≡ false → HasTakenRaw state start old items
    → AppendsPrefix (state (raw_sink old)).held now.held (silence_before (silence_in old) (last_or None (sample_batches items)) batch ++ batch.bytes)
    → AppendsUpTo start now (raw (silence_in old) items) (raw (silence_in old) (items ++ Present batch ∷ []))
raw_part state start now old items batch samples lives taken added =
    up_to start (state (raw_sink old)) now (raw (silence_in old) items)
    (silence_before (silence_in old) (last_or None (sample_batches items)) batch ++ batch.bytes)
    (raw (silence_in old) (items ++ Present batch ∷ [])) (raw_of_samples (silence_in old) items batch samples) (taken.holds lives) added

-- ---- units

pub units_added : {S : Type 0} (state : S → SinkState) (start : SinkState) (old new : AnnexBDevice S) (items : List Shown) (unit : Presented)
    → is_unit unit ≡ true → HasTakenUnits state start old items → annexb_failed new ≡ annexb_failed old
    → Appends (state (annexb_sink old)).held (state (annexb_sink new)).held (0 ∷ 0 ∷ 0 ∷ 1 ∷ unit.bytes)
    → HasTakenUnits state start new (items ++ Present unit ∷ [])
units_added state start old new items unit is taken failed added lives =
    rw (annexb_of_unit items unit is)
    (Appends-trans start.held (state (annexb_sink old)).held (state (annexb_sink new)).held (annexb items) (0 ∷ 0 ∷ 0 ∷ 1 ∷ unit.bytes) (taken (sym failed ∙ lives)) added)

pub units_part : {S : Type 0} (state : S → SinkState) (start now : SinkState) (old : AnnexBDevice S) (items : List Shown) (unit : Presented)
    → is_unit unit ≡ true → annexb_failed old ≡ false → HasTakenUnits state start old items
    → AppendsPrefix (state (annexb_sink old)).held now.held (0 ∷ 0 ∷ 0 ∷ 1 ∷ unit.bytes)
    → AppendsUpTo start now (annexb items) (annexb (items ++ Present unit ∷ []))
units_part state start now old items unit is lives taken added =
    up_to start (state (annexb_sink old)) now (annexb items) (0 ∷ 0 ∷ 0 ∷ 1 ∷ unit.bytes)
    (annexb (items ++ Present unit ∷ [])) (annexb_of_unit items unit is) (taken lives) added
