use Rattle.std.proofs.Common.{◌≡◌, ◌∙◌, None, refl, sym, ap}
use Rattle.std.specs.List.{last_or}
use Rattle.device_rack.specs.RawOutput.{sample_batches}
use Rattle.device_rack.proofs.Outputs.{samples_of_flag, samples_of_unit}
use Rattle.device_rack.proofs.Taken.{raw_added, raw_part, raw_same}
use Rattle.device_rack.proofs.raw.RawDeviceDevice.take.Goals as goal

pub returns-in-Ok-clause-took : goal.returns-in-Ok-clause-took
returns-in-Ok-clause-took g c =
    let bytes : c.as_slice.result.now ≡ c.in-Present.batch.bytes = c.as_slice.ensures ∙ ap (λ b. b.bytes) c.batch.view_is in
    rw (c.in-Ok.is, c.in-Present.is) (λ start items taken.
    let silence = c.silent_before-silent.ensures c.args.self.now.silence (last_or None (sample_batches items)) taken.previous in
    raw_added g.S.Sink.state start c.args.self.now _ items c.in-Present.batch (sym c.if-not-is_unit.ensures) taken refl refl c.of.ensures
    (rw (silence, bytes) at c.in-Ok.ensures.whole))

pub returns-in-Err-clause-part : goal.returns-in-Err-clause-part
returns-in-Err-clause-part g c =
    let bytes : c.as_slice.result.now ≡ c.in-Present.batch.bytes = c.as_slice.ensures ∙ ap (λ b. b.bytes) c.batch.view_is in
    rw (c.in-Err.is, c.in-Present.is) (λ lives start items taken.
    let silence = c.silent_before-silent.ensures c.args.self.now.silence (last_or None (sample_batches items)) taken.previous in
    raw_part g.S.Sink.state start (g.S.Sink.state c.write_samples-written.new.sink) c.args.self.now items c.in-Present.batch (sym c.if-not-is_unit.ensures) lives taken
    (rw (silence, bytes) at c.in-Err.ensures.part))

pub returns-in_default-clause-took : goal.returns-in_default-clause-took
returns-in_default-clause-took g c = rw c.in-Present.is (λ start items taken.
    raw_same g.S.Sink.state start c.args.self.now items _ (samples_of_unit items c.in-Present.batch (sym c.if-not-is_unit.ensures)) taken)

pub returns-in_default-2-clause-took : goal.returns-in_default-2-clause-took
returns-in_default-2-clause-took g c = rw c.in_default.is (λ start items taken.
    raw_same g.S.Sink.state start c.args.self.now items _ (samples_of_flag items c.in_default.field-0 c.in_default.field-1 c.in_default.field-2) taken)
