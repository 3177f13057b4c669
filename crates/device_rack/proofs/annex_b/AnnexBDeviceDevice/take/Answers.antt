use Rattle.std.proofs.Common.{◌≡◌, ◌∙◌, refl, sym, ap}
use Rattle.device_rack.proofs.Outputs.{annexb_of_flag, annexb_of_samples}
use Rattle.device_rack.proofs.Taken.{units_added, units_part}
use Rattle.device_rack.proofs.annex_b.AnnexBDeviceDevice.take.Goals as goal

pub returns-in-Ok-clause-took : goal.returns-in-Ok-clause-took
returns-in-Ok-clause-took g c =
    let bytes : c.as_slice.result.now ≡ c.in-Present.batch.bytes = c.as_slice.ensures ∙ ap (λ b. b.bytes) c.batch.view_is in
    rw (c.in-Ok.is, c.in-Present.is) (λ start items taken.
    units_added g.S.Sink.state start c.args.self.now _ items c.in-Present.batch (sym c.if-is_unit.ensures) taken refl
    (rw bytes at c.in-Ok.ensures.whole))

pub returns-in-Err-clause-part : goal.returns-in-Err-clause-part
returns-in-Err-clause-part g c =
    let bytes : c.as_slice.result.now ≡ c.in-Present.batch.bytes = c.as_slice.ensures ∙ ap (λ b. b.bytes) c.batch.view_is in
    rw (c.in-Err.is, c.in-Present.is) (λ lives start items taken.
    units_part g.S.Sink.state start (g.S.Sink.state c.write_unit-written.new.sink) c.args.self.now items c.in-Present.batch (sym c.if-is_unit.ensures) lives taken
    (rw bytes at c.in-Err.ensures.part))

pub returns-in_default-clause-took : goal.returns-in_default-clause-took
returns-in_default-clause-took g c = rw c.in-Present.is (λ start items taken lives. rw (annexb_of_samples items c.in-Present.batch (sym c.if-is_unit.ensures)) (taken lives))

pub returns-in_default-2-clause-took : goal.returns-in_default-2-clause-took
returns-in_default-2-clause-took g c = rw c.in_default.is (λ start items taken lives. rw (annexb_of_flag items c.in_default.field-0 c.in_default.field-1 c.in_default.field-2) (taken lives))
