use Rattle.std.proofs.Common.{◌∙◌, None, Some, ap}
use Rattle.capture_io.specs.declared.capture_reader.Format.TheVariants.{Classic, Pcapng}
use Rattle.capture_io.proofs.Reader.{finds_next}
use Rattle.capture_io.proofs.capture_reader.CaptureReader.whole_ahead.Goals as goal

pub returns-in-None : goal.returns-in-None
returns-in-None c = rw (← c.self.view_is) (finds_next None _ _ _ c.in-None.is (record { within = tt; next = tt; none = λ e size next. next }))

pub returns-in-Classic : goal.returns-in-Classic
returns-in-Classic c =
    let ahead = c.whole_ahead.ensures in
    rw (← c.self.view_is) (finds_next (Some Classic) _ _ _ (c.in-Some.is ∙ ap Some c.in-Classic.is) (record { within = ahead.within; next = ahead.next; none = ahead.none }))

pub returns-in-Pcapng : goal.returns-in-Pcapng
returns-in-Pcapng c =
    let ahead = c.whole_ahead-in-Pcapng.ensures in
    rw (← c.self.view_is) (finds_next (Some Pcapng) _ _ _ (c.in-Some.is ∙ ap Some c.in-Pcapng.is) (record { within = ahead.within; next = ahead.next; none = ahead.none }))
