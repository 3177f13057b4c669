use Rattle.std.proofs.Common.{◌≡◌, ℕ, List, ◌++◌, length, rules, sym, ap, ◌∙◌, arith}
use Rattle.std.proofs.lemmas.Int.{ints}
use mir.Val.{of_z, to_z}
use mir.Syntax.{w64}
use Rattle.pcap_frames.specs.Capture.{record_spelling}
use Rattle.capture_io.specs.CaptureWriting.{whole_record, written_style}
use Rattle.capture_io.specs.Writing.{Writing}
use Rattle.capture_io.proofs.CaptureWriting.{adds_none, adds_record}
use Rattle.capture_io.proofs.capture_writer.CaptureWriter.add.Goals as goal

pub returns-in_err-make_room : goal.returns-in_err-make_room
returns-in_err-make_room g c =
    rw (← c.self.view_is)
    (adds_none _ _ _ _ (whole_record c.args.arrival (g.W.Spelled.spelling c.args.frame.now)) c.from_residual.result c.from_residual.ensures.0 c.in_err-make_room.ensures.kept (search rules))

pub returns : goal.returns
returns g c =
    let frame : List ℕ = g.W.Spelled.spelling c.args.frame.now in
    let size : c.size-size.result ≡ length frame = c.size-size.ensures in
    let at : to_z w64 (of_z w64 c.args.arrival) ≡ c.args.arrival = omega (arith, ints, c.requires.begun, c.requires.ended) in
    let spelled = rw at at (c.record_header.ensures frame (sym size)) in
    let whole = spelled ∙ ap (λ (k : ℕ). record_spelling written_style (record { arrival = c.args.arrival; orig_len = k; bytes = frame })) size in
    rw (← c.self.view_is)
    (adds_record _ _ _ _ _ _ c.record_header.result frame (whole_record c.args.arrival frame) c.in_ok-make_room.ensures.kept c.in_ok-make_room.ensures.writes whole
    (ap (λ (l : List ℕ). record { slot = c.self-inside.inside.0.0.slot.0; waiting = l }) (c.add.ensures ∙ ap (λ (l : List ℕ). l ++ frame) c.push.ensures)
    ∙ ap (λ (w : Writing). record w { waiting = (w.waiting ++ c.record_header.result) ++ frame }) (ap (λ x. x.file) c.self-inside.view_is)))
