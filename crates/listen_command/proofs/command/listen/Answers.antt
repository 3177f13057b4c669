use Rattle.std.proofs.Common.{Ok, inl, refl, sym, ◌∙◌, Err}
use Rattle.avtp_words.specs.Grammar.{listening_of}
use Rattle.avtp_base.proofs.Told.{Keeps-refl}
use Rattle.capture_io.proofs.Leaving.{reads_nothing}
use Rattle.run_report.proofs.Yields.{hands_nothing, part_none}
use Rattle.run_report.proofs.DoesFile.{does_unopened, does_cut, does_read}
use Rattle.run_report.proofs.Outcomes.{counts_memory, sink_still, counts_ended, sink_then, sink_ok, counts_failed, sink_err, sink_part}
use Rattle.run_report.proofs.Leaving.{own_ended, on_err}
use Rattle.run_report.specs.Reading.{DoesFile}
use Rattle.run_report.specs.declared.status.Status.TheVariants as status
use Rattle.listen_command.specs.Listen.{listen_report}
use Rattle.listen_command.proofs.HeardTo.{items_counted, items_cut, items_told, name_cut, printed}
use Rattle.listen_command.proofs.command.listen.Goals as goal

pub returns-in-Err : goal.returns-in-Err
returns-in-Err g c =
    does_unopened (listen_report (listening_of c.args.asked.now) c.args.file.now) c.args.asked.now.listener.limit c.in-Err.fault (hands_nothing g.D.Devices.handed _) c.in-Err.ensures.tries c.print_unopened.ensures

pub returns-in_default : goal.returns-in_default
returns-in_default g c =
    let opened = c.in-Ok.ensures in
    does_cut (listen_report (listening_of c.args.asked.now) c.args.file.now) opened (reads_nothing _ _ opened.tries.opened.live) c.close.ensures (Ok status.Memory)
    (λ bytes given. part_none (hands_nothing g.D.Devices.handed _) _ (Keeps-refl _)) (inl refl) (λ falls. counts_memory _ falls refl) refl (sink_still _ _)

pub returns-in_default-begin : goal.returns-in_default-begin
returns-in_default-begin g c =
    let opened = c.in-Ok.ensures in
    does_cut (listen_report (listening_of c.args.asked.now) c.args.file.now) opened (reads_nothing _ _ opened.tries.opened.live) c.close-in_default-begin.ensures (Ok status.Memory)
    (λ bytes given. part_none (hands_nothing g.D.Devices.handed _) _ (Keeps-refl _)) (inl refl) (λ falls. counts_memory _ falls refl) refl (sink_still _ _)

pub returns-in-Err-print_name : goal.returns-in-Err-print_name
returns-in-Err-print_name g c =
    let opened = c.in-Ok.ensures in
    let named = c.in-Err-print_name.ensures in
    does_cut (listen_report (listening_of c.args.asked.now) c.args.file.now) opened (reads_nothing _ _ opened.tries.opened.live) c.close-in-Err-print_name.ensures (Err c.in-Err-print_name.fault)
    (λ bytes given. name_cut (listening_of c.args.asked.now) c.args.file.now bytes (hands_nothing g.D.Devices.handed _) named.written) tt (λ falls. counts_failed _ falls) tt (sink_err (sink_part named))

pub returns-in_err-presented : goal.returns-in_err-presented
returns-in_err-presented g c =
    let asked = listening_of c.args.asked.now in
    let name = c.args.file.now in
    let items = c.in_err-presented.ensures in
    let closed = c.hear_items-presented.new.hearing.sound.closed in
    let named = c.in_default-print_name.ensures in
    on_err (DoesFile _ _ _ _ _ _ _ _ _ _) c.from_residual.result c.from_residual.ensures.0 (λ e.
    does_cut (listen_report asked name) c.in-Ok.ensures items.shows.capture.reads c.close-2.ensures (Err e) (items_cut asked name c.in-Ok-begin.ensures c.plan.ensures named items closed) tt (λ falls. counts_failed e falls) tt
    (sink_err (sink_part (printed asked name c.in-Ok-begin.ensures c.plan.ensures named items closed))))

pub returns-in-Ended : goal.returns-in-Ended
returns-in-Ended g c =
    let asked = listening_of c.args.asked.now in
    let name = c.args.file.now in
    let items = c.in_ok-presented.ensures in
    let closed = c.hear_items-presented.new.hearing.sound.closed in
    let named = c.in_default-print_name.ensures in
    let how = c.in-Ended.end in
    let over = sym c.heard-heard.ensures ∙ c.in-Ended.is in
    let last = c.print_last.ensures in
    does_read (listen_report asked name) c.in-Ok.ensures items.shows.capture.reads c.close-2.ensures how c.print_last.result
    (items_counted asked name c.in-Ok-begin.ensures c.plan.ensures named items closed how c.in-Ended.counts over)
    (items_told asked name c.in-Ok-begin.ensures c.plan.ensures named items closed how c.in-Ended.counts over last)
    (λ falls faults. counts_ended how c.print_last.result falls faults last.status) (own_ended c.print_last.result how last.status)
    (sink_then (sink_part (printed asked name c.in-Ok-begin.ensures c.plan.ensures named items closed)) last.sink)

pub returns : goal.returns
returns g c =
    let asked = listening_of c.args.asked.now in
    let name = c.args.file.now in
    let items = c.in_ok-presented.ensures in
    let closed = c.hear_items-presented.new.hearing.sound.closed in
    let named = c.in_default-print_name.ensures in
    does_cut (listen_report asked name) c.in-Ok.ensures items.shows.capture.reads c.close-2.ensures (Ok status.Memory) (items_cut asked name c.in-Ok-begin.ensures c.plan.ensures named items closed) (inl refl)
    (λ falls. counts_memory _ falls refl) refl (sink_ok status.Memory (sink_part (printed asked name c.in-Ok-begin.ensures c.plan.ensures named items closed)))
