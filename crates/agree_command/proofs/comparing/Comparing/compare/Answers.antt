use Rattle.std.proofs.Common.{Some, sym, ap, ◌∙◌, refl}
use Rattle.capture_io.specs.declared.end.End.{End}
use Rattle.run_report.proofs.Leaving.{on_err}
use Rattle.run_report.proofs.Outcomes.{sink_err, sink_then, sink_ok}
use Rattle.agree_command.specs.state.Comparing.{Compares}
use Rattle.agree_command.proofs.SideBySide.{amid_printed, plans_of, told_failed, told_ended, told_printed, cut_on, part_kept, told_part, less_on, amid_on, told_on, fault_on, told_fault, memory_on}
use Rattle.agree_command.proofs.comparing.Comparing.compare.Goals as goal

pub returns-in_err-print_differences : goal.returns-in_err-print_differences
returns-in_err-print_differences g c =
    let before = c.loop-self.invariant in
    let prints = c.in_err-print_differences.ensures in
    let now = amid_printed prints.keeps before.amid in
    on_err (Compares (g.F.Shelf.state c.args.context.shelf.now) (g.F.Shelf.state c.loop-self.shelf) c.args.self.now (record { a = c.loop-self.self.a; b = c.loop-self.self.b; pair = c.print_differences.new.pair })
    (g.S.Sink.state c.args.context.out.now) (g.S.Sink.state c.print_differences.new.out) c.args.context.text.now c.print_differences.new.text) c.from_residual.result c.from_residual.ensures.0 (λ e. record {
      told = λ asked x y unread. told_failed prints now.a now.b (plans_of now unread.plans) (before.told asked x y unread);
      reads = now.reads;
      counted = now.quiet;
      sink = sink_err (sink_then before.sink prints.sink);
    })

pub returns-in_default : goal.returns-in_default
returns-in_default g c =
    let before = c.loop-self.invariant in
    let prints = c.in_ok-print_differences.ensures in
    let now = amid_printed prints.keeps before.amid in
    let ends = c.ended.ensures in
    record {
      told = λ asked x y unread. told_ended now.a now.b (plans_of now unread.plans) (told_printed prints (before.told asked x y unread)) ends;
      reads = now.reads;
      counted = (λ is. now.a.no_fault (ends.a ∙ ap (λ (h : End). Some h) is), λ is. now.b.no_fault (ends.b ∙ ap (λ (h : End). Some h) is), now.quiet);
      sink = sink_ok _ (sink_then before.sink prints.sink);
    }

pub returns-in_err-read_on : goal.returns-in_err-read_on
returns-in_err-read_on g c =
    let before = c.loop-self.invariant in
    let prints = c.in_ok-print_differences.ensures in
    let now = amid_printed prints.keeps before.amid in
    let reads = c.in_err-read_on.ensures in
    let cut = cut_on now c.in-Some.which reads in
    on_err (Compares (g.F.Shelf.state c.args.context.shelf.now) (g.F.Shelf.state c.read_on.new.context.0) c.args.self.now c.read_on.new.self (g.S.Sink.state c.args.context.out.now) (g.S.Sink.state c.read_on.new.context.1.1.0) c.args.context.text.now c.read_on.new.context.1.0)
    c.from_residual-in_err-read_on.result c.from_residual-in_err-read_on.ensures.0 (λ e. record {
      told = λ asked x y unread. part_kept (told_part now.a now.b (plans_of now unread.plans) prints.ends (told_printed prints (before.told asked x y unread)).to) reads.here.kept;
      reads = cut.0;
      counted = cut.1;
      sink = sink_err (sink_then before.sink (sink_then prints.sink reads.here.sink));
    })

pub loop-self-smaller : goal.loop-self-smaller
loop-self-smaller g c =
    let now = amid_printed c.in_ok-print_differences.ensures.keeps c.loop-self.invariant.amid in
    less_on now c.in-Some.which c.in_ok-read_on.field-0 (c.in-Some.ensures.open c.in-Some.which refl) c.in_default-2.not-Fault c.in_default-2.not-NoMemory c.in_ok-read_on.ensures

pub loop-self-preserved : goal.loop-self-preserved
loop-self-preserved g c =
    let before = c.loop-self.invariant in
    let prints = c.in_ok-print_differences.ensures in
    let now = amid_printed prints.keeps before.amid in
    let reads = c.in_ok-read_on.ensures in
    let listens = c.in-Some.ensures.open c.in-Some.which refl in
    record {
      amid = amid_on now c.in-Some.which c.in_ok-read_on.field-0 listens c.in_default-2.not-Fault c.in_default-2.not-NoMemory reads;
      sink = sink_ok tt (sink_then before.sink (sink_then prints.sink reads.here.sink));
      told = λ asked x y unread. told_on now c.in-Some.which c.in_ok-read_on.field-0 listens prints.ends c.in_default-2.not-Fault c.in_default-2.not-NoMemory reads (told_printed prints (before.told asked x y unread)).to;
    }

pub returns-in-Fault : goal.returns-in-Fault
returns-in-Fault g c =
    let before = c.loop-self.invariant in
    let prints = c.in_ok-print_differences.ensures in
    let now = amid_printed prints.keeps before.amid in
    let reads = rw c.in-Fault.is at c.in_ok-read_on.ensures in
    let listens = c.in-Some.ensures.open c.in-Some.which refl in
    let over = fault_on now c.in-Some.which listens reads in
    record {
      told = λ asked x y unread. told_fault now c.in-Some.which (sym c.in-Some.ensures.wanted) listens prints.ends (plans_of now unread.plans) reads (told_printed prints (before.told asked x y unread));
      reads = over.0;
      counted = over.1;
      sink = sink_ok _ (sink_then before.sink (sink_then prints.sink reads.here.sink));
    }

pub returns-in-NoMemory : goal.returns-in-NoMemory
returns-in-NoMemory g c =
    let before = c.loop-self.invariant in
    let prints = c.in_ok-print_differences.ensures in
    let now = amid_printed prints.keeps before.amid in
    let reads = rw c.in-NoMemory.is at c.in_ok-read_on.ensures in
    let listens = c.in-Some.ensures.open c.in-Some.which refl in
    let over = memory_on now c.in-Some.which listens reads in
    record {
      told = λ asked x y unread. part_kept (told_part now.a now.b (plans_of now unread.plans) prints.ends (told_printed prints (before.told asked x y unread)).to) reads.here.kept;
      reads = over.0;
      counted = over.1;
      sink = sink_ok _ (sink_then before.sink (sink_then prints.sink reads.here.sink));
    }
