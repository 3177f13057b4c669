use Rattle.std.proofs.Common.{◌≡◌, ◌≤◌, List, ℕ, length, rules, refl}
use Rattle.talk_plan.specs.Plan.{most_input}
use Rattle.run_report.proofs.Outcomes.{ends_not, tells_line, undone_by}
use Rattle.run_report.specs.declared.status.Status.TheVariants as status
use Rattle.talk_command.proofs.Talked.{makes_none, writes_none, refused_not, refused_undone, stops_end, tells_read, tells_refused, tells_unwritten, stops_fault, stops_limit, too_long}
use Rattle.talk_command.proofs.command.talk_contents.Goals.{in-Fault, in-Limit, in-End+in-Ok, in-End+in-Err}
use Rattle.talk_command.proofs.command.talk_contents.Goals as goal

pub returns : goal.returns
returns g c =
    elim c.match-contents.branch [
      | in-Fault w ↦ rw (w.shelf-is, w.text-is, w.out-is, w.result-is) (record {
        tells = λ bytes has. tells_unwritten _ (tells_line (w.in-Fault.is, refl) w.print_fault.ensures);
        makes = λ bytes has. makes_none _ w.print_fault.result (ends_not status.Done (λ e. cc) w.print_fault.ensures);
        writes = writes_none c.args.output.now w.print_fault.result (undone_by _ status.ReadFault refl w.print_fault.ensures.status) (ends_not status.WriteFault (λ e. cc) w.print_fault.ensures);
        counts = stops_fault c.args.contents.now.stop w.print_fault.result w.in-Fault.is w.print_fault.ensures;
        sink = w.print_fault.ensures.sink;
      })
      | in-Limit w ↦ rw (w.shelf-is, w.text-is, w.out-is, w.result-is) (record {
        tells = λ bytes has. tells_unwritten _ (tells_line (too_long most_input bytes _ _ w.in-Limit.is has, refl) w.print_limit.ensures);
        makes = λ bytes has. makes_none _ w.print_limit.result (ends_not status.Done (λ e. cc) w.print_limit.ensures);
        writes = writes_none c.args.output.now w.print_limit.result (undone_by _ status.Limit refl w.print_limit.ensures.status) (ends_not status.WriteFault (λ e. cc) w.print_limit.ensures);
        counts = stops_limit c.args.contents.now.stop w.print_limit.result w.in-Limit.is w.print_limit.ensures;
        sink = w.print_limit.ensures.sink;
      })
      | in-End+in-Ok w ↦ rw (w.shelf-is, w.text-is, w.out-is, w.result-is) (search rules)
      | in-End+in-Err w ↦ (
          let plan = c.args.plan in
          let contents = c.args.contents.now in
          let input : List ℕ = w.as_slice.result.now in
          let same : input ≡ contents.bytes.items = w.as_slice.ensures.value in
          let fits : length input ≤ most_input = rw same c.requires.bounded in
          let why = w.in-Err.fault in
          let ended = w.print_talk_fault.ensures in
          let refused = tells_refused plan input ⊥ why fits w.in-Err.ensures.only ended in
          rw (w.shelf-is, w.text-is, w.out-is, w.result-is) (record {
            tells = λ bytes has. tells_read _ _ plan bytes input contents.stop w.in-End.is same has (tells_unwritten _ refused);
            makes = λ bytes has. makes_none _ w.print_talk_fault.result (refused_not why status.Done (λ e. cc) (λ e. cc) ended);
            writes = writes_none c.args.output.now w.print_talk_fault.result (refused_undone _ why ended) (refused_not why status.WriteFault (λ e. cc) (λ e. cc) ended);
            counts = stops_end plan input contents.stop w.print_talk_fault.result w.in-End.is refused;
            sink = ended.sink;
          }))
    ]
