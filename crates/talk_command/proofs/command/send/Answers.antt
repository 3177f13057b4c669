use Rattle.std.proofs.Common.{refl, rules, Ok, sym, subst, Err, inl, inr}
use Rattle.avtp_base.proofs.Told.{Keeps-refl}
use Rattle.avtp_text.proofs.Printing.{prefix_none}
use Rattle.talker.specs.Frames.{capture}
use Rattle.run_report.proofs.Outcomes.{tells_line, IsCut, tells_cut}
use Rattle.run_report.proofs.Making.{kept_but}
use Rattle.run_report.specs.declared.status.Status.{Status}
use Rattle.run_report.specs.declared.status.Status.TheVariants as status
use Rattle.talk_command.proofs.Talked.{makes_whole, writes_made, sent_done, tells_made, makes_part, cut_by, cut_undone, unmade_cut}
use Rattle.talk_command.specs.state.Talk.{Makes}
use Rattle.talk_command.specs.Talk.{sent_line}
use Rattle.talk_command.proofs.command.send.Goals.{in-Ok, in-Err}
use Rattle.talk_command.proofs.command.send.Goals as goal

pub returns : goal.returns
returns g c =
    elim c.match-make_capture.branch [
      | in-Ok w ↦ rw (w.text-is, w.out-is, w.result-is) (record {
        tells = tells_made _ _ (λ ended text o. o.0) (tells_line (refl, rw (c.packets-packets.ensures, c.clocks-clocks.ensures) refl) w.print_sent.ensures);
        makes = makes_whole w.print_sent.result w.in-Ok.ensures.made w.print_sent.ensures.status;
        writes = writes_made c.args.output.now (Ok tt) w.print_sent.result w.in-Ok.ensures (search rules) (search rules) (λ done. refl) (sent_done w.print_sent.result w.print_sent.ensures.status);
        sink = (search rules);
      })
      | in-Err w ↦ rw (w.text-is, w.out-is, w.result-is) (record {
        tells = (let cut = subst (λ (s : Status). IsCut (Ok s)) (sym w.unmade.ensures) (unmade_cut w.in-Err.fault) in
            tells_made _ _ (λ ended text o. o.0) (tells_cut status.Done (sent_line c.args.talker.now.plan c.args.talker.now.input) (refl, refl) cut (prefix_none _ _ _ (Keeps-refl _))));
        makes = subst (λ (s : Status). Makes c.args.output.now (capture c.args.talker.now.plan c.args.talker.now.input) (g.F.Shelf.state c.args.context.shelf.now).files (g.F.Shelf.state c.make_capture.new.shelf).files (Ok s)) (sym w.unmade.ensures) (makes_part w.in-Err.fault w.in-Err.ensures.part);
        writes = writes_made c.args.output.now (Err w.in-Err.fault) (Ok w.unmade.result) w.in-Err.ensures (elim w.in-Err.ensures.part [ inl keeps ↦ kept_but _ _ _ keeps | inr p ↦ (let put = p.put in search rules) ]) (search rules) (λ done. absurd (cut_undone w.in-Err.fault _ w.unmade.ensures done)) (cut_by w.in-Err.fault _ w.unmade.ensures);
        sink = (search rules);
      })
    ]
