-- No batch before index `i` passes the test, and the batch at `i` passes it.
use Rattle.std.proofs.Common.{◌≡◌, ◌<◌, suc, true, drop, get_or, length, rules, sym, ap, ◌∙◌, subst, arith}
use Rattle.std.specs.List.{find}
use Rattle.std.proofs.lemmas.Grind.{common_steps}
use Rattle.std.proofs.Math.Seq.{drop-cons}
use Rattle.std.proofs.lemmas.Option.{slice_get-get_or}
use Rattle.listener_pair.specs.declared.placed.Placed.{Placed}
use Rattle.listener_pair.specs.state.Window.{takes_by}
use Rattle.listener_pair.proofs.Windows.{find-yes}
use Rattle.listener_pair.proofs.window.find_partner.Goals as goal

pub returns-then-fits : goal.returns-then-fits
returns-then-fits c =
    let items = c.args.waiting.now.items in
    let y = c.index.result.now in
    let within : c.loop-i.i < length items = let t = c.loop-i-test.true in let e = c.len-i-end.ensures in omega arith in
    let fits : takes_by c.args.side c.args.x.now y ≡ true = sym c.fits.ensures ∙ c.if-fits.true in
    let is_y : y ≡ get_or items c.loop-i.i y = c.index.ensures in
    record {
      found =
          c.loop-i.invariant.found
          ∙ ap (find (takes_by c.args.side c.args.x.now)) (drop-cons items c.loop-i.i y within)
          ∙ find-yes (takes_by c.args.side c.args.x.now) (get_or items c.loop-i.i y) (drop (suc c.loop-i.i) items) (subst (λ (p : Placed). takes_by c.args.side c.args.x.now p ≡ true) is_y fits)
          ∙ sym (slice_get-get_or items c.loop-i.i y within);
      left = grind (arith, common_steps);
      none = search rules;
    }
