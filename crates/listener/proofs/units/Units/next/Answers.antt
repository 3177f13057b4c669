use Rattle.std.proofs.Common.{◌≡◌, ◌+◌, ◌∷◌, rules, sym, ap, subst, refl, ◌∙◌}
use Rattle.sample_schedule.specs.declared.item.Item.{Item}
use Rattle.sample_schedule.specs.declared.shown.Reason.{Reason}
use Rattle.sample_schedule.specs.Limits.{IsItem}
use Rattle.listener.specs.Gathering.{Gathered, left, lost_item}
use Rattle.listener.specs.Items.{lost_for}
use Rattle.listener.proofs.Gathered.{lost_there, lost_timely, next_left}
use Rattle.listener.proofs.units.Units.next.Goals as goal

item_is : (c : goal.After-lost_item) → c.lost_item.result ≡ lost_item (lost_for c.self.inside.why) c.lost_mark-mark.result
item_is c = c.lost_item.ensures ∙ ap (λ (r : Reason). lost_item r c.lost_mark-mark.result) c.reason_for.ensures

abbrev before : goal.After-lost_item → Gathered
before c = record { assembly = c.self.inside.assembler; why = c.self.inside.why; taken = c.self.inside.taken; own = c.self.inside.own }

abbrev after : goal.After-lost_item → Gathered
after c = record { assembly = c.self.inside.assembler; why = c.self.inside.why; taken = c.self.inside.taken + 1; own = c.self.inside.own }

pub returns-then-self : goal.returns-then-self
returns-then-self c =
    let there = lost_there (before c) c.lost_mark-mark.result c.self.invariant.0 c.lost_mark-mark.ensures in
    record {
      stands = search rules;
      none = tt;
      item = subst IsItem (sym (item_is c)) (lost_timely (before c) c.lost_mark-mark.result c.self.invariant.0 there);
      left = ap left (sym c.self.view_is) ∙ (next_left (before c) (after c) c.lost_mark-mark.result there refl ∙ ap (λ (i : Item). i ∷ left (after c)) (sym (item_is c)));
    }
