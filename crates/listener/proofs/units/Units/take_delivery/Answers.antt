use Rattle.std.proofs.Common.{List, ap, map, sym, ◌∙◌}
use Rattle.sample_schedule.specs.declared.item.Item.{Item}
use Rattle.listener.specs.Gathering.{item_entry}
use Rattle.listener.specs.state.Views.{delivery_shape}
use Rattle.listener.proofs.Bounds.{item_fits}
use Rattle.listener.proofs.Gathered.{audio_taken}
use Rattle.listener.proofs.units.Units.take_delivery.Goals as goal

pub cut_first-requires : goal.cut_first-requires
cut_first-requires c = rw c.in_ok-item.ensures (item_fits (delivery_shape c.args.delivery.now) c.args.delivery.now.timely)

pub returns-then-delivery-ne-CVF : goal.returns-then-delivery-ne-CVF
returns-then-delivery-ne-CVF c =
    let d = delivery_shape c.args.delivery.now in
    let first = c.cut_first.ensures in
    record {
      stands = λ ds has.
          first.rest.stands _ (audio_taken ds d c.in_ok-item.item _ first.between c.requires.stream c.if-delivery-ne-CVF.true c.in_ok-item.ensures has first.cuts).has;
      gives = λ ds has.
          ap (λ (l : List Item). map item_entry l) (sym first.rest.left)
          ∙ (audio_taken ds d c.in_ok-item.item _ first.between c.requires.stream c.if-delivery-ne-CVF.true c.in_ok-item.ensures has first.cuts).gives;
      item = first.rest.item;
    }

pub returns : goal.returns
returns c = record {
  stands = λ ds has. c.next.ensures.stands _ (c.in_ok-take_video.ensures ds has).has;
  gives = λ ds has.
      ap (λ (l : List Item). map item_entry l) (sym c.next.ensures.left) ∙ (c.in_ok-take_video.ensures ds has).gives;
  item = c.next.ensures.item;
}
