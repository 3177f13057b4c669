use Rattle.std.proofs.Common.{◌≡◌, ℕ, ◌+◌, ◌-◌, true, false, refl, sym, ap, ◌∙◌, arith}
use Rattle.stream_report.specs.Sequence.{lost, lost_with}
use Rattle.stream_report.specs.declared.sequence.Place.TheVariants.{Late, Early, Repeat}
use Rattle.stream_report.proofs.Lost.{lost-more}
use Rattle.stream_report.proofs.Orders.{ahead-read, behind-read, counts-ahead, counts-behind, late-le, missing-read, one-more, repeats-le}
use Rattle.stream_report.proofs.order.Order.note.Goals as goal

plus-zero : (n : ℕ) → n ≡ n + 0
plus-zero n = omega arith

pub returns-in-Ahead : goal.returns-in-Ahead
returns-in-Ahead c = record {
  counts = λ first later number counts follows seq few.
      let place = c.in-Ahead.ensures.place first later number counts.window follows seq in
      counts-ahead c.args.self.now _ first later number c.from.result counts (ahead-read first later number _ place)
      (c.from.ensures ∙ missing-read first later number _ place) c.pass.ensures.passed
      (c.pass.ensures.stands first later number counts.window (record { ahead = ahead-read first later number _ place; most = omega (arith, follows.most) }) seq) few;
  place = λ first later number counts follows seq. c.in-Ahead.ensures.place first later number counts.window follows seq;
}

pub returns-in-Late : goal.returns-in-Late
returns-in-Late c = record {
  counts = λ first later number counts follows seq few.
      let place = c.in-Late.ensures.place first later number counts.window follows seq in
      let behind = behind-read first later number Late place refl in
      counts-behind c.args.self.now _ first later number false counts behind
      (c.take_back.ensures.count ∙ ap (λ (n : ℕ). n - 1) counts.lost ∙ sym (lost-more first later number ∙ ap (lost_with (lost first later)) (sym place)))
      refl (plus-zero _) (c.note.ensures.count ∙ one-more _ _ (omega (arith, counts.late, late-le first later)) few.packets)
      (c.fill.ensures.stands first later number counts.window follows behind.within seq);
  place = λ first later number counts follows seq. c.place-place.ensures.place first later number counts.window follows seq;
}

pub returns-in-Early : goal.returns-in-Early
returns-in-Early c = record {
  counts = λ first later number counts follows seq few.
      let place = c.in-Early.ensures.place first later number counts.window follows seq in
      let behind = behind-read first later number Early place refl in
      counts-behind c.args.self.now _ first later number false counts behind
      (counts.lost ∙ sym (lost-more first later number ∙ ap (lost_with (lost first later)) (sym place)))
      refl (plus-zero _) (c.note-in-Early.ensures.count ∙ one-more _ _ (omega (arith, counts.late, late-le first later)) few.packets)
      (c.fill-in-Early.ensures.stands first later number counts.window follows behind.within seq);
  place = λ first later number counts follows seq. c.place-place.ensures.place first later number counts.window follows seq;
}

pub returns-in-Repeat : goal.returns-in-Repeat
returns-in-Repeat c = record {
  counts = λ first later number counts follows seq few.
      let place = c.in-Repeat.ensures.place first later number counts.window follows seq in
      let behind = behind-read first later number Repeat place refl in
      counts-behind c.args.self.now _ first later number true counts behind
      (counts.lost ∙ sym (lost-more first later number ∙ ap (lost_with (lost first later)) (sym place)))
      refl (c.note-in-Repeat.ensures.count ∙ one-more _ _ (omega (arith, counts.repeated, repeats-le first later)) few.packets) (plus-zero _)
      (c.fill-in-Repeat.ensures.stands first later number counts.window follows behind.within seq);
  place = λ first later number counts follows seq. c.place-place.ensures.place first later number counts.window follows seq;
}
