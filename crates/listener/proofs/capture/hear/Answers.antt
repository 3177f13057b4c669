use Rattle.std.proofs.Common.{◌≡◌, [], List, length, subst, sym, ◌∙◌}
use Rattle.sample_schedule.specs.declared.shown.Shown.{Shown}
use Rattle.listener.specs.Heard.{heard_of}
use Rattle.listener.proofs.Fed.{given_none, heard_whole}
use Rattle.listener.proofs.capture.hear.Goals as goal

pub returns : goal.returns
returns c =
    let plan = c.args.listener.now.listener.plan in
    let bytes = c.args.bytes.now in
    let list = c.give_all.new.list.items in
    let begun = c.requires.begun in
    let fed = c.in_ok-feed_piece.ensures.given [] (given_none c.new-list.result.items c.args.listener.now c.new-list.ensures.items begun.stands) in
    let ended = c.end-refused.ensures.given bytes c.feed_piece.new.list.items fed in
    let keeps = c.in_ok-give_all.ensures.keeps in
    let given = c.in_ok-give_all.ensures.given bytes ended in
    subst (λ (l : List Shown). record { shown = l; counts = c.counts.result; refused = c.end-refused.result } ≡ heard_of plan bytes) (sym c.over.ensures)
    (heard_whole plan bytes list c.give_all.new.listener c.counts.result c.end-refused.result (keeps.plan ∙ (c.end-refused.ensures.plan ∙ c.in_ok-feed_piece.ensures.plan)) (keeps.ended ∙ c.end-refused.ensures.ended)
    (c.in_ok-give_all.ensures.all bytes ended) (c.counts.ensures bytes (length list) given.stands) (c.end-refused.ensures.refused bytes (length c.feed_piece.new.list.items) fed.stands))
