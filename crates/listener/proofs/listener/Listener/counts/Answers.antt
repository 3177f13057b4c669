use Rattle.std.proofs.Common.{◌≡◌, ◌+◌, Option, Some, length, take, sym, ap, ◌∙◌}
use Rattle.std.specs.Option.{option_to_list}
use Rattle.pcap_frames.specs.Capture.{whole_records}
use Rattle.sample_schedule.specs.declared.shown.Shown.{Shown}
use Rattle.listener.specs.declared.heard.Counts.{Counts}
use Rattle.listener.specs.Feeding.{Feeding, out}
use Rattle.listener.specs.Heard.{counts_of}
use Rattle.listener.specs.state.Listening.{without_shown}
use Rattle.listener.proofs.Fed.{counted_before}
use Rattle.listener.proofs.listener.Listener.counts.Goals as goal

pub returns-in-Some : goal.returns-in-Some
returns-in-Some c bytes given stands =
    let fed = c.args.self.now in
    let next : fed.next ≡ Some c.in-Some.shown = ap (λ (f : Feeding). f.next) (sym c.self.view_is) ∙ c.in-Some.is in
    let records = whole_records bytes in
    let list = out fed bytes in
    c.without_shown.ensures
    ∙ (ap (λ (k : Counts). without_shown k c.in-Some.shown) (c.counts-counts.ensures ∙ (ap (λ (f : Feeding). f.listener.counts) c.self.view_is ∙ stands.stands.counts))
    ∙ (ap (λ (o : Option Shown). without_shown (counts_of fed.listener.plan records (take (given + length (option_to_list o)) list)) c.in-Some.shown) next
    ∙ counted_before fed.listener.plan records list given c.in-Some.shown (sym next ∙ stands.next)))
