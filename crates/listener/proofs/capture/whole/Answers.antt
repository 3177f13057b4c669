use Rattle.std.proofs.Common.{◌≡◌, ℕ, ℤ, List, Result, Ok, Err, subst, sym, ap}
use Rattle.std.specs.Prelude.{IfOk}
use Rattle.packet_journal.specs.Packets.{PacketJournal}
use Rattle.pcap_frames.specs.Capture.{whole_records}
use Rattle.sample_schedule.specs.declared.shown.Shown.{Shown}
use Rattle.listener.specs.declared.heard.Heard.{Heard}
use Rattle.listener.specs.declared.plan.ListenPlan.{ListenPlan}
use Rattle.listener.specs.Headline.{KeepsHeadline}
use Rattle.listener.specs.Heard.{heard_of}
use Rattle.listener.specs.Laws.{HearsTalker}
use Rattle.listener.proofs.TrueHeadline.{headline}
use Rattle.listener.proofs.capture.whole.Goals as goal

headline_of : {E : Type 0} (plan : ListenPlan) (bytes : List ℕ) (result : Result Heard E) → IfOk result (λ heard. heard ≡ heard_of plan bytes)
    → IfOk result (λ heard. (shift : ℤ) (p : PacketJournal) → HearsTalker shift p plan (whole_records bytes) → KeepsHeadline shift p plan (whole_records bytes) heard.shown)
headline_of plan bytes (Ok heard) is =
    λ shift p hears. subst (λ (l : List Shown). KeepsHeadline shift p plan (whole_records bytes) l) (sym (ap (λ (h : Heard). h.shown) is)) (headline shift p plan (whole_records bytes) hears)
headline_of plan bytes (Err e) is = tt

pub returns-clause-exact : goal.returns-clause-exact
returns-clause-exact c = subst (λ (p : ListenPlan). IfOk c.hear.result (λ heard. heard ≡ heard_of p c.args.bytes.now)) c.in_ok-listener.ensures.plan c.hear.ensures

pub returns-clause-headline : goal.returns-clause-headline
returns-clause-headline c = headline_of c.args.plan.now c.args.bytes.now c.hear.result (returns-clause-exact c)
