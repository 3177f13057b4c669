-- If two listeners hear one talker, the known part of the batches that they present has no differences.
use Rattle.std.proofs.Common.{◌≡◌, Bool, true, false, ℤ, List, [], refl, sym, ap, ◌∙◌, subst}
use Rattle.std.specs.List.{AllByRecursion}
use Rattle.pcap_frames.specs.Capture.{Record}
use Rattle.packet_journal.specs.Packets.{PacketJournal}
use Rattle.sample_schedule.specs.Batches.{Presented}
use Rattle.sample_schedule.specs.declared.shown.Shown.{Shown}
use Rattle.listener.specs.declared.plan.ListenPlan.{ListenPlan}
use Rattle.listener.specs.Heard.{due_of, shown_of}
use Rattle.listener.specs.Laws.{HearsTalker, by_clock, presented_of}
use Rattle.listener.specs.Listening.{ListenState, is_closed}
use Rattle.listener.proofs.Due.{due_first}
use Rattle.listener.proofs.Listened.{out_ended, out_open}
use Rattle.listener_pair.specs.Differences.{differences}
use Rattle.listener_pair.specs.Merged.{Sided, known, merged}
use Rattle.listener_pair.proofs.PairLaws.{known-front}
use Rattle.listener_pair.proofs.Sorting.{all-left}
use Rattle.capture_pair.specs.Pairing.{HavePlan, PairState, known_by, presented_by}
use Rattle.capture_pair.proofs.Handing.{presented-append}
use Rattle.capture_pair.proofs.Joined.{all-merged}
use Rattle.pair_laws.specs.Agreeing.{IsPresentedOfTalker}
use Rattle.pair_laws.proofs.Agreeing.{list-none}
use Rattle.pair_laws.proofs.Paces.{presented-of-talker}

-- the batches of the list are of the talker
abbrev AreTalkers : ListenPlan → PacketJournal → List Presented → Type 0
AreTalkers plan p xs = AllByRecursion (IsPresentedOfTalker (by_clock plan) p) xs

due-of-talker : (shift : ℤ) (p : PacketJournal) (plan : ListenPlan) (records : List Record) → HearsTalker shift p plan records
    → AreTalkers plan p (presented_of (due_of plan records))
due-of-talker shift p plan records h =
    let first = due_first plan records in
    all-left (IsPresentedOfTalker (by_clock plan) p) (presented_of (due_of plan records)) (presented_of first.0)
    (subst (AreTalkers plan p) (ap presented_of (sym first.1) ∙ presented-append (due_of plan records) first.0) (presented-of-talker shift p plan records h))

-- if all batches of both sides are of the talker, the known part has no differences
known-none : (shift : ℤ) (p : PacketJournal) (plan : ListenPlan) (records : List Record) (xs ys : List Presented) (ended_a ended_b : Bool)
    → HearsTalker shift p plan records → AreTalkers plan p xs → AreTalkers plan p ys → differences (known ended_a ended_b (merged xs ys)) ≡ []
known-none shift p plan records xs ys ended_a ended_b h a b =
    let all = all-merged (λ (x : Sided). IsPresentedOfTalker (by_clock plan) p x.batch) xs ys a b in
    let front = known-front ended_a ended_b (merged xs ys) in
    list-none (by_clock plan) p (known ended_a ended_b (merged xs ys)) h.conforming.times
    (all-left (λ (x : Sided). IsPresentedOfTalker (by_clock plan) p x.batch) (known ended_a ended_b (merged xs ys)) front.0
    (subst (λ (l : List Sided). AllByRecursion (λ (x : Sided). IsPresentedOfTalker (by_clock plan) p x.batch) l) (sym front.1) all))

pub known-due-a : (shift : ℤ) (p : PacketJournal) (plan : ListenPlan) (records others : List Record) (ended_a ended_b : Bool)
    → HearsTalker shift p plan records → HearsTalker shift p plan others
    → differences (known ended_a ended_b (merged (presented_of (due_of plan records)) (presented_of (shown_of plan others)))) ≡ []
known-due-a shift p plan records others ended_a ended_b h k =
    known-none shift p plan records (presented_of (due_of plan records)) (presented_of (shown_of plan others)) ended_a ended_b h
    (due-of-talker shift p plan records h) (presented-of-talker shift p plan others k)

pub known-due-b : (shift : ℤ) (p : PacketJournal) (plan : ListenPlan) (records others : List Record) (ended_a ended_b : Bool)
    → HearsTalker shift p plan records → HearsTalker shift p plan others
    → differences (known ended_a ended_b (merged (presented_of (shown_of plan records)) (presented_of (due_of plan others)))) ≡ []
known-due-b shift p plan records others ended_a ended_b h k =
    known-none shift p plan records (presented_of (shown_of plan records)) (presented_of (due_of plan others)) ended_a ended_b h
    (presented-of-talker shift p plan records h) (due-of-talker shift p plan others k)

pub known-shown : (shift : ℤ) (p : PacketJournal) (plan : ListenPlan) (records others : List Record) (ended_a ended_b : Bool)
    → HearsTalker shift p plan records → HearsTalker shift p plan others
    → differences (known ended_a ended_b (merged (presented_of (shown_of plan records)) (presented_of (shown_of plan others)))) ≡ []
known-shown shift p plan records others ended_a ended_b h k =
    known-none shift p plan records (presented_of (shown_of plan records)) (presented_of (shown_of plan others)) ended_a ended_b h
    (presented-of-talker shift p plan records h) (presented-of-talker shift p plan others k)

-- all batches that a listener presents so far are of the talker
presents-talker : (shift : ℤ) (p : PacketJournal) (plan : ListenPlan) (records : List Record) (l : ListenState)
    → HearsTalker shift p plan records → l.plan ≡ plan → AreTalkers plan p (presented_by l records)
presents-talker shift p plan records l h is = at (is_closed l) refl
  where
    at : (b : Bool) → is_closed l ≡ b → AreTalkers plan p (presented_by l records)
    at true e =
        subst (λ (s : List Shown). AreTalkers plan p (presented_of s)) (ap (λ (q : ListenPlan). shown_of q records) (sym is) ∙ sym (out_ended l records e))
        (presented-of-talker shift p plan records h)
    at false e =
        subst (λ (s : List Shown). AreTalkers plan p (presented_of s)) (ap (λ (q : ListenPlan). due_of q records) (sym is) ∙ sym (out_open l records e))
        (due-of-talker shift p plan records h)

pub known-pair : (shift : ℤ) (p : PacketJournal) (plan : ListenPlan) (records others : List Record) (pair : PairState)
    → HearsTalker shift p plan records → HearsTalker shift p plan others → HavePlan plan pair → differences (known_by pair records others) ≡ []
known-pair shift p plan records others pair h k plans =
    known-none shift p plan records (presented_by pair.a records) (presented_by pair.b others) (is_closed pair.a) (is_closed pair.b) h
    (presents-talker shift p plan records pair.a h plans.a) (presents-talker shift p plan others pair.b k plans.b)
