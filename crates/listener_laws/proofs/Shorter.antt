-- If a listener hears a talker in a whole capture, it hears the talker in the capture's first records.
use Rattle.std.proofs.Common.{◌≡◌, ℕ, ℤ, List, [], ◌∷◌, ◌++◌, refl, ap, subst}
use Rattle.pcap_frames.specs.Capture.{Record}
use Rattle.stream_journal.specs.Delivered.{AreNear}
use Rattle.stream_journal.specs.Journal.{Journal}
use Rattle.packet_journal.specs.Deliveries.{Delivery, deliveries}
use Rattle.packet_journal.specs.Delivered.{AreFrom, Origin, OfClock, OfStream, stream_numbers}
use Rattle.packet_journal.specs.Packets.{PacketJournal}
use Rattle.listener.specs.declared.plan.ListenPlan.{ListenPlan}
use Rattle.listener.specs.Heard.{deliveries_of}
use Rattle.listener.specs.Laws.{HearsTalker}
use Rattle.listener.proofs.Due.{deliveries_more}
use Rattle.listener.proofs.KnownItems.{origins_of}

near_front : (j : Journal) (xs ys : List ℕ) → AreNear j (xs ++ ys) → AreNear j xs
near_front j [] ys near = tt
near_front j (n ∷ []) ys near = tt
near_front j (n ∷ m ∷ xs) ys near = (near.0, near_front j (m ∷ xs) ys near.1)

-- The origins are those of the deliveries `ds`, and then those of the later deliveries.
record HasFront (p : PacketJournal) (lead : ℕ) (os : List Origin) (ds : List Delivery) : Type 0 where
  front : List Origin
  back : List Origin
  copies : AreFrom p lead front ds
  numbers : stream_numbers os ≡ stream_numbers front ++ stream_numbers back

front_of : (p : PacketJournal) (lead : ℕ) (os : List Origin) (ds rest : List Delivery) → AreFrom p lead os (ds ++ rest) → HasFront p lead os ds
front_of p lead os [] rest from = record { front = []; back = os; copies = tt; numbers = refl }
front_of p lead [] (d ∷ ds) rest from = absurd from
front_of p lead (OfStream n ∷ os) (d ∷ ds) rest from =
    let more = front_of p lead os ds rest from.1 in
    record { front = OfStream n ∷ more.front; back = more.back; copies = (from.0, more.copies); numbers = ap (λ (l : List ℕ). n ∷ l) more.numbers }
front_of p lead (OfClock m ∷ os) (d ∷ ds) rest from =
    let more = front_of p lead os ds rest from.1 in
    record { front = OfClock m ∷ more.front; back = more.back; copies = (from.0, more.copies); numbers = more.numbers }

pub shorter_heard : (shift : ℤ) (p : PacketJournal) (plan : ListenPlan) (records others : List Record) → HearsTalker shift p plan (records ++ others) → HearsTalker shift p plan records
shorter_heard shift p plan records others h =
    let more = deliveries_more plan records others in
    let ds = deliveries_of plan records in
    let copies : AreFrom p plan.lead h.delivered.origins (deliveries_of plan (records ++ others)) = origins_of shift p plan (records ++ others) h in
    let front = front_of p plan.lead h.delivered.origins ds more.0 (subst (λ (l : List Delivery). AreFrom p plan.lead h.delivered.origins l) more.1 copies) in
    record {
      conforming = h.conforming;
      stream = h.stream;
      clock = h.clock;
      delivered = record {
        origins = front.front;
        copies = subst (λ (stream : ℕ). AreFrom p plan.lead front.front (deliveries stream plan.clock records)) h.stream front.copies;
        near = near_front p.times (stream_numbers front.front) (stream_numbers front.back) (subst (λ (l : List ℕ). AreNear p.times l) front.numbers h.delivered.near);
      };
    }
