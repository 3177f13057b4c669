-- In the example, the first copy of a packet must be presented at the instants that the clock gives, and the second
-- copy is a further copy.
use Rattle.std.proofs.Common.{◌≡◌, ◌≢◌, inl, inr, ℕ, zero, suc, ◌+◌, ◌*◌, ◌^◌, ◌<◌, ◌≤◌, true, pos, ◌≤ℤ◌, List, [], ◌∷◌, length, take, Some, refl, sym, ap, subst, append-nil, arith}
use Rattle.std.specs.Prelude.{slice_get}
use Rattle.std.proofs.lemmas.Int.{ints}
use Rattle.std.proofs.lemmas.List.Elements.{All-cons, All-nil}
use Rattle.time_unfold.specs.declared.head_rule.Head.{Head}
use Rattle.pcap_frames.specs.Frame.{IsWritableFrame}
use Rattle.aaf_format.specs.Aaf.{aaf_spelling}
use Rattle.crf_format.specs.Crf.{crf_spelling}
use Rattle.stream_journal.specs.Clocks.{IsJoinedAt}
use Rattle.stream_journal.specs.Delivered.{IsInHalfCircle}
use Rattle.stream_journal.specs.Examples.{came, clocked}
use Rattle.stream_journal.specs.Journal.{IsAt, head_of}
use Rattle.stream_journal.specs.Known.{IsCoveredBy, IsKnown}
use Rattle.packet_journal.specs.Carried.{AllCarryFrom, Carries, CarriesClock}
use Rattle.packet_journal.specs.Deliveries.{Delivery, delivery}
use Rattle.packet_journal.specs.Delivered.{IsCopyOf, Spells, stream_numbers}
use Rattle.packet_journal.specs.Packets.{carried}
use Rattle.packet_journal.specs.Examples.{clock_data, clocked_packets, silent}
use Rattle.listener.specs.Known.{clock_numbers}
use Rattle.listener_laws.specs.Anywhere.{ComesInTime, MustBePresented}
use Rattle.listener_laws.specs.Examples.{clocked_listener, framed, recorded_clock, recorded_stream, swapped, swapped_records}
use Rattle.listener_laws.proofs.Carried.{AreRead, all_delivered, all_from, numbered}

-- ---- the records carry the packets

writable : (packet : List ℕ) → IsWritableFrame (framed packet)
writable packet = record { dst = omega arith; src = omega arith; ethertype = omega arith; tag = tt; untagged = λ e. omega arith }

spells : (packet : List ℕ) → Spells packet packet
spells packet = record { trail = []; whole = sym (append-nil packet) }

carries_clock : (arrival m : ℕ) → m < 2 → CarriesClock clocked_packets m (recorded_clock arrival m)
carries_clock arrival m h = record {
  known = h;
  frame = framed (crf_spelling (clock_data m));
  writable = writable (crf_spelling (clock_data m));
  bytes = refl;
  avtp = refl;
  packet = spells (crf_spelling (clock_data m));
}

same_stamp : (n instant arrival : ℕ) → Some (1002000000 + n * 125000) ≡ Some instant → IsInHalfCircle (1002000000 + n * 125000) arrival → IsInHalfCircle instant arrival
same_stamp n instant arrival e near = let same : 1002000000 + n * 125000 ≡ instant = cc in subst (λ (i : ℕ). IsInHalfCircle i arrival) same near

carries_stream : (arrival n : ℕ) → n < 64 → arrival ≤ 2 ^ 62 → IsInHalfCircle (1002000000 + n * 125000) arrival → Carries clocked_packets 2000000 n (recorded_stream arrival n)
carries_stream arrival n h most near = record {
  frame = framed (aaf_spelling (silent n));
  writable = writable (aaf_spelling (silent n));
  bytes = refl;
  avtp = refl;
  packet = spells (aaf_spelling (silent n));
  arrival = arrival;
  arrived = refl;
  delivered = record { known = h; arrival = most; stamped = λ instant e. same_stamp n instant arrival e near; unstamped = λ audio e. absurd cc };
}

pub all_carried : AllCarryFrom clocked_packets 2000000 swapped swapped_records
all_carried = (
  carries_clock 1003000000 0 (omega arith),
  (
    carries_clock 1003100000 1 (omega arith),
    (
      carries_stream 1003200000 34 (omega arith) (omega arith) (record { from = omega arith; to = omega arith }),
      (
        carries_stream 1003300000 33 (omega arith) (omega arith) (record { from = omega arith; to = omega arith }),
        (carries_stream 1003400000 33 (omega arith) (omega arith) (record { from = omega arith; to = omega arith }), tt),
      ),
    ),
  ),
)

-- ---- what is known

joined : IsJoinedAt (clocked 48000).clock (record { packet = 0; at = 1 }) (record { packet = 1; at = 0 })
joined = record {
  follows = record {
    first = record { packet = omega arith; at = omega arith };
    second = record { packet = omega arith; at = omega arith };
    next = inr (refl, refl, refl);
  };
  one_run = refl;
  joined = record { least = omega arith; most = omega arith };
}

thirty_three_at : IsAt true (clocked 48000) 33 0 (pos 1006125000)
thirty_three_at = record {
  head = record { instant = pos 1006125000; first = pos 0 };
  is_head = refl;
  earlier = record { packet = 0; at = 1 };
  later = record { packet = 1; at = 0 };
  joined = joined;
  covers = record { from = omega arith; to = omega arith };
  at = refl;
}

covered : IsCoveredBy (clocked 48000).clock (pos 1000) 48000 (0 ∷ 1 ∷ []) (pos 1006125000)
covered = record {
  earlier = record { packet = 0; at = 1 };
  later = record { packet = 1; at = 0 };
  follows = joined.follows;
  one_run = refl;
  earlier_taken = omega (arith, ints);
  later_taken = omega (arith, ints);
  earlier_came = (0, omega arith, refl);
  later_came = (1, omega arith, refl);
  covers = record { from = omega (arith, ints); to = omega (arith, ints) };
}

covered_at : (head : Head) → head_of (clocked 48000) 33 ≡ Some head → IsCoveredBy (clocked 48000).clock (pos 1000) 48000 (0 ∷ 1 ∷ []) head.instant
covered_at head e =
    let same : record { instant = pos 1006125000; first = pos 0 } ≡ head = cc in
    subst (λ (h : Head). IsCoveredBy (clocked 48000).clock (pos 1000) 48000 (0 ∷ 1 ∷ []) h.instant) same covered

known : (arrival : ℕ) (came : List ℕ) → IsKnown true (clocked 48000) (pos 1000) 2000000 0 (record { number = 33; arrival = arrival }) came (0 ∷ 1 ∷ [])
known arrival came = record { timed = inl refl; covered = λ on head e. covered_at head e }

-- ---- the deliveries

abbrev ds : List Delivery
ds = numbered 1 swapped_records

arrival_is : (d e : Delivery) → Some d ≡ Some e → d.arrival ≡ e.arrival
arrival_is d e same = let is : d ≡ e = cc in ap (λ (x : Delivery). x.arrival) is

arrives_by : (k : ℕ) (e : Delivery) → slice_get ds k ≡ Some e → e.arrival ≤ℤ pos 1006125000
arrives_by zero e at = let same : pos 1003000000 ≡ e.arrival = arrival_is _ e at in rw (← same) (omega (arith, ints))
arrives_by (suc zero) e at = let same : pos 1003100000 ≡ e.arrival = arrival_is _ e at in rw (← same) (omega (arith, ints))
arrives_by (suc (suc zero)) e at = let same : pos 1003200000 ≡ e.arrival = arrival_is _ e at in rw (← same) (omega (arith, ints))
arrives_by (suc (suc (suc zero))) e at = let same : pos 1003300000 ≡ e.arrival = arrival_is _ e at in rw (← same) (omega (arith, ints))
arrives_by (suc (suc (suc (suc zero)))) e at = let same : pos 1003400000 ≡ e.arrival = arrival_is _ e at in rw (← same) (omega (arith, ints))
arrives_by (suc (suc (suc (suc (suc k))))) e at = absurd (none_at k e at)
  where
    none_at : (k : ℕ) (e : Delivery) → slice_get {X = Delivery} [] k ≡ Some e → ⊥
    none_at k e at = cc

-- the copies of packet 33, at indices 3 and 4, arrive in time
comes_at : AreRead clocked_packets 2000000 → (place : ℕ) (d : Delivery) → 3 ≤ place → place ≤ 4 → slice_get ds place ≡ Some d → IsCopyOf clocked_packets 2000000 33 d → ComesInTime clocked_packets clocked_listener swapped_records place 33 d
comes_at are place d low high at copy =
    let same = all_delivered clocked_packets (Some 0x0200000000010002) 2000000 swapped swapped_records are (refl, (refl, (tt, (tt, (tt, tt))))) all_carried in
    record {
      there = rw same at;
      copy = copy;
      known = record {
        origins = swapped;
        from = rw same (all_from clocked_packets 2000000 1 swapped swapped_records are all_carried);
        is = is_known place low high copy.arrival;
      };
      instant = 1006125000;
      at = thirty_three_at;
      in_time = λ k e le there. arrives_by k e (rw same at there);
    }
  where
    is_known : (place : ℕ) → 3 ≤ place → place ≤ 4 → (arrival : ℕ) → IsKnown true (clocked 48000) (pos 1000) 2000000 0 (record { number = 33; arrival = arrival }) (stream_numbers (take (place + 0 + 1) swapped)) (clock_numbers (take (place + 0 + 1) swapped))
    is_known zero low high arrival = absurd (omega arith)
    is_known (suc zero) low high arrival = absurd (omega arith)
    is_known (suc (suc zero)) low high arrival = absurd (omega arith)
    is_known (suc (suc (suc zero))) low high arrival = known arrival (34 ∷ 33 ∷ [])
    is_known (suc (suc (suc (suc zero)))) low high arrival = known arrival (34 ∷ 33 ∷ 33 ∷ [])
    is_known (suc (suc (suc (suc (suc place))))) low high arrival = absurd (omega arith)

pub must_be : AreRead clocked_packets 2000000 → (d : Delivery) × MustBePresented clocked_packets clocked_listener swapped_records 3 33 d
unfolding comes_at
must_be are =
    let r = recorded_stream 1003300000 33 in
    let copy = are.copy 33 4 r all_carried.1.1.1.0 in (
      delivery 4 r,
      record {
        comes = comes_at are 3 (delivery 4 r) (omega arith) (omega arith) refl copy;
        first = All-cons (λ (k : ℕ). k ≢ 33) 34 [] (λ e. cc) (All-nil (λ (k : ℕ). k ≢ 33));
        waits = λ k. true;
        finds = λ k x lt at h. refl;
        some = omega arith;
        most = 24;
        size = λ m h. size_is m;
        bytes = omega arith;
      },
    )
  where
    size_is : (m : ℕ) → length (carried (clocked_packets.packet m)) ≤ 24
    size_is m = let e : length (carried (clocked_packets.packet m)) ≡ 24 = refl in omega arith

pub comes_again : AreRead clocked_packets 2000000 → (d : Delivery) × ComesInTime clocked_packets clocked_listener swapped_records 4 33 d
comes_again are =
    let r = recorded_stream 1003400000 33 in
    (delivery 5 r, comes_at are 4 (delivery 5 r) (omega arith) (omega arith) refl (are.copy 33 5 r all_carried.1.1.1.1.0))
