-- If a batch is made of copies of the journal's packets, the batch's samples are presented at the journal's instants.
use Rattle.std.proofs.Common.{Ok, is_some, ◌≡◌, ℕ, ◌+◌, ◌%◌, ◌^◌, ◌<◌, ◌≤◌, Bool, true, false, ℤ, pos, ◌+ℤ◌, List, All, Option, Some, None, refl, sym, subst, arith}
use Rattle.std.specs.Prelude.{◌==◌, neg_ℤ, nat_lt, if◌then◌else◌, option_map, option_and_then, IfSome, Result, Err, IfOk}
use Rattle.std.specs.List.{filter_map}
use Rattle.std.specs.Option.{option_or}
use Rattle.std.proofs.lemmas.Bool.Decides.{nat_tests}
use Rattle.clock_track.specs.PairLines.{Spot}
use Rattle.clock_track.specs.Rows.{clock_spot}
use Rattle.time_unfold.specs.Lines.{instant_at}
use Rattle.time_unfold.specs.Stamps.{found}
use Rattle.time_unfold.specs.Time.{unfolded}
use Rattle.time_unfold.specs.declared.stamp.Stamp.{Stamp}
use Rattle.stream_journal.specs.ClockRows.{IsSpotAt, IsTrueRow}
use Rattle.stream_journal.specs.Journal.{IsAt, IsAtBy, IsAtByClock, IsAtNominal, Journal, Kind, DenseAaf, SparseAaf, Am824, H264, head_of, rule_of}
use Rattle.stream_journal.specs.Conforming.{IsAudio, IsClock, is_stamped}
use Rattle.stream_journal.specs.Delivered.{Copy, IsAudioKind, IsDelivered}
use Rattle.stream_journal.specs.Heads.{IsCountedFrom, IsTrue, wanted}
use Rattle.time_unfold.specs.declared.head_rule.Distance.{Distance}
use Rattle.time_unfold.specs.declared.head_rule.Head.{Head}
use Rattle.time_unfold.specs.declared.head_rule.HeadRule.{HeadRule}
use Rattle.time_unfold.specs.declared.head_rule.HeadRule.TheVariants.{Own, Eight, Blocks}
use Rattle.time_unfold.specs.Heads.{distance, stamped_block, stamped_index}
use Rattle.stream_journal.proofs.TrueHeads.{true_counts}
use Rattle.stream_journal.proofs.TrueLines.{spot_sample, true_spot}
use Rattle.stream_journal.proofs.TrueTime.{true_time}
use Rattle.sample_schedule.specs.declared.entry.Entry.{Entry}
use Rattle.sample_schedule.specs.declared.item.Item.TheVariants.{Packet as OfPacket}
use Rattle.sample_schedule.specs.declared.item.Packet.{Packet}
use Rattle.sample_schedule.specs.declared.plan.SchedulePlan.{SchedulePlan}
use Rattle.sample_schedule.specs.declared.shown.Reason.{Reason}
use Rattle.sample_schedule.specs.declared.shown.Reason.TheVariants.{Empty, NoClock, NoRate}
use Rattle.sample_schedule.specs.Batches.{Presented}
use Rattle.sample_schedule.specs.Heads as heads
use Rattle.sample_schedule.specs.Verdicts.{counted_from, moved, nominal_spot, ok_or_reason, row_of, samples_at, spot_of, timed}
use Rattle.packet_journal.specs.Packets.{PacketJournal, carried}
use Rattle.packet_journal.specs.Units.{IsContentBy}
use Rattle.listener.specs.Laws.{IsOfPacket, sample_count}
use Rattle.listener.specs.state.Known.{spot_in}
use Rattle.listener.proofs.TrueItems.{sent}

-- ---- the packet's own timestamp

not_zero : (n : ℕ) → 8000 ≤ n → (n == 0) ≡ false
not_zero n some = grind (arith, nat_tests)

some_count : (n : ℕ) → 1 ≤ n → nat_lt 0 n ≡ true
some_count n some = grind (arith, nat_tests)

either : (b : Bool) (r : Option ℕ) → (if b then r else r) ≡ r
either true r = refl
either false r = refl

usable_by : (rule : HeadRule) (n count : ℕ) (r : Option ℕ) → 1 ≤ count → is_some r ≡ is_stamped rule n count
    → (if nat_lt (stamped_index rule) count then option_map (λ (instant : ℕ). instant % 2 ^ 32) r else None) ≡ option_map (λ (instant : ℕ). instant % 2 ^ 32) r
usable_by Own n count r some stamped = rw (some_count count some) refl
usable_by Eight n count r some stamped = rw (some_count count some) refl
usable_by (Blocks dbc interval) n count None some stamped = either (nat_lt (stamped_index (Blocks dbc interval)) count) None
usable_by (Blocks dbc interval) n count (Some instant) some stamped = rw (sym stamped) refl

pub usable : (j : Journal) (n frame arrival : ℕ) (bytes : List ℕ) → IsAudio j → n < j.packets → heads.usable_stamp (sent j n frame arrival bytes) ≡ option_map (λ (instant : ℕ). instant % 2 ^ 32) (j.stamp n)
usable j n frame arrival bytes is known = rw (not_zero j.rate is.rate_from) (usable_by (rule_of j.kind n) n j.count (j.stamp n) is.some (is.stamps n known))

stamp_by : (j : Journal) (lead n frame arrival : ℕ) (bytes : List ℕ) (r : Option ℕ) → IsDelivered j lead (record { number = n; arrival = arrival }) → j.stamp n ≡ r
    → IfSome (option_map (λ timestamp. record { seq = n % 256; mr = j.mr n; block = stamped_block (rule_of j.kind n); rate = j.rate; instant = unfolded timestamp (pos arrival) }) (option_map (λ (instant : ℕ). instant % 2 ^ 32) r)) (IsTrue j)
stamp_by j lead n frame arrival bytes None came e = tt
stamp_by j lead n frame arrival bytes (Some instant) came e =
    record { number = n; is = record { known = came.known; instant = instant; stamped = e; same = rw (true_time j lead (record { number = n; arrival = arrival }) instant came e) refl } }

pub true_stamp : (j : Journal) (lead n frame arrival : ℕ) (bytes : List ℕ) → IsAudio j → IsDelivered j lead (record { number = n; arrival = arrival })
    → IfSome (heads.stamp_of_packet (sent j n frame arrival bytes)) (IsTrue j)
true_stamp j lead n frame arrival bytes is came =
    rw (usable j n frame arrival bytes is came.known) (stamp_by j lead n frame arrival bytes (j.stamp n) came refl)

-- ---- the head

abbrev pub IsTrueHead : Journal → ℕ → Head → Type 0
IsTrueHead j n h = head_of j n ≡ Some h

own_true : (j : Journal) (lead n arrival instant : ℕ) → IsDelivered j lead (record { number = n; arrival = arrival }) → j.stamp n ≡ Some instant
    → IsTrueHead j n (record { instant = unfolded (instant % 2 ^ 32) (pos arrival); first = neg_ℤ (pos (stamped_index (rule_of j.kind n))) })
own_true j lead n arrival instant came e = rw (true_time j lead (record { number = n; arrival = arrival }) instant came e, e) refl

from_stamp : (j : Journal) (n : ℕ) (far : Distance) (r : Option Stamp) → IfSome r (IsCountedFrom j n far)
    → IfSome (option_map (λ (stamp : Stamp). record { instant = stamp.instant; first = pos far.samples }) r) (IsTrueHead j n)
from_stamp j n far None h = tt
from_stamp j n far (Some stamp) h = h

eight : (n : ℕ) → n % 256 % 8 ≡ n % 8
eight n = omega arith

-- a packet's sequence number suffices to compute the distance to its head
pub same_distance : (rule : HeadRule) (n count : ℕ) → distance rule (n % 256) count ≡ distance rule n count
same_distance Own n count = refl
same_distance Eight n count = rw (eight n) refl
same_distance (Blocks dbc interval) n count = refl

back_by : (j : Journal) (plan : SchedulePlan) (n frame arrival : ℕ) (bytes : List ℕ) (prefix : List Entry) (r : Option Distance) → IsAudio j
    → IsDelivered j plan.lead (record { number = n; arrival = arrival }) → j.stamp n ≡ None → All (IsTrue j) (heads.stamps_of prefix) → distance (rule_of j.kind n) n j.count ≡ r
    → IfSome (option_and_then (λ (far : Distance).
    option_map (λ (stamp : Stamp). record { instant = stamp.instant; first = pos far.samples })
    (found (plan.look + 16) (heads.want_of plan (sent j n frame arrival bytes) far) (heads.stamps_of prefix))) r) (IsTrueHead j n)
back_by j plan n frame arrival bytes prefix None is came none all e = tt
back_by j plan n frame arrival bytes prefix (Some far) is came none all e =
    let c : Copy = record { number = n; arrival = arrival } in
    from_stamp j n far (found (plan.look + 16) (wanted j plan.lead c far) (heads.stamps_of prefix))
    (true_counts j is plan.lead (plan.look + 16) c far (heads.stamps_of prefix) (record { came = came; none = none; back = e }) all)

back_true : (j : Journal) (plan : SchedulePlan) (n frame arrival : ℕ) (bytes : List ℕ) (prefix : List Entry) → IsAudio j
    → IsDelivered j plan.lead (record { number = n; arrival = arrival }) → j.stamp n ≡ None → All (IsTrue j) (heads.stamps_of prefix)
    → IfSome (heads.head_back plan prefix (sent j n frame arrival bytes)) (IsTrueHead j n)
back_true j plan n frame arrival bytes prefix is came none all =
    rw (same_distance (rule_of j.kind n) n j.count) (back_by j plan n frame arrival bytes prefix (distance (rule_of j.kind n) n j.count) is came none all refl)

head_by : (j : Journal) (plan : SchedulePlan) (n frame arrival : ℕ) (bytes : List ℕ) (prefix : List Entry) (r : Option ℕ) → IsAudio j
    → IsDelivered j plan.lead (record { number = n; arrival = arrival }) → j.stamp n ≡ r → All (IsTrue j) (heads.stamps_of prefix)
    → IfSome (option_or (option_map (heads.head_at (sent j n frame arrival bytes)) (option_map (λ (instant : ℕ). instant % 2 ^ 32) r)) (heads.head_back plan prefix (sent j n frame arrival bytes))) (IsTrueHead j n)
head_by j plan n frame arrival bytes prefix None is came e all = back_true j plan n frame arrival bytes prefix is came e all
head_by j plan n frame arrival bytes prefix (Some instant) is came e all = own_true j plan.lead n arrival instant came e

pub head_true : (j : Journal) (plan : SchedulePlan) (n frame arrival : ℕ) (bytes : List ℕ) (prefix : List Entry) → IsAudio j
    → IsDelivered j plan.lead (record { number = n; arrival = arrival }) → All (IsTrue j) (heads.stamps_of prefix)
    → IfSome (heads.head_of plan prefix (sent j n frame arrival bytes)) (IsTrueHead j n)
head_true j plan n frame arrival bytes prefix is came all =
    rw (usable j n frame arrival bytes is came.known) (head_by j plan n frame arrival bytes prefix (j.stamp n) is came refl all)

-- ---- the batch

pub at_nominal : (kind : Kind) (j : Journal) (n k : ℕ) (instant : ℤ) → IsAudioKind kind → IsAtNominal j n k instant → IsAtBy kind false j n k instant
at_nominal DenseAaf j n k instant heard at = at
at_nominal SparseAaf j n k instant heard at = at
at_nominal (Am824 interval dbc) j n k instant heard at = at
at_nominal (H264 part) j n k instant heard at = absurd heard

at_clock : (kind : Kind) (j : Journal) (n k : ℕ) (instant : ℤ) → IsAudioKind kind → IsAtByClock j n k instant → IsAtBy kind true j n k instant
at_clock DenseAaf j n k instant heard at = at
at_clock SparseAaf j n k instant heard at = at
at_clock (Am824 interval dbc) j n k instant heard at = at
at_clock (H264 part) j n k instant heard at = absurd heard

-- If packet `n` begins at `spot`, each of its samples is at that sample's instant in the journal.
abbrev IsTrueSpot : Bool → Journal → ℕ → Spot → Type 0
IsTrueSpot by j n spot = (k : ℕ) → IsAt by j n k (instant_at spot.line (spot.from +ℤ pos k))

by_line : (j : Journal) (n : ℕ) (h : Head) (o : Option Spot) → IsAudioKind j.kind → IsTrueHead j n h → IfSome o (IsSpotAt j h.instant) → IfSome (option_map (moved h.first) o) (IsTrueSpot true j n)
by_line j n h None heard t at = tt
by_line j n h (Some spot) heard t at = λ k. at_clock j.kind j n k _ heard (spot_sample j n k h spot t at)

-- The journal is of audio, and its clock keeps the rules. If the plan uses a clock, the shift of the plan is `shift`.
pub record IsFollowed (shift : ℤ) (j : Journal) (plan : SchedulePlan) : Type 0 where
  pub audio : IsAudio j
  pub kind : IsAudioKind j.kind
  pub clock : IsClock j.clock
  pub shifted : plan.clock ≡ true → plan.shift ≡ shift

-- The stamps and the clock rows of the entries in `prefix` are those of the journal's packets.
pub record IsTruePrefix (shift : ℤ) (j : Journal) (prefix : List Entry) : Type 0 where
  pub stamps : All (IsTrue j) (heads.stamps_of prefix)
  pub rows : All (IsTrueRow j.clock shift) (filter_map row_of prefix)

-- If the samples of packet `n` are counted from its true head, they are at the journal's instants. If `by` is true, the
-- journal's instants are those of the clock; otherwise they are the instants at the nominal rate. It does not matter
-- which copies of the clock's packets the listener has.
spot_true : (shift : ℤ) (j : Journal) (plan : SchedulePlan) (n : ℕ) (prefix : List Entry) (h : Head) (by : Bool) → plan.clock ≡ by → IsFollowed shift j plan → IsTruePrefix shift j prefix → IsTrueHead j n h
    → IfSome (if by then option_map (moved h.first) (clock_spot (filter_map row_of prefix) plan.shift h.instant j.rate) else Some (nominal_spot j.rate h)) (IsTrueSpot by j n)
spot_true shift j plan n prefix h true on is known t =
    by_line j n h (clock_spot (filter_map row_of prefix) plan.shift h.instant j.rate) is.kind t
    (subst (λ (x : ℤ). IfSome (clock_spot (filter_map row_of prefix) x h.instant j.rate) (IsSpotAt j h.instant)) (sym (is.shifted on)) (true_spot j shift h.instant (filter_map row_of prefix) is.clock known.rows))
spot_true shift j plan n prefix h false off is known t = λ k. at_nominal j.kind j n k _ is.kind (record { head = h; is_head = t; at = refl })

-- The batch is packet `n` of the journal, and has the frame number `frame`.
pub record IsBatchOf (by : Bool) (p : PacketJournal) (n frame : ℕ) (batch : Presented) : Type 0 where
  pub is : IsOfPacket by p n batch
  pub frame_is : batch.frame ≡ frame

audio_count : (kind : Kind) (count : ℕ) → IsAudioKind kind → count ≡ sample_count kind count
audio_count DenseAaf count heard = refl
audio_count SparseAaf count heard = refl
audio_count (Am824 interval dbc) count heard = refl
audio_count (H264 part) count heard = absurd heard

pub audio_content : (kind : Kind) (p : PacketJournal) (n : ℕ) → IsAudioKind kind → IsContentBy kind p n (carried (p.packet n))
audio_content DenseAaf p n heard = refl
audio_content SparseAaf p n heard = refl
audio_content (Am824 interval dbc) p n heard = refl
audio_content (H264 part) p n heard = absurd heard

at_spot : (by : Bool) (p : PacketJournal) (n frame arrival : ℕ) (o : Option Spot) → IsAudioKind p.times.kind → n < p.times.packets → IfSome o (IsTrueSpot by p.times n)
    → IfOk (ok_or_reason NoClock (option_map (samples_at (sent p.times n frame arrival (carried (p.packet n)))) o)) (IsBatchOf by p n frame)
at_spot by p n frame arrival None heard known t = tt
at_spot by p n frame arrival (Some spot) heard known t =
    record {
      is = record { known = known; seq = refl; count = audio_count p.times.kind p.times.count heard; bytes = audio_content p.times.kind p n heard; instants = λ k lt. t k };
      frame_is = refl;
    }

counted_true : (shift : ℤ) (p : PacketJournal) (plan : SchedulePlan) (n frame arrival : ℕ) (prefix : List Entry) (r : Option Head) → IsFollowed shift p.times plan → IsTruePrefix shift p.times prefix → n < p.times.packets
    → IfSome r (IsTrueHead p.times n) → IfOk (counted_from clock_spot plan prefix (sent p.times n frame arrival (carried (p.packet n))) r) (IsBatchOf plan.clock p n frame)
counted_true shift p plan n frame arrival prefix None is true_ones known t = tt
counted_true shift p plan n frame arrival prefix (Some h) is true_ones known t =
    at_spot plan.clock p n frame arrival (spot_of clock_spot plan prefix p.times.rate h) is.kind known (spot_true shift p.times plan n prefix h plan.clock refl is true_ones t)

no_samples : (n : ℕ) → 1 ≤ n → (n == 0) ≡ false
no_samples n some = grind (arith, nat_tests)

neither : (a b : Bool) (r : Result Presented Reason) (P : Presented → Type 0) → a ≡ false → b ≡ false → IfOk r P → IfOk (if a then Err Empty else if b then Err NoRate else r) P
neither a b r P e f h = rw (e, f) h

pub timed_true : (shift : ℤ) (p : PacketJournal) (plan : SchedulePlan) (n frame arrival : ℕ) (prefix : List Entry) → IsFollowed shift p.times plan → IsTruePrefix shift p.times prefix
    → IsDelivered p.times plan.lead (record { number = n; arrival = arrival })
    → IfOk (timed clock_spot plan prefix (OfPacket (sent p.times n frame arrival (carried (p.packet n))))) (IsBatchOf plan.clock p n frame)
unfolding timed
timed_true shift p plan n frame arrival prefix is true_ones came =
    neither (p.times.count == 0) (p.times.rate == 0) _ (IsBatchOf plan.clock p n frame) (no_samples p.times.count is.audio.some) (not_zero p.times.rate is.audio.rate_from)
    (counted_true shift p plan n frame arrival prefix (heads.head_of plan prefix (sent p.times n frame arrival (carried (p.packet n)))) is true_ones came.known
    (head_true p.times plan n frame arrival (carried (p.packet n)) prefix is.audio came true_ones.stamps))

pub record IsOk (r : Result Presented Reason) : Type 0 where
  pub batch : Presented
  pub same : r ≡ Ok batch

spot_ok : (packet : Packet) (o : Option Spot) → is_some o ≡ true → IsOk (ok_or_reason NoClock (option_map (samples_at packet) o))
spot_ok packet None some = absurd cc
spot_ok packet (Some spot) some = record { batch = samples_at packet spot; same = refl }

counted_ok : (plan : SchedulePlan) (packet : Packet) (prefix : List Entry) (r : Option Head) → is_some (option_and_then (spot_of clock_spot plan prefix packet.rate) r) ≡ true → IsOk (counted_from clock_spot plan prefix packet r)
counted_ok plan packet prefix None some = absurd cc
counted_ok plan packet prefix (Some h) some = spot_ok packet (spot_of clock_spot plan prefix packet.rate h) some

neither_ok : (a b : Bool) (r : Result Presented Reason) → a ≡ false → b ≡ false → IsOk r → IsOk (if a then Err Empty else if b then Err NoRate else r)
neither_ok a b r e f h = rw (e, f) h

pub timed_ok : (p : PacketJournal) (plan : SchedulePlan) (n frame arrival : ℕ) (prefix : List Entry) → IsAudio p.times
    → is_some (spot_in plan prefix (sent p.times n frame arrival (carried (p.packet n)))) ≡ true
    → IsOk (timed clock_spot plan prefix (OfPacket (sent p.times n frame arrival (carried (p.packet n)))))
unfolding timed
timed_ok p plan n frame arrival prefix is some =
    neither_ok (p.times.count == 0) (p.times.rate == 0) _ (no_samples p.times.count is.some) (not_zero p.times.rate is.rate_from)
    (counted_ok plan (sent p.times n frame arrival (carried (p.packet n))) prefix _ some)
