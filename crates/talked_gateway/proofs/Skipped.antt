-- Batches that are packets of a plan are not skipped.
use Rattle.std.proofs.Common.{◌≡◌, ℕ, zero, suc, ◌+◌, ◌-◌, ◌<◌, ◌≤◌, Bool, true, false, ℤ, pos, ◌+ℤ◌, ◌-ℤ◌, ◌≤ℤ◌, ◌<ℤ◌, List, [], ◌∷◌, ◌++◌, All, inl, inr, length, Option, Some, None, is_some, refl, ap, subst, arith}
use Rattle.std.specs.Prelude.{⊤, ◌||◌, AllPairs, if◌then◌else◌, int_le, nat_lt, slice_index_or}
use Rattle.std.specs.List.{AllByRecursion, list_any}
use Rattle.std.proofs.lemmas.Bool.{cases_lt}
use Rattle.std.proofs.lemmas.Bool.Decides.{nat_tests}
use Rattle.std.proofs.lemmas.Int.{ints, int_max_is}
use Rattle.std.proofs.lemmas.List.Elements.{All-head, All-tail}
use Rattle.packet_journal.specs.Packets.{IsConforming, PacketJournal}
use Rattle.sample_schedule.specs.declared.shown.Shown.{Shown}
use Rattle.sample_schedule.specs.declared.shown.Shown.TheVariants.{Present, Flag}
use Rattle.sample_schedule.specs.Batches.{Presented, sample_instant}
use Rattle.pcap_frames.specs.Capture.{Record}
use Rattle.listener.specs.declared.plan.ListenPlan.{ListenPlan}
use Rattle.listener.specs.Headline.{KeepsHeadline}
use Rattle.listener.specs.Heard.{items_in, shown_of}
use Rattle.listener.specs.Items.{MadeItem}
use Rattle.listener.specs.Laws.{AreOther, ComesBefore, IsHeardFrom, IsOfPacket, by_clock, presented_of}
use Rattle.am824_gateway.specs.declared.scan.Shape.{Shape}
use Rattle.am824_gateway.specs.declared.scan.To.{To}
use Rattle.am824_gateway.specs.Laws.{given_batches}
use Rattle.am824_gateway.specs.Pieces.{Given, arrival_at, captures_end, given_with, has_shape, is_late, next_block, nothing_given, overlaps, piece_count, pieces_from, skip_by, transit}
use Rattle.gateway_laws.specs.Shaped.{IsShapedAs}
use Rattle.gateway_laws.specs.Heard.{BeginsInTime}
use Rattle.gateway_laws.specs.Kept.{SkipsNone}
use Rattle.gateway_laws.proofs.Timely.{shown_in_time}
use Rattle.talk_plan.specs.declared.plan.TalkPlan.{TalkPlan}
use Rattle.talk_plan.specs.Plan.{IsAudioPlan, interval_of, most_input}
use Rattle.talker.specs.Journal.{journal}
use Rattle.talked_gateway.proofs.Sent.{IsBefore, IsSent, sent, sent_before}

-- ---- what a gateway asks of batches

-- The batch has a sample, its samples are at least 500 ns apart, and all of them are early enough for a capture.
pub record IsInTime (batch : Presented) : Type 0 where
  pub some : 1 ≤ batch.count
  pub apart : (i k : ℕ) → i < k → k < batch.count → (sample_instant batch i +ℤ pos 500) ≤ℤ sample_instant batch k
  pub early : (k : ℕ) → k < batch.count → sample_instant batch k ≤ℤ pos 4100000000000000002

abbrev pub AreApart : List Presented → Type 0
AreApart [] = ⊤
AreApart (batch ∷ batches) = IsInTime batch × AllByRecursion (IsBefore batch) batches × AreApart batches

-- ---- nothing is skipped

not_le : (a b : ℤ) → b <ℤ a → int_le a b ≡ false
not_le a b less = by (int_le a b) refl where
  by : (t : Bool) → int_le a b ≡ t → t ≡ false
  by false e = refl
  by true e = absurd (omega (arith, ints, less, e))

arrives : (x : ℤ) → x ≤ℤ pos 4100000000000000002 → arrival_at x <ℤ pos captures_end
arrives x early = let most = int_max_is (x -ℤ pos transit) (pos 0) in omega (arith, ints, early, most)

not_late : (batch : Presented) (k : ℕ) → IsInTime batch → k < batch.count → int_le (pos captures_end) (arrival_at (sample_instant batch k)) ≡ false
not_late batch k is within = not_le (pos captures_end) (arrival_at (sample_instant batch k)) (arrives (sample_instant batch k) (is.early k within))

none_late : (to : To) (shape : Shape) (batch : Presented) (most first block : ℕ) → IsInTime batch → list_any (is_late batch) (pieces_from to shape batch most first block) ≡ false
none_late to shape batch zero first block is = refl
none_late to shape batch (suc most) first block is =
    by (nat_lt first batch.count) refl (none_late to shape batch most (first + piece_count to shape batch first) (next_block (interval_of shape.rate) block (piece_count to shape batch first)) is)
  where
    both : (a b : Bool) → a ≡ false → b ≡ false → (a || b) ≡ false
    both a b d e = rw (d, e) refl

    by : (t : Bool) → nat_lt first batch.count ≡ t → list_any (is_late batch) (pieces_from to shape batch most (first + piece_count to shape batch first) (next_block (interval_of shape.rate) block (piece_count to shape batch first))) ≡ false
        → list_any (is_late batch) (if t then record { first = first; count = piece_count to shape batch first; block = block }
        ∷ pieces_from to shape batch most (first + piece_count to shape batch first) (next_block (interval_of shape.rate) block (piece_count to shape batch first)) else []) ≡ false
    by false e rest = refl
    by true e rest = both _ _ (not_late batch first is (let within : first < batch.count = grind (arith, nat_tests) in within)) rest

-- if `last` states an instant, the batch begins after `last`
abbrev IsAfter : Option ℤ → Presented → Type 0
IsAfter None batch = ⊤
IsAfter (Some last) batch = last <ℤ sample_instant batch 0

not_over : (last : Option ℤ) (batch : Presented) → IsAfter last batch → overlaps last batch ≡ false
not_over None batch after = refl
not_over (Some last) batch after = not_le (sample_instant batch 0) last after

not_skipped : (to : To) (shape : Shape) (given : Given) (batch : Presented) → has_shape to shape batch ≡ true → IsInTime batch → IsAfter given.last batch → skip_by to shape given batch ≡ None
not_skipped to shape given batch shaped is after = rw (shaped, not_over given.last batch after, none_late to shape batch batch.count 0 given.block is) refl

all_after : (batch : Presented) (batches : List Presented) → IsInTime batch → AllByRecursion (IsBefore batch) batches → AllByRecursion (IsAfter (Some (sample_instant batch (batch.count - 1)))) batches
all_after batch [] is before = tt
all_after batch (b ∷ bs) is before =
    let some = is.some in
    let last = before.0.last (batch.count - 1) (omega (arith, some)) in
    (omega (arith, ints, last), all_after batch bs is before.1)

all_given : (to : To) (shape : Shape) (given : Given) (batches : List Presented) → AllByRecursion (IsShapedAs to (Some shape)) batches → AreApart batches → AllByRecursion (IsAfter given.last) batches → given_batches to shape given batches ≡ batches
all_given to shape given [] shaped apart after = refl
all_given to shape given (batch ∷ batches) shaped apart after =
    let none = not_skipped to shape given batch shaped.0 apart.0 after.0 in
    rw none (ap (λ (l : List Presented). batch ∷ l) (all_given to shape (given_with to shape given batch) batches shaped.1 apart.2 (all_after batch batches apart.0 apart.1)))

none_before : (batches : List Presented) → AllByRecursion (IsAfter None) batches
none_before [] = tt
none_before (batch ∷ batches) = (tt, none_before batches)

pub skips_none : (to : To) (shape : Option Shape) (batches : List Presented) → AllByRecursion (IsShapedAs to shape) batches → AreApart batches → SkipsNone to shape batches
skips_none to None [] shaped apart = refl
skips_none to None (batch ∷ batches) shaped apart = absurd shaped.0
skips_none to (Some shape) batches shaped apart = all_given to shape nothing_given batches shaped apart (none_before batches)

-- ---- batches of a plan

module _ (plan : TalkPlan) (input : List ℕ) (p : IsAudioPlan plan) (limit : length input ≤ most_input) (conforms : IsConforming (pos 0) (journal plan input)) where
  is_sent : (n : ℕ) (batch : Presented) → IsOfPacket false (journal plan input) n batch → IsSent plan n batch
  is_sent n batch is = sent plan input n batch p limit conforms is

  in_time : (n : ℕ) (batch : Presented) → 1 ≤ batch.count → IsSent plan n batch → IsInTime batch
  in_time n batch some is = record { some = some; apart = is.apart; early = λ k within. (let to = is.to k within in let early = is.early in omega (arith, ints, to, early)) }

  -- if batches a and b are different packets, and a comes before b, a ends at least 500 ns before b begins
  before_of : (n m : ℕ) (a b : Presented) → 1 ≤ b.count → IsOfPacket false (journal plan input) n a → IsOfPacket false (journal plan input) m b → AreOther false (journal plan input) a b → ComesBefore a b → IsBefore a b
  before_of n m a b some of_a of_b other comes =
      elim (cases_lt n m) [
        | inl less ↦ sent_before plan n m a b p less (is_sent n a of_a) (is_sent m b of_b)
        | inr least ↦
            elim (cases_lt m n) [
              | inl more ↦
                  let last = (sent_before plan m n b a p more (is_sent m b of_b) (is_sent n a of_a)).last 0 (omega (arith, some)) in
                  absurd (elim comes [ inl first ↦ omega (arith, ints, first, last) | inr same ↦ (let at = same.0 in omega (arith, ints, at, last)) ])
              | inr most ↦ let same : m ≡ n = omega (arith, least, most) in absurd (other n of_a (subst (λ (k : ℕ). IsOfPacket false (journal plan input) k b) same of_b))
            ]
      ]

  module _ (items : List MadeItem) (lead : ℕ) where
    rest_of : (n : ℕ) (a : Presented) (bs : List Presented) → IsOfPacket false (journal plan input) n a → AllByRecursion BeginsInTime bs → All (IsHeardFrom false items (journal plan input) lead) bs
        → ((j : ℕ) → j < length bs → AreOther false (journal plan input) a (slice_index_or bs j a)) → ((j : ℕ) → j < length bs → ComesBefore a (slice_index_or bs j a)) → AllByRecursion (IsBefore a) bs
    rest_of n a [] of_a begin heard other comes = tt
    rest_of n a (b ∷ bs) of_a begin heard other comes =
        let here = All-head (IsHeardFrom false items (journal plan input) lead) b bs heard in (
          before_of n here.number a b begin.0.rising.some of_a here.is.is (other 0 (omega arith)) (comes 0 (omega arith)),
          rest_of n a bs of_a begin.1 (All-tail (IsHeardFrom false items (journal plan input) lead) b bs heard) (λ j within. other (suc j) (omega (arith, within))) (λ j within. comes (suc j) (omega (arith, within))),
        )

    are_apart : (batches : List Presented) → AllByRecursion BeginsInTime batches → All (IsHeardFrom false items (journal plan input) lead) batches → AllPairs (AreOther false (journal plan input)) batches → AllPairs ComesBefore batches → AreApart batches
    are_apart [] begin heard other comes = tt
    are_apart (a ∷ bs) begin heard other comes =
        let here = All-head (IsHeardFrom false items (journal plan input) lead) a bs heard in
        let rest = All-tail (IsHeardFrom false items (journal plan input) lead) a bs heard in (
          in_time here.number a begin.0.rising.some (is_sent here.number a here.is.is),
          rest_of here.number a bs here.is.is begin.1 rest (λ j within. other 0 (suc j) a (omega arith) (omega (arith, within))) (λ j within. comes 0 (suc j) a (omega arith) (omega (arith, within))),
          are_apart bs begin.1 rest (λ i j d less within. other (suc i) (suc j) d (omega (arith, less)) (omega (arith, within))) (λ i j d less within. comes (suc i) (suc j) d (omega (arith, less)) (omega (arith, within))),
        )

-- the batches that are presented from a capture of the plan are in time, and at least 500 ns apart
pub shown_apart : (plan : TalkPlan) (input : List ℕ) (listen : ListenPlan) (records : List Record) → IsAudioPlan plan → length input ≤ most_input → IsConforming (pos 0) (journal plan input) → listen.clock ≡ None
    → KeepsHeadline (pos 0) (journal plan input) listen records (shown_of listen records) → AreApart (presented_of (shown_of listen records))
shown_apart plan input listen records p limit conforms none keeps =
    let batches : List Presented = presented_of (shown_of listen records) in
    let items : List MadeItem = items_in listen records in
    let j : PacketJournal = journal plan input in
    let by : by_clock listen ≡ false = ap (λ (clock : Option ℕ). is_some clock) none in
    are_apart plan input p limit conforms items listen.lead batches (shown_in_time listen records)
    (subst (λ (b : Bool). All (IsHeardFrom b items j listen.lead) batches) by keeps.genuine) (subst (λ (b : Bool). AllPairs (AreOther b j) batches) by keeps.once) keeps.in_order

-- ---- what is due

front_before : (P : Presented → Type 0) (xs ys : List Shown) → AllByRecursion P (presented_of (xs ++ ys)) → AllByRecursion P (presented_of xs)
front_before P [] ys all = tt
front_before P (Present batch ∷ xs) ys all = (all.0, front_before P xs ys all.1)
front_before P (Flag frame seq reason ∷ xs) ys all = front_before P xs ys all

pub front_apart : (xs ys : List Shown) → AreApart (presented_of (xs ++ ys)) → AreApart (presented_of xs)
front_apart [] ys all = tt
front_apart (Present batch ∷ xs) ys all = (all.0, front_before (IsBefore batch) xs ys all.1, front_apart xs ys all.2)
front_apart (Flag frame seq reason ∷ xs) ys all = front_apart xs ys all
