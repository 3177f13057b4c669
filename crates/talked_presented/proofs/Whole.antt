-- If the packets of an audio stream arrive in time and in order, and there is room, each packet is presented.
use Rattle.std.proofs.Common.{◌≡◌, ℕ, ◌+◌, ◌*◌, ◌<◌, ◌≤◌, Bool, false, ℤ, pos, ◌≤ℤ◌, List, [], ◌∷◌, All, length, map, Option, Some, None, is_some, refl, sym, ap, ◌∙◌, subst, arith}
use Rattle.std.specs.List.{range_with_len}
use Rattle.std.proofs.lemmas.Int.{ints, by_lt_z}
use Rattle.std.proofs.lemmas.List.Elements.{All-cons, All-nil}
use Rattle.std.proofs.lemmas.List.Sums.{sum_by-cons}
use Rattle.clock_track.specs.Rows.{clock_spot}
use Rattle.pcap_frames.specs.Capture.{Record}
use Rattle.stream_journal.specs.Delivered.{IsAudioKind}
use Rattle.stream_journal.specs.Conforming.{Conforms}
use Rattle.stream_journal.specs.Journal.{IsAt}
use Rattle.sample_schedule.specs.declared.accepted.Accepted.{Accepted}
use Rattle.sample_schedule.specs.declared.shown.Shown.{Shown}
use Rattle.sample_schedule.specs.Order.{standing}
use Rattle.sample_schedule.specs.Schedule.{accepted, present}
use Rattle.sample_schedule.specs.Verdicts.{first_instant, total_bytes}
use Rattle.sample_schedule.proofs.OrderLemmas.{le_false, le_true}
use Rattle.packet_journal.specs.Packets.{PacketJournal, carried}
use Rattle.listener.specs.declared.plan.ListenPlan.{ListenPlan}
use Rattle.listener.specs.Heard.{entries_in, items_in, schedule_plan, shown_of}
use Rattle.listener.specs.Items.{MadeItem}
use Rattle.listener.specs.Laws.{HearsTalker, IsOfPacket, IsTimely, IsWelcome, accepted_before, by_clock, time_of}
use Rattle.listener.proofs.Shown.{entry_at}
use Rattle.listener.proofs.TrueHeard.{audio_content}
use Rattle.listener.proofs.TrueList.{audio}
use Rattle.listener.proofs.TrueOnce.{first_at, nominal_due, one_number, same_content}
use Rattle.listener.proofs.TrueTimely.{taken, welcome_judged}
use Rattle.stream_journal.proofs.Spacing.{rising}
use Rattle.listener_laws.proofs.Anywhere.{not_full}
use Rattle.talked_presented.specs.Whole.{ArePresented}
use Rattle.talked_presented.proofs.Accepting.{AcceptsEach, AreOf, IsAcceptedAt, all_accepted, shown_all}

-- ---- a packet of the journal

-- The accepted item is packet n.
pub record IsPacketAt (p : PacketJournal) (n : ℕ) (a : Accepted) : Type 0 where
  pub due : a.instant ≡ pos (p.times.due n)
  pub is : IsOfPacket false p n a.batch

-- Item n is packet n, which is known and arrives in time.
pub record IsTimelyAt (p : PacketJournal) (plan : ListenPlan) (records : List Record) (n : ℕ) : Type 0 where
  pub made : MadeItem
  pub timely : IsTimely p plan records n n made

-- Each packet is timely. When a packet is judged, fewer than `buffer` earlier packets are not yet due.
pub record AreTimely (shift : ℤ) (p : PacketJournal) (plan : ListenPlan) (records : List Record) : Type 0 where
  pub heard : HearsTalker shift p plan records
  pub kind : IsAudioKind p.times.kind
  pub off : plan.clock ≡ None
  pub entries : length (entries_in plan records) ≡ p.times.packets
  pub each : (n : ℕ) → n < p.times.packets → IsTimelyAt p plan records n
  pub few : (k n : ℕ) → k ≤ n → n < p.times.packets → time_of plan records n ≤ℤ pos (p.times.due k) → n < k + plan.buffer
  pub size : (n : ℕ) → n < p.times.packets → length (carried (p.packet n)) ≤ 1500
  pub bytes : plan.buffer * 1500 ≤ plan.room

-- ---- no packet was accepted before

none_before : (p : PacketJournal) (k n : ℕ) (xs : List Accepted) → Conforms p.times → k + length xs ≡ n → AreOf (IsPacketAt p) k xs → All (λ (a : Accepted). ¬ IsOfPacket false p n a.batch) xs
none_before p k n [] is e are = All-nil (λ (a : Accepted). ¬ IsOfPacket false p n a.batch)
none_before p k n (x ∷ xs) is e are =
    All-cons (λ (a : Accepted). ¬ IsOfPacket false p n a.batch) x xs
    (λ other. let same = one_number false p k n x.batch is are.0.is other in absurd (omega arith))
    (none_before p (k + 1) n xs is (omega arith) are.1)

-- ---- there is room

stands_few : (p : PacketJournal) (now : ℤ) (buffer k n : ℕ) (xs : List Accepted) → 1 ≤ buffer → ((m : ℕ) → m ≤ n → now ≤ℤ pos (p.times.due m) → n < m + buffer) → k + length xs ≡ n → AreOf (IsPacketAt p) k xs → length (standing now xs) < buffer
stands_few p now buffer k n [] some few e are = some
stands_few p now buffer k n (x ∷ xs) some few e are =
    by_lt_z x.instant now
    (λ h. rw (le_false now x.instant h) (stands_few p now buffer (k + 1) n xs some few (omega arith) are.1))
    (λ h. rw (le_true now x.instant h)
    (let within = few k (omega arith) (subst (λ (z : ℤ). now ≤ℤ z) are.0.due h) in
    let most = standing_short now xs in omega arith))
  where
    standing_short : (now : ℤ) (xs : List Accepted) → length (standing now xs) ≤ length xs
    standing_short now [] = omega arith
    standing_short now (x ∷ xs) =
        by_lt_z x.instant now
        (λ h. rw (le_false now x.instant h) (let most = standing_short now xs in omega arith))
        (λ h. rw (le_true now x.instant h) (let most = standing_short now xs in omega arith))

batch_size : (p : PacketJournal) (n : ℕ) (a : Accepted) → IsAudioKind p.times.kind → IsPacketAt p n a → length (carried (p.packet n)) ≤ 1500 → length a.batch.bytes ≤ 1500
batch_size p n a kind is short =
    let same : a.batch.bytes ≡ carried (p.packet n) = same_content p n a.batch.bytes (carried (p.packet n)) is.is.bytes (audio_content p.times.kind p n kind) in
    rw same short

stands_light : (p : PacketJournal) (now : ℤ) (k n : ℕ) (xs : List Accepted) → IsAudioKind p.times.kind → ((m : ℕ) → m < p.times.packets → length (carried (p.packet m)) ≤ 1500) → k + length xs ≡ n → AreOf (IsPacketAt p) k xs
    → total_bytes (standing now xs) ≤ length (standing now xs) * 1500
stands_light p now k n [] kind short e are = omega arith
stands_light p now k n (x ∷ xs) kind short e are =
    by_lt_z x.instant now
    (λ h. rw (le_false now x.instant h) (stands_light p now (k + 1) n xs kind short (omega arith) are.1))
    (λ h. rw (le_true now x.instant h)
    (let rest = stands_light p now (k + 1) n xs kind short (omega arith) are.1 in
    let one = batch_size p k x kind are.0 (short k are.0.is.known) in
    let sum = sum_by-cons (λ (a : Accepted). length a.batch.bytes) x (standing now xs) in
    omega arith))

fits_all : (waiting size total buffer room : ℕ) → waiting < buffer → total ≤ waiting * 1500 → size ≤ 1500 → buffer * 1500 ≤ room → total + size ≤ room
fits_all waiting size total buffer room few light short bytes = omega arith

-- ---- each packet is welcome, and so accepted

time_at : (shift : ℤ) (p : PacketJournal) (plan : ListenPlan) (records : List Record) (n : ℕ) (made : MadeItem) → plan.clock ≡ None → HearsTalker shift p plan records → IsAudioKind p.times.kind → n < p.times.packets → (t : IsTimely p plan records n n made)
    → time_of plan records n ≤ℤ pos (p.times.due n)
time_at shift p plan records n made off h kind known t =
    let at : IsAt false p.times n 0 t.instant = subst (λ (c : Option ℕ). IsAt (is_some c) p.times n 0 t.instant) off t.at in
    subst (λ (z : ℤ). time_of plan records n ≤ℤ z) (nominal_due p.times n t.instant kind (audio p kind h.conforming.times) known at) t.in_time

welcome_next : (shift : ℤ) (p : PacketJournal) (plan : ListenPlan) (records : List Record) (n : ℕ) → (w : AreTimely shift p plan records) → n < p.times.packets → length (accepted_before plan records n) ≡ n → AreOf (IsPacketAt p) 0 (accepted_before plan records n) → (t : IsTimelyAt p plan records n)
    → IsWelcome p plan records n n t.made
welcome_next shift p plan records n w known long are t =
    let xs = accepted_before plan records n in
    let sp = schedule_plan plan in
    let now = time_of plan records n in
    let by_is : by_clock plan ≡ false = let off = w.off in rw off refl in
    let sum : 0 + length xs ≡ n = omega (arith, long) in
    let early = time_at shift p plan records n t.made w.off w.heard w.kind known t.timely in
    let some : 1 ≤ plan.buffer = let least = w.few n n (omega arith) known early in omega arith in
    let few = stands_few p now plan.buffer 0 n xs some (λ m le stands. w.few m n le known stands) sum are in
    let light = stands_light p now 0 n xs w.kind w.size sum are in
    record {
      timely = t.timely;
      first = subst (λ (by : Bool). All (λ (a : Accepted). ¬ IsOfPacket by p n a.batch) xs) (sym by_is) (none_before p 0 n xs w.heard.conforming.times sum are);
      bytes = carried (p.packet n);
      content = audio_content p.times.kind p n w.kind;
      room = not_full sp (standing now xs) (length (carried (p.packet n))) few (fits_all (length (standing now xs)) (length (carried (p.packet n))) (total_bytes (standing now xs)) plan.buffer plan.room few light (w.size n known) w.bytes);
    }

accept_next : (shift : ℤ) (p : PacketJournal) (plan : ListenPlan) (records : List Record) (n : ℕ) → (w : AreTimely shift p plan records) → n < p.times.packets → length (accepted_before plan records n) ≡ n → AreOf (IsPacketAt p) 0 (accepted_before plan records n)
    → IsAcceptedAt clock_spot (schedule_plan plan) (entries_in plan records) (IsPacketAt p) n
accept_next shift p plan records n w known long are =
    let t = w.each n known in
    let judged = welcome_judged shift p plan records n n t.made w.heard (welcome_next shift p plan records n w known long are t) in
    let by_is : by_clock plan ≡ false = let off = w.off in rw off refl in
    let is : IsOfPacket false p n judged.batch = subst (λ (by : Bool). IsOfPacket by p n judged.batch) by_is judged.is.is in
    record {
      item = judged.item;
      there = entry_at (items_in plan records) n t.made t.timely.there ∙ ap Some judged.entry;
      a = taken n judged.batch;
      ok = judged.verdict_is_ok;
      is = record {
        due = nominal_due p.times n (first_instant judged.batch) w.kind (audio p w.kind w.heard.conforming.times) known (first_at false p n judged.batch w.heard.conforming.times is);
        is = is;
      };
    }

rise_by : (p : PacketJournal) (k n : ℕ) (a b : Accepted) → IsAudioKind p.times.kind → Conforms p.times → k < n → IsPacketAt p k a → IsPacketAt p n b → a.instant ≤ℤ b.instant
rise_by p k n a b kind is lt x y =
    let less = rising p.times (audio p kind is) k n lt y.is.known in
    rw (x.due, y.due) (omega (arith, ints, less))

-- ---- what is shown

shown_by : (p : PacketJournal) (k : ℕ) (xs : List Accepted) → AreOf (IsPacketAt p) k xs → ArePresented false p (range_with_len k (length xs)) (map present xs)
shown_by p k [] are = tt
shown_by p k (x ∷ xs) are = (are.0.is, shown_by p (k + 1) xs are.1)

pub all_presented : (shift : ℤ) (p : PacketJournal) (plan : ListenPlan) (records : List Record) → AreTimely shift p plan records → ArePresented false p (range_with_len 0 p.times.packets) (shown_of plan records)
all_presented shift p plan records w =
    let sp = schedule_plan plan in
    let es = entries_in plan records in
    let N = p.times.packets in
    let count = w.entries in
    let h : AcceptsEach clock_spot sp es (IsPacketAt p) = record {
      next = λ n lt long are. accept_next shift p plan records n w (omega arith) long are;
      rise = λ k n a b lt x y. rise_by p k n a b w.kind w.heard.conforming.times lt x y;
    } in
    let all = all_accepted clock_spot sp es (IsPacketAt p) (length es) h (omega arith) in
    let xs = accepted clock_spot sp es (length es) in
    let shows : shown_of plan records ≡ map present xs = shown_all clock_spot sp es (IsPacketAt p) all in
    let long : length xs ≡ N = all.long ∙ count in
    let here : ArePresented false p (range_with_len 0 (length xs)) (map present xs) = shown_by p 0 xs all.are in
    subst (λ (l : List Shown). ArePresented false p (range_with_len 0 N) l) (sym shows) (subst (λ (m : ℕ). ArePresented false p (range_with_len 0 m) (map present xs)) long here)
