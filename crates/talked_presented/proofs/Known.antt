-- Each packet of a whole capture is known: by its own timestamp, or by the timestamp that it is counted from.
use Rattle.std.proofs.Common.{◌≡◌, ℕ, zero, suc, ◌+◌, ◌-◌, ◌*◌, ◌%◌, ◌<◌, ◌≤◌, ◌⊎◌, Bool, true, false, ℤ, pos, List, Option, Some, None, is_some, refl, ap, ◌∙◌, subst, inl, inr, arith}
use Rattle.std.specs.Prelude.{nat_lt, if◌then◌else◌}
use Rattle.std.proofs.lemmas.Bool.Decides.{nat_tests}
use Rattle.std.proofs.lemmas.Int.{ints}
use Rattle.std.proofs.Math.Nat.{mul-le-mul_right}
use Rattle.pcap_frames.specs.Capture.{Record}
use Rattle.stream_journal.specs.Delivered.{IsAudioKind}
use Rattle.stream_journal.specs.Found.{IsExpected}
use Rattle.listener.specs.declared.plan.ListenPlan.{ListenPlan}
use Rattle.listener.specs.Known.{IsKnownCopy}
use Rattle.listener.proofs.TrueList.{audio}
use Rattle.talk_plan.specs.declared.plan.TalkKind.{TalkKind}
use Rattle.talk_plan.specs.declared.plan.TalkKind.TheVariants.{Aaf, Am824, H264}
use Rattle.talk_plan.specs.declared.plan.TalkPlan.{TalkPlan}
use Rattle.talk_plan.specs.Plan.{IsAudioKind as IsAudioTalk, IsAudioPlan, fdf_of, interval_of}
use Rattle.talk_plan.specs.Timing.{first_instant}
use Rattle.talk_plan.proofs.RateLemmas.{known_fdf, rate_range}
use Rattle.talk_plan.proofs.TimingLemmas.{lead_within}
use Rattle.talker.specs.Journal.{journal, stream_of}
use Rattle.talked_presented.specs.Whole.{ExpectsCounted, HearsAll, IsCloseLead}
use Rattle.talked_presented.proofs.Counted.{known_counted}
use Rattle.talked_presented.proofs.Sent.{IsWhole, caught_at, due_after, due_before, has_times, known_stamped}
use Rattle.talked_headline.proofs.Talked.{dense_stamped}

-- ---- the leads are close, if a packet has no timestamp

none_false : (b : Bool) (x : ℕ) → (if b then Some x else None) ≡ None → b ≡ false
none_false true x e = absurd cc
none_false false x e = refl

pub not_below : (a b : ℕ) → nat_lt a b ≡ false → b ≤ a
not_below a b e = grind (arith, nat_tests)

abbrev pub IsInterval : ℕ → Type 0
IsInterval interval = (interval ≡ 8) ⊎ ((interval ≡ 16) ⊎ (interval ≡ 32))

few_blocks : (interval x count : ℕ) → IsInterval interval → count ≤ (interval - x) % interval → count < interval
few_blocks interval x count (inl e) most = rw e (let h = rw e at most in omega arith)
few_blocks interval x count (inr (inl e)) most = rw e (let h = rw e at most in omega arith)
few_blocks interval x count (inr (inr e)) most = rw e (let h = rw e at most in omega arith)

-- the SYT_INTERVAL of each rate is 8, 16 or 32
pub interval_is : (rate : ℕ) → IsInterval (interval_of rate)
interval_is rate = by (fdf_of rate) refl
  where
    by : (o : Option ℕ) → fdf_of rate ≡ o → IsInterval (interval_of rate)
    by None e = rw e (inl refl)
    by (Some fdf) e = known fdf (known_fdf rate fdf e).few e
      where
        known : (fdf : ℕ) → fdf ≤ 6 → fdf_of rate ≡ Some fdf → IsInterval (interval_of rate)
        known zero few e = rw e (inl refl)
        known (suc zero) few e = rw e (inl refl)
        known (suc (suc zero)) few e = rw e (inl refl)
        known (suc (suc (suc zero))) few e = rw e (inr (inl refl))
        known (suc (suc (suc (suc zero)))) few e = rw e (inr (inl refl))
        known (suc (suc (suc (suc (suc zero))))) few e = rw e (inr (inr refl))
        known (suc (suc (suc (suc (suc (suc zero)))))) few e = rw e (inr (inr refl))
        known (suc (suc (suc (suc (suc (suc (suc fdf))))))) few e = absurd (omega arith)

close_by : (kind : TalkKind) (plan : TalkPlan) (input : List ℕ) (lead n : ℕ) → plan.kind ≡ kind → IsAudioTalk kind → ExpectsCounted kind plan lead → (journal plan input).times.stamp n ≡ None → IsCloseLead plan lead
close_by (Aaf format false) plan input lead n e audio_kind expects none = absurd (let some = dense_stamped plan input format n e in cc)
close_by (Aaf format true) plan input lead n e audio_kind expects none = expects
close_by Am824 plan input lead n e audio_kind expects none =
    expects (few_blocks (interval_of plan.rate) _ plan.count (interval_is plan.rate) (not_below _ plan.count (none_false _ _ (rw e at none))))
close_by (H264 last_stamp) plan input lead n e audio_kind expects none = absurd audio_kind

-- ---- each copy is expected

expected_by : (arrival first due plan_lead lead rate count r c : ℕ) → r ≡ rate → c ≡ count → arrival + plan_lead ≡ first → due ≤ first + 1 → first ≤ due + 3 → 3 * rate ≤ count * 1000000000
    → plan_lead * rate ≤ lead * rate + 59 * (count * 1000000000) → lead * rate ≤ plan_lead * rate + 59 * (count * 1000000000)
    → (due * r ≤ (arrival + lead) * r + 60 * (c * 1000000000)) × ((arrival + lead) * r ≤ due * r + 60 * (c * 1000000000))
expected_by arrival first due plan_lead lead rate count r c e f sum after before wide from to =
    let late : due * rate ≤ (arrival + plan_lead + 1) * rate = mul-le-mul_right rate (omega arith) in
    let early : (arrival + plan_lead) * rate ≤ (due + 3) * rate = mul-le-mul_right rate (omega arith) in
    rw (e, f) (omega arith, omega arith)

expected : (plan : TalkPlan) (input : List ℕ) (lead n : ℕ) → IsAudioPlan plan → IsCloseLead plan lead → IsExpected (journal plan input).times lead (record { number = n; arrival = (stream_of plan input).arrival n })
expected plan input lead n p close =
    let j = (journal plan input).times in
    let has = has_times plan input p in
    let range = rate_range plan p in
    let both = expected_by ((stream_of plan input).arrival n) (first_instant plan n) (j.due n) plan.lead lead plan.rate plan.count j.rate j.count has.rate has.count (ap (λ (a : ℕ). a + plan.lead) (has.arrival n) ∙ lead_within plan n)
    (due_after plan input n p) (due_before plan input n p) (omega (arith, range.most, p.some_count)) close.from close.to in
    record { from = both.0; to = both.1 }

-- ---- each copy is known

pub one_arrival : (a b : ℕ) (z : ℤ) → z ≡ pos a → z ≡ pos b → b ≡ a
one_arrival a b z e f = omega (arith, ints)

known_by : (plan : TalkPlan) (input : List ℕ) (listen : ListenPlan) (rs : List Record) (n : ℕ) (o : Option ℕ) → HearsAll plan input listen → IsAudioKind (journal plan input).times.kind → (w : IsWhole plan input listen rs) → (lt : n < (journal plan input).times.packets)
    → (journal plan input).times.stamp n ≡ o → IsKnownCopy (journal plan input) listen rs n (record { number = n; arrival = (caught_at plan input listen rs n w lt).copy.arrival })
known_by plan input listen rs n (Some instant) h kind w lt e = known_stamped (pos 0) (journal plan input) listen rs n (record { number = n; arrival = (caught_at plan input listen rs n w lt).copy.arrival }) w.heard h.without (ap is_some e)
known_by plan input listen rs n None h kind w lt e =
    let p = journal plan input in
    let here = caught_at plan input listen rs n w lt in
    let close = close_by plan.kind plan input listen.lead n refl h.talk.talked.kind h.counted e in
    let same : (stream_of plan input).arrival n ≡ here.copy.arrival = one_arrival here.copy.arrival ((stream_of plan input).arrival n) here.d.arrival here.copy.arrived here.arrived in
    let near = subst (λ (a : ℕ). IsExpected p.times listen.lead (record { number = n; arrival = a })) same (expected plan input listen.lead n h.talk.talked close) in
    known_counted p listen rs (record { number = n; arrival = here.copy.arrival }) h.without (audio p kind w.heard.conforming.times) w.heard.conforming.times.holds lt e (h.heads n lt) near w.from

pub each_known : (plan : TalkPlan) (input : List ℕ) (listen : ListenPlan) (rs : List Record) → HearsAll plan input listen → IsAudioKind (journal plan input).times.kind → (w : IsWhole plan input listen rs) → (n : ℕ) (lt : n < (journal plan input).times.packets)
    → IsKnownCopy (journal plan input) listen rs n (record { number = n; arrival = (caught_at plan input listen rs n w lt).copy.arrival })
each_known plan input listen rs h kind w n lt = known_by plan input listen rs n ((journal plan input).times.stamp n) h kind w lt refl
