-- A listener with the default options of `listen` has room for all waiting packets of an H.264 plan with the default
-- lead of `talk`. When a packet is sent, only packets of its own access unit are not yet due.
use Rattle.std.proofs.Common.{◌≡◌, ℕ, ◌+◌, ◌-◌, ◌*◌, ◌<◌, ◌≤◌, Bool, List, refl, ap, inl, inr, arith}
use Rattle.std.proofs.lemmas.Bool.{cases_lt}
use Rattle.std.proofs.Math.Nat.{mul-le-mul_right}
use Rattle.talk_plan.specs.declared.plan.TalkKind.TheVariants.{H264}
use Rattle.talk_plan.specs.declared.plan.TalkPlan.{TalkPlan}
use Rattle.talk_plan.specs.Plan.{IsVideoPlan}
use Rattle.talk_plan.specs.Timing.{nominal_offset}
use Rattle.talk_plan.proofs.TimingLemmas.{is_offset}
use Rattle.talk_video.specs.Fragments.{access_unit_of, all_packets}
use Rattle.talk_video.specs.Units.{sent_units}
use Rattle.talk_video.specs.Video.{access_instant}
use Rattle.talk_video.proofs.AccessLemmas.{access_rises}
use Rattle.talk_video.proofs.VideoRules.{sent_are, video_is}
use Rattle.talker.specs.Journal.{journal, stream_of}
use Rattle.talked_presented.specs.Whole.{HearsUnits, IsDefaultVideo, default_listener}
use Rattle.talked_headline.proofs.Fragments.{due_is}

far_by : (x y rate a b : ℕ) → rate ≤ 240 → a < b → a * 1000000000 < x * rate + rate → x * rate ≤ a * 1000000000 → b * 1000000000 < y * rate + rate → x + 2000000 < y
far_by x y rate a b few lt over under above = elim (cases_lt (x + 2000000) y) [
  | inl far ↦ far
  | inr near ↦
      let most : y * rate ≤ (x + 2000000) * rate = mul-le-mul_right rate near in
      let next : (a + 1) * 1000000000 ≤ b * 1000000000 = mul-le-mul_right 1000000000 (omega arith) in
      absurd (omega arith)
]

-- with the default lead, each access unit is sent after all earlier access units are due
next_far : (plan : TalkPlan) (a b : ℕ) → IsVideoPlan plan → plan.lead ≡ 2000000 → a < b → access_instant plan a + 2000000 < access_instant plan b
unfolding access_instant
next_far plan a b p lead lt =
    let some : 0 < plan.rate = omega (arith, p.some_rate) in
    let x = is_offset plan.rate a some in
    let y = is_offset plan.rate b some in
    let far = far_by (nominal_offset plan.rate a) (nominal_offset plan.rate b) plan.rate a b p.rate lt x.over x.under y.over in
    omega arith

sent_is : (plan : TalkPlan) (input : List ℕ) (last_stamp : Bool) (n : ℕ) → plan.kind ≡ H264 last_stamp → (stream_of plan input).arrival n ≡ access_instant plan (access_unit_of input (sent_units input) n) - plan.lead
sent_is plan input last_stamp n e = rw e refl

packets_are : (plan : TalkPlan) (input : List ℕ) (last_stamp : Bool) → plan.kind ≡ H264 last_stamp → (journal plan input).times.packets ≡ all_packets (sent_units input)
packets_are plan input last_stamp e = rw e refl

few_sent : (plan : TalkPlan) (input : List ℕ) (k n : ℕ) → IsDefaultVideo plan input → k ≤ n → n < (journal plan input).times.packets → (stream_of plan input).arrival n ≤ (journal plan input).times.due k → n < k + 4096
few_sent plan input k n h le known early =
    let units = sent_units input in
    let a : ℕ = access_unit_of input units k in
    let b : ℕ = access_unit_of input units n in
    let rise = access_rises input units k n le in
    let due = due_is plan input h.last_stamp k h.kind in
    let sent = sent_is plan input h.last_stamp n h.kind in
    let lead = h.lead in
    elim (cases_lt a b) [
      | inl less ↦ let far = next_far plan a b h.talked h.lead less in absurd (omega arith)
      | inr not ↦
          let same : a ≡ b = omega (arith, rise) in
          let packets = packets_are plan input h.last_stamp h.kind in
          let few = (video_is h.last_stamp plan input units h.talked (sent_are input)).few k n (omega arith) (ap (access_instant plan) same) in
          omega arith
    ]

pub defaults_hear_units : (plan : TalkPlan) (input : List ℕ) → IsDefaultVideo plan input → HearsUnits plan input (default_listener plan.id)
defaults_hear_units plan input h = record {
  last_stamp = h.last_stamp;
  kind = h.kind;
  talked = h.talked;
  stream_id = h.stream_id;
  limit = h.limit;
  stream = refl;
  clock = tt;
  room = record { packets = λ k n le known early. few_sent plan input k n h le known early; bytes = omega arith };
}
