-- A listener with the default options of `listen` has room for all waiting packets of a plan with the default lead of
-- `talk`.
use Rattle.std.proofs.Common.{◌≡◌, ℕ, ◌+◌, ◌*◌, ◌<◌, ◌≤◌, true, false, List, refl, sym, arith}
use Rattle.talk_plan.specs.declared.plan.TalkKind.{TalkKind}
use Rattle.talk_plan.specs.declared.plan.TalkKind.TheVariants.{Aaf, Am824, H264}
use Rattle.talk_plan.specs.declared.plan.TalkPlan.{TalkPlan}
use Rattle.talk_plan.specs.Plan.{ExpectsBy, IsNearLead}
use Rattle.talk_plan.proofs.RateLemmas.{rate_range}
use Rattle.talked_presented.specs.Whole.{ExpectsCounted, HasDefaultLead, HearsAll, IsCloseLead, default_listener}
use Rattle.talked_presented.proofs.Heads.{each_head}

same_lead : (a b rate count : ℕ) → a ≡ b → a * rate ≤ b * rate + 59 * (count * 1000000000)
same_lead a b rate count e = rw e (omega arith)

less_lead : (a b rate count : ℕ) → a ≡ b → 1 ≤ count → a * rate < b * rate + 127 * (count * 1000000000)
less_lead a b rate count e some = rw e (omega arith)

close : (plan : TalkPlan) → plan.lead ≡ 2000000 → IsCloseLead plan 2000000
close plan e = record { from = same_lead plan.lead 2000000 plan.rate plan.count e; to = same_lead 2000000 plan.lead plan.rate plan.count (sym e) }

near : (plan : TalkPlan) → plan.lead ≡ 2000000 → 1 ≤ plan.count → IsNearLead plan 2000000
near plan e some = record { from = less_lead plan.lead 2000000 plan.rate plan.count e some; to = less_lead 2000000 plan.lead plan.rate plan.count (sym e) some }

pub expects_by : (kind : TalkKind) (plan : TalkPlan) → plan.lead ≡ 2000000 → 1 ≤ plan.count → ExpectsBy kind plan 2000000
expects_by (Aaf format false) plan e some = tt
expects_by (Aaf format true) plan e some = near plan e some
expects_by Am824 plan e some = λ few. near plan e some
expects_by (H264 last_stamp) plan e some = tt

counted_by : (kind : TalkKind) (plan : TalkPlan) → plan.lead ≡ 2000000 → ExpectsCounted kind plan 2000000
counted_by (Aaf format false) plan e = tt
counted_by (Aaf format true) plan e = close plan e
counted_by Am824 plan e = λ few. close plan e
counted_by (H264 last_stamp) plan e = tt

pub holds : (lead rate count : ℕ) → lead ≡ 2000000 → rate ≤ 192000 → 1 ≤ count → 4 * ((lead + 1) * rate) < 3 * (4096 * (count * 1000000000))
holds lead rate count e most some = rw e (omega arith)

pub defaults_hear : (plan : TalkPlan) (input : List ℕ) → HasDefaultLead plan input → HearsAll plan input (default_listener plan.id)
defaults_hear plan input h = record {
  talk = record {
    talked = h.talked;
    id = h.id;
    limit = h.limit;
    lead = expects_by plan.kind plan h.lead h.talked.some_count;
    stream = refl;
    clock = tt;
  };
  alone = h.alone;
  without = refl;
  heads = λ n lt. each_head plan input n h.talked h.heads;
  counted = counted_by plan.kind plan h.lead;
  room = record {
    packets = holds plan.lead plan.rate plan.count h.lead (rate_range plan h.talked).most h.talked.some_count;
    bytes = omega arith;
  };
}
