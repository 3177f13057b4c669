-- A listener with the default options of `listen` hears the units of an H.264 plan with the default lead of `talk`.
use Rattle.std.proofs.Common.{◌≡◌, ℕ, zero, suc, ◌+◌, ◌<◌, ◌≤◌, Bool, false, pos, List, All, refl, sym, ap, ◌∙◌, subst, arith}
use Rattle.std.specs.Prelude.{slice_get}
use Rattle.std.specs.List.{range_with_len}
use Rattle.std.proofs.lemmas.List.Elements.{All-cons, All-nil}
use Rattle.packet_journal.specs.Packets.{IsConforming}
use Rattle.packet_journal.specs.Units.{AreUnit}
use Rattle.listener.proofs.TrueUnits.{video}
use Rattle.talk_plan.specs.declared.plan.TalkKind.TheVariants.{H264}
use Rattle.talk_plan.specs.declared.plan.TalkPlan.{TalkPlan}
use Rattle.talker.specs.Frames.{SentFrame, StaysNear, frames, frames_at}
use Rattle.talker.specs.Journal.{journal, stream_of}
use Rattle.talker.proofs.LawLemmas.{whole_near}
use Rattle.talker.proofs.StreamLemmas.{at_number}
use Rattle.talker.proofs.TalkLemmas.{frames_alone}
use Rattle.talked_headline.specs.Premises.{HasRoomForUnit, ListensToVideo, part_sent}
use Rattle.talked_headline.proofs.Fragments.{few_packets, parts_are, unit_small}
use Rattle.talked_headline.proofs.Talked.{video_plan}
use Rattle.talked_presented.specs.Whole.{IsDefaultVideo, default_listener}
use Rattle.talked_presented.proofs.Anywhere.{kept_frames}
use Rattle.talked_presented.proofs.Merged.{stream_frames_are}
use Rattle.talked_presented.proofs.UnitRuns.{unit_low}

all_below : (n a m : ℕ) → a + n ≤ m → All (λ (k : ℕ). k < m) (range_with_len a n)
all_below zero a m le = All-nil (λ (k : ℕ). k < m)
all_below (suc n) a m le = All-cons (λ (k : ℕ). k < m) a (range_with_len (a + 1) n) (omega arith) (all_below n (a + 1) m (omega arith))

all_frames : (plan : TalkPlan) (input : List ℕ) → (h : IsDefaultVideo plan input) → frames_at plan input (range_with_len 0 (journal plan input).times.packets) ≡ frames plan input
all_frames plan input h =
    let s = stream_of plan input in
    let all = frames_alone plan input (video_plan plan h.last_stamp h.kind h.talked) h.talked.crf h.limit in
    kept_frames plan input (range_with_len 0 (journal plan input).times.packets) (λ k lt. ap (λ (l : List SentFrame). slice_get l k) all ∙ at_number s k lt)
    (all_below (journal plan input).times.packets 0 (journal plan input).times.packets (omega arith))
    ∙ (stream_frames_are s (range_with_len 0 (journal plan input).times.packets) ∙ sym all)

pub whole_heard : (plan : TalkPlan) (input : List ℕ) → IsDefaultVideo plan input → ListensToVideo plan input (range_with_len 0 (journal plan input).times.packets) (default_listener plan.id)
whole_heard plan input h = record {
  last_stamp = h.last_stamp;
  kind = h.kind;
  talked = h.talked;
  stream_id = h.stream_id;
  limit = h.limit;
  near = subst (StaysNear plan input) (sym (all_frames plan input h)) (whole_near plan input (video_plan plan h.last_stamp h.kind h.talked) h.limit);
  stream = refl;
  clock = tt;
}

near_by : (plan : TalkPlan) (input : List ℕ) (last_stamp : Bool) (fs : List SentFrame) → plan.kind ≡ H264 last_stamp → last_stamp ≡ false → StaysNear plan input fs
near_by plan input last_stamp fs kind each = rw (kind, each) tt

pub any_heard : (plan : TalkPlan) (input places : List ℕ) → (h : IsDefaultVideo plan input) → h.last_stamp ≡ false → ListensToVideo plan input places (default_listener plan.id)
any_heard plan input places h each = record {
  last_stamp = h.last_stamp;
  kind = h.kind;
  talked = h.talked;
  stream_id = h.stream_id;
  limit = h.limit;
  near = near_by plan input h.last_stamp (frames_at plan input places) h.kind each;
  stream = refl;
  clock = tt;
}

pub unit_fits : (plan : TalkPlan) (input : List ℕ) (from n : ℕ) → IsDefaultVideo plan input → IsConforming (pos 0) (journal plan input) → n < (journal plan input).times.packets → AreUnit (part_sent input) from n → HasRoomForUnit plan input (default_listener plan.id) from n
unit_fits plan input from n h conforming known unit =
    let p = journal plan input in
    let is = video p (part_sent input) (parts_are plan input h.last_stamp h.kind) conforming.times in
    let few = few_packets plan input h.last_stamp from n h.kind is known unit in
    let low = unit_low (part_sent input) from n unit in
    let small = unit_small plan input h.last_stamp from n h.kind low in
    record { known = known; packets = unit; some = omega arith; fits = omega arith }
