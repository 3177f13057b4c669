use Rattle.std.proofs.Common.{ap, ◌∙◌, arith}
use Rattle.std.proofs.lemmas.Grind.{common_steps}
use Rattle.cvf_format.specs.AnnexB.{nal_units}
use Rattle.talk_video.specs.declared.units.Units.{Units}
use Rattle.talk_video.specs.Fragments.{packets_before}
use Rattle.talk_video.specs.Streams.{first_units}
use Rattle.talk_video.proofs.ListingLemmas.{inside_more, listed_more}
use Rattle.talk_video.proofs.units.list_units.Goals as goal

pub loop-unit-preserved : goal.loop-unit-preserved
loop-unit-preserved c =
    let next = c.in-Some.ensures.next in
    let bytes = c.args.bytes.now in
    record {
      walk = c.next.ensures.walk;
      inside = λ i h. inside_more bytes c.loop-unit.units.number c.in-Some.unit next.is_unit next.some next.inside c.loop-unit.invariant.inside i
          (omega (arith, next.number, h));
      listed = grind (arith, common_steps, listed_more);
    }

pub returns : goal.returns
returns c = record {
  units_are = c.loop-unit.invariant.listed ∙ ap (first_units c.args.bytes.now) c.in_default.ensures.next.all;
  inside = λ i h. c.loop-unit.invariant.inside i (omega (arith, h, c.in_default.ensures.next.all));
  packets_are = c.next.ensures.walk.packets ∙ ap (λ (u : Units). packets_before (nal_units c.args.bytes.now) u.number) c.in_default.ensures.next.same
      ∙ ap (packets_before (nal_units c.args.bytes.now)) c.in_default.ensures.next.all;
  few = (let walk = c.next.ensures.walk in omega (arith, walk.few_packets, walk.within, c.requires));
}
