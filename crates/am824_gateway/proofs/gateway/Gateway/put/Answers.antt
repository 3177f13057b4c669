use Rattle.std.proofs.Common.{◌≡◌, ◌^◌, ◌<◌, ◌≤◌, true, length, sym, ◌∙◌, subst, arith, rules}
use Rattle.sample_schedule.specs.Batches.{IsPresentable}
use Rattle.am824_gateway.specs.Pieces.{has_shape}
use Rattle.am824_gateway.specs.Scan.{IsShape}
use Rattle.am824_gateway.proofs.GatewayLemmas.{all_within, length_frames, shaped}
use Rattle.am824_gateway.proofs.gateway.Gateway.put.Goals as goal

pub returns : goal.returns
returns c =
    let n : c.len-number.result ≡ length c.swap.new.x.list.items = search rules in
    record {
      given = search rules;
      number = n ∙ sym (length_frames c.self.inside.to c.in-Some.shape c.self.inside.id c.self.inside.packets c.args.batch c.swap.new.x.list.items);
      taken = search rules;
      skip = tt;
      same = tt;
    }

pub invariant_of-self-2 : goal.invariant_of-self-2
invariant_of-self-2 c =
    let inside = c.self.inside in
    let to = inside.to in
    let shape = c.in-Some.shape in
    let batch = c.args.batch in
    let is : IsShape shape = rw c.in-Some.is at c.self.invariant.shape in
    let presentable = subst IsPresentable c.batch.view_is c.batch.invariant in
    let fits : has_shape to shape batch ≡ true = sym c.has_shape.ensures ∙ c.if-not-has_shape.false in
    let none = sym c.cut-block.ensures.in_time ∙ c.if-late.false in
    let all = all_within to shape batch batch.count 0 inside.block is none in
    let n : c.len-number.result ≡ length c.swap.new.x.list.items = search rules in
    let few : length c.swap.new.x.list.items ≤ batch.count = rw c.swap.ensures.x_after c.cut-block.ensures.few in
    let begun : inside.batches < 2 ^ 44 = rw (← c.self.view_is) at c.requires.few in
    let most = presentable.count in
    record {
      shape = c.self.invariant.shape;
      headers = c.self.invariant.headers;
      cut = record {
        stream = record { shape = is; headers = rw c.in-Some.is at c.self.invariant.headers };
        presentable = presentable;
        size = shaped to shape batch fits;
        within = rw (c.swap.ensures.x_after, c.cut-block.ensures.cut) all;
      };
      packets = omega (arith, n);
      few = omega (arith, n, few, most, c.self.invariant.few);
      batches = omega (arith, begun);
      frame = c.self.invariant.frame;
    }
