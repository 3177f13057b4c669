use Rattle.std.proofs.Common.{arith, rules}
use Rattle.capture_pair.proofs.Filling.{filled-both, less-both, same-both, settled-both}
use Rattle.capture_pair.proofs.sides.fill_both.Goals as goal

pub returns-clause-pairs : goal.returns-clause-pairs
returns-clause-pairs g c ta tb list other given hl ho h =
    filled-both (g.S.Source.shows c.args.a.now ta) (g.S.Source.shows c.fill.new.source ta) (g.S.Source.shows c.args.b.now tb) (g.S.Source.shows c.fill-2.new.source tb) list other given c.args.matching.now c.fill.new.matching c.fill-2.new.matching
    (g.S.Source.kept c.args.b.now).ended (g.S.Source.is_quiet c.fill-2.new.source) (λ n k s m. c.fill.ensures.filled ta list other n k given s hl ho m) (λ n k s m. c.fill-2.ensures.filled tb other list n k given s ho hl m) c.fill-2.ensures.fills h

pub returns-clause-stays : goal.returns-clause-stays
returns-clause-stays g c = record { settled = search (rules, settled-both); kept_a = search rules; kept_b = search rules }

pub returns-clause-shrinks : goal.returns-clause-shrinks
returns-clause-shrinks g c = record {
  same = search (rules, same-both);
  less = search (rules, less-both);
  nexts = let a = c.fill.ensures.shrinks.nexts in let b = c.fill-2.ensures.shrinks.nexts in omega arith;
}
