use Rattle.std.proofs.Common.{◌≡◌, ◌+◌, ◌∙◌, Option, None, length, ap, sym, refl, subst, arith}
use Rattle.std.specs.Prelude.{is_some, not}
use Rattle.std.specs.Option.{option_to_list}
use Rattle.listener_pair.specs.Matching.{IsIdle}
use Rattle.listener_pair.specs.declared.difference.Difference.{Difference}
use Rattle.capture_pair.specs.Pairing.{Pairs}
use Rattle.capture_pair.specs.state.Sides.{Kept}
use Rattle.capture_pair.proofs.Filling.{asked-on, idle-of, none-given, pairs-none, some-given, waits-idle}
use Rattle.capture_pair.proofs.sides.next_difference.Goals as goal
use Rattle.avtp_base.proofs.Results.{not_some}

pub returns-then-is_some-clause-given : goal.returns-then-is_some-clause-given
returns-then-is_some-clause-given g c ta tb list other given hl ho p =
    none-given (g.S.Source.shows c.args.a.now ta) (g.S.Source.shows c.args.b.now tb) (g.S.Source.is_quiet c.args.a.now) (g.S.Source.is_quiet c.args.b.now) list other given
    (g.S.Source.kept c.args.a.now).ended (g.S.Source.kept c.args.a.now).ended (g.S.Source.kept c.args.b.now).ended (g.S.Source.kept c.args.b.now).ended c.args.matching.now hl ho p c.requires refl refl
    (waits-idle c.args.matching.now (ap is_some (sym c.wants.ensures) ∙ sym c.is_some.ensures ∙ c.if-is_some.true))

pub returns-then-is_some-clause-idle : goal.returns-then-is_some-clause-idle
returns-then-is_some-clause-idle g c = waits-idle c.args.matching.now (ap is_some (sym c.wants.ensures) ∙ sym c.is_some.ensures ∙ c.if-is_some.true)

pub returns-then-is_some-2-clause-given : goal.returns-then-is_some-2-clause-given
returns-then-is_some-2-clause-given g c ta tb list other given hl ho p =
    some-given (g.S.Source.shows c.loop-wanted.a ta) (g.S.Source.shows c.loop-wanted.b tb) (g.S.Source.is_quiet c.loop-wanted.a) (g.S.Source.is_quiet c.loop-wanted.b) list other given
    (g.S.Source.kept c.loop-wanted.a).ended (g.S.Source.kept c.args.a.now).ended (g.S.Source.kept c.loop-wanted.b).ended (g.S.Source.kept c.args.b.now).ended c.loop-wanted.matching c.next_difference-difference.new.self c.next_difference-difference.result hl ho
    (c.loop-wanted.invariant.pairs ta tb list other given hl ho p) c.loop-wanted.invariant.stays.settled (ap (λ (k : Kept). k.ended) c.loop-wanted.invariant.stays.kept_a) (ap (λ (k : Kept). k.ended) c.loop-wanted.invariant.stays.kept_b)
    c.next_difference-difference.ensures.stands c.next_difference-difference.ensures.given c.next_difference-difference.ensures.ended (sym c.is_some-in-loop-wanted.ensures ∙ c.if-is_some-2.true)

pub returns-then-is_some-2-clause-pairs : goal.returns-then-is_some-2-clause-pairs
returns-then-is_some-2-clause-pairs g c ta tb list other given hl ho p =
    c.fill_both.ensures.pairs ta tb list other (given + length (option_to_list c.next_difference-difference.result)) hl ho
    (asked-on (g.S.Source.shows c.loop-wanted.a ta) (g.S.Source.shows c.loop-wanted.b tb) list other given c.loop-wanted.matching c.next_difference-difference.new.self c.next_difference-difference.result
    (c.loop-wanted.invariant.pairs ta tb list other given hl ho p) c.next_difference-difference.ensures.stands c.next_difference-difference.ensures.ended.0 c.next_difference-difference.ensures.ended.1)

pub returns-then-is_none-clause-given : goal.returns-then-is_none-clause-given
returns-then-is_none-clause-given g c ta tb list other given hl ho p =
    let d = c.next_difference-difference in
    let none : d.result ≡ None = not_some d.result (sym c.is_some-in-loop-wanted.ensures ∙ c.if-is_some-2.false) in
    let q = c.fill_both.ensures.pairs ta tb list other (given + length (option_to_list d.result)) hl ho
    (asked-on (g.S.Source.shows c.loop-wanted.a ta) (g.S.Source.shows c.loop-wanted.b tb) list other given c.loop-wanted.matching d.new.self d.result (c.loop-wanted.invariant.pairs ta tb list other given hl ho p) d.ensures.stands d.ensures.ended.0 d.ensures.ended.1) in
    let same = c.fill_both.ensures.shrinks.same (sym c.wants-wanted.ensures ∙ not_some c.wants-wanted.result (c.is_none.ensures ∙ ap not c.if-is_none.true)) in
    none-given (g.S.Source.shows c.fill_both.new.a ta) (g.S.Source.shows c.fill_both.new.b tb) (g.S.Source.is_quiet c.fill_both.new.a) (g.S.Source.is_quiet c.fill_both.new.b) list other given
    (g.S.Source.kept c.fill_both.new.a).ended (g.S.Source.kept c.args.a.now).ended (g.S.Source.kept c.fill_both.new.b).ended (g.S.Source.kept c.args.b.now).ended c.fill_both.new.matching hl ho
    (pairs-none (g.S.Source.shows c.fill_both.new.a ta) (g.S.Source.shows c.fill_both.new.b tb) list other given c.fill_both.new.matching d.result none q) c.fill_both.ensures.stays.settled
    (ap (λ (k : Kept). k.ended) (c.fill_both.ensures.stays.kept_a ∙ c.loop-wanted.invariant.stays.kept_a)) (ap (λ (k : Kept). k.ended) (c.fill_both.ensures.stays.kept_b ∙ c.loop-wanted.invariant.stays.kept_b))
    (subst IsIdle (sym same) (idle-of d.result d.new.self d.ensures.idle none))

pub returns-then-is_none-clause-pairs : goal.returns-then-is_none-clause-pairs
returns-then-is_none-clause-pairs g c ta tb list other given hl ho p =
    let d = c.next_difference-difference in
    let none : d.result ≡ None = not_some d.result (sym c.is_some-in-loop-wanted.ensures ∙ c.if-is_some-2.false) in
    let q = c.fill_both.ensures.pairs ta tb list other (given + length (option_to_list d.result)) hl ho
    (asked-on (g.S.Source.shows c.loop-wanted.a ta) (g.S.Source.shows c.loop-wanted.b tb) list other given c.loop-wanted.matching d.new.self d.result (c.loop-wanted.invariant.pairs ta tb list other given hl ho p) d.ensures.stands d.ensures.ended.0 d.ensures.ended.1) in
    subst (λ (o : Option Difference). Pairs (g.S.Source.shows c.fill_both.new.a ta) (g.S.Source.shows c.fill_both.new.b tb) list other (given + length (option_to_list o)) c.fill_both.new.matching) none q

pub returns-then-is_some-3-clause-given : goal.returns-then-is_some-3-clause-given
returns-then-is_some-3-clause-given g c ta tb list other given hl ho p =
    let d = c.next_difference-difference in
    let none : d.result ≡ None = not_some d.result (sym c.is_some-in-loop-wanted.ensures ∙ c.if-is_some-2.false) in
    let q = c.fill_both.ensures.pairs ta tb list other (given + length (option_to_list d.result)) hl ho
    (asked-on (g.S.Source.shows c.loop-wanted.a ta) (g.S.Source.shows c.loop-wanted.b tb) list other given c.loop-wanted.matching d.new.self d.result (c.loop-wanted.invariant.pairs ta tb list other given hl ho p) d.ensures.stands d.ensures.ended.0 d.ensures.ended.1) in
    none-given (g.S.Source.shows c.fill_both.new.a ta) (g.S.Source.shows c.fill_both.new.b tb) (g.S.Source.is_quiet c.fill_both.new.a) (g.S.Source.is_quiet c.fill_both.new.b) list other given
    (g.S.Source.kept c.fill_both.new.a).ended (g.S.Source.kept c.args.a.now).ended (g.S.Source.kept c.fill_both.new.b).ended (g.S.Source.kept c.args.b.now).ended c.fill_both.new.matching hl ho
    (pairs-none (g.S.Source.shows c.fill_both.new.a ta) (g.S.Source.shows c.fill_both.new.b tb) list other given c.fill_both.new.matching d.result none q) c.fill_both.ensures.stays.settled
    (ap (λ (k : Kept). k.ended) (c.fill_both.ensures.stays.kept_a ∙ c.loop-wanted.invariant.stays.kept_a)) (ap (λ (k : Kept). k.ended) (c.fill_both.ensures.stays.kept_b ∙ c.loop-wanted.invariant.stays.kept_b))
    (waits-idle c.fill_both.new.matching (ap is_some (sym c.wants-in-loop-wanted.ensures) ∙ sym c.is_some-in-loop-wanted-2.ensures ∙ c.if-is_some-3.true))

pub returns-then-is_some-3-clause-pairs : goal.returns-then-is_some-3-clause-pairs
returns-then-is_some-3-clause-pairs g c ta tb list other given hl ho p =
    let d = c.next_difference-difference in
    let none : d.result ≡ None = not_some d.result (sym c.is_some-in-loop-wanted.ensures ∙ c.if-is_some-2.false) in
    let q = c.fill_both.ensures.pairs ta tb list other (given + length (option_to_list d.result)) hl ho
    (asked-on (g.S.Source.shows c.loop-wanted.a ta) (g.S.Source.shows c.loop-wanted.b tb) list other given c.loop-wanted.matching d.new.self d.result (c.loop-wanted.invariant.pairs ta tb list other given hl ho p) d.ensures.stands d.ensures.ended.0 d.ensures.ended.1) in
    subst (λ (o : Option Difference). Pairs (g.S.Source.shows c.fill_both.new.a ta) (g.S.Source.shows c.fill_both.new.b tb) list other (given + length (option_to_list o)) c.fill_both.new.matching) none q

pub returns-then-is_some-3-clause-idle : goal.returns-then-is_some-3-clause-idle
returns-then-is_some-3-clause-idle g c = waits-idle c.fill_both.new.matching (ap is_some (sym c.wants-in-loop-wanted.ensures) ∙ sym c.is_some-in-loop-wanted-2.ensures ∙ c.if-is_some-3.true)

pub loop-wanted-preserved : goal.loop-wanted-preserved
loop-wanted-preserved g c =
    let d = c.next_difference-difference in
    let none : d.result ≡ None = not_some d.result (sym c.is_some-in-loop-wanted.ensures ∙ c.if-is_some-2.false) in
    record {
      pairs = λ ta tb list other given hl ho p.
          pairs-none (g.S.Source.shows c.fill_both.new.a ta) (g.S.Source.shows c.fill_both.new.b tb) list other given c.fill_both.new.matching d.result none
          (c.fill_both.ensures.pairs ta tb list other (given + length (option_to_list d.result)) hl ho
          (asked-on (g.S.Source.shows c.loop-wanted.a ta) (g.S.Source.shows c.loop-wanted.b tb) list other given c.loop-wanted.matching d.new.self d.result (c.loop-wanted.invariant.pairs ta tb list other given hl ho p) d.ensures.stands d.ensures.ended.0 d.ensures.ended.1));
      stays = record {
        settled = c.fill_both.ensures.stays.settled;
        kept_a = c.fill_both.ensures.stays.kept_a ∙ c.loop-wanted.invariant.stays.kept_a;
        kept_b = c.fill_both.ensures.stays.kept_b ∙ c.loop-wanted.invariant.stays.kept_b;
      };
      less = let f = c.fill_both.ensures.shrinks.nexts in let n = c.next_difference-difference.ensures.less in let i = c.loop-wanted.invariant.less in omega arith;
    }

pub returns-then-is_some-2-clause-less : goal.returns-then-is_some-2-clause-less
returns-then-is_some-2-clause-less g c =
    let f = c.fill_both.ensures.shrinks.nexts in
    let n = c.next_difference-difference.ensures.less in
    let i = c.loop-wanted.invariant.less in
    omega arith

pub returns-then-is_none-clause-less : goal.returns-then-is_none-clause-less
returns-then-is_none-clause-less g c =
    let f = c.fill_both.ensures.shrinks.nexts in
    let n = c.next_difference-difference.ensures.less in
    let i = c.loop-wanted.invariant.less in
    omega arith

pub returns-then-is_some-3-clause-less : goal.returns-then-is_some-3-clause-less
returns-then-is_some-3-clause-less g c =
    let f = c.fill_both.ensures.shrinks.nexts in
    let n = c.next_difference-difference.ensures.less in
    let i = c.loop-wanted.invariant.less in
    omega arith
