use Rattle.std.proofs.Common.{◌≡◌, ◌∙◌, false, Option, Some, None, refl, sym, ap, subst, arith, length}
use Rattle.std.specs.Prelude.{is_some, not}
use Rattle.cvf_format.specs.Assembly.{StandsFor}
use Rattle.sample_schedule.specs.declared.item.Item.{Item}
use Rattle.listener.specs.Gathering.{Gathered}
use Rattle.listener.proofs.Gathered.{cuts_of, first_alone, has_as, sound_cut, when_cut}
use Rattle.listener.proofs.units.Units.cut_first.Goals as goal

pub invariant_of-self : goal.invariant_of-self
invariant_of-self c =
    let sound = sound_cut c.args.item _ (when_cut c.args.item c.cut-self-inside.new.self) c.self.invariant.0 c.requires (cuts_of c.args.item _ c.cut-self-inside.new.self c.cut-self-inside.ensures.stands) in
    (record { events = sound.events; stands = sound.stands; arrivals = sound.arrivals; own = c.self.invariant.0.own }, c.cut-self-inside.ensures.marks, omega arith)

pub invariant_of-self-2 : goal.invariant_of-self-2
invariant_of-self-2 c = (
  sound_cut c.args.item _ (when_cut c.args.item c.cut-self-inside.new.self) c.self.invariant.0 c.requires (cuts_of c.args.item _ c.cut-self-inside.new.self c.cut-self-inside.ensures.stands),
  c.cut-self-inside.ensures.marks,
  omega arith,
)

none_here : (own : Option Item) → is_some own ≡ false → own ≡ None
none_here None e = refl
none_here (Some item) e = absurd cc

pub returns-then-is_none : goal.returns-then-is_none
returns-then-is_none c =
    let own : c.self.inside.own ≡ None = none_here c.self.inside.own (c.is_none.ensures ∙ ap not c.if-is_none.true) in
    let none : length c.cut-self-inside.new.self.lost ≡ 0 = sym c.cut-self-inside.ensures.marks ∙ c.if-self-eq0.true in
    record {
      between = when_cut c.args.item c.cut-self-inside.new.self;
      cuts = cuts_of c.args.item _ c.cut-self-inside.new.self
          (λ es was. c.cut-self-inside.ensures.stands es (subst (λ (u : Gathered). StandsFor u.assembly es) (sym c.self.view_is) was));
      rest = record {
        stands = λ ds has. has_as refl has;
        none = tt;
        item = c.requires;
        left = rw own (first_alone c.cut-self-inside.new.self.lost c.args.item none);
      };
    }

pub returns : goal.returns
returns c = record {
  between = when_cut c.args.item c.cut-self-inside.new.self;
  cuts = cuts_of c.args.item _ c.cut-self-inside.new.self
      (λ es was. c.cut-self-inside.ensures.stands es (subst (λ (u : Gathered). StandsFor u.assembly es) (sym c.self.view_is) was));
  rest = c.next.ensures;
}
