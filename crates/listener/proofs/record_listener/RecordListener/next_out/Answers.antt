use Rattle.std.proofs.Common.{◌≡◌, ◌+◌, false, Option, Some, None, refl, rules, sym, subst, ap, ◌∙◌, arith, length}
use Rattle.std.specs.Prelude.{slice_get}
use Rattle.std.specs.Option.{option_to_list}
use Rattle.sample_schedule.specs.declared.shown.Shown.{Shown}
use Rattle.listener.specs.declared.heard.Counts.{Counts}
use Rattle.listener.specs.Listening.{ListenState, StandsFor, out, work}
use Rattle.listener.proofs.Listened.{given_out, nothing_out, shown_few, shown_frames, stands_next, taken_few, work_less}
use Rattle.listener.proofs.record_listener.RecordListener.next_out.Goals as goal

pub next_shown-next-requires : goal.next_shown-next-requires
next_shown-next-requires c =
    let sound = c.self.invariant.0 in
    record {
      closed = c.self.invariant.1;
      over = sound.stands.ends;
      few = omega (arith, taken_few sound.records sound.given _ sound.stands, sound.few);
    }

pub returns-then-self : goal.returns-then-self
returns-then-self c = record {
  given = λ records given stands.
      let st = subst (StandsFor records given) (sym c.self.view_is) stands in
      subst (λ (l : ListenState). None ≡ slice_get (out l records) given) c.self.view_is (nothing_out records given _ st (c.self.invariant.2 c.if-self.true));
  stands = search rules;
  idle = search rules;
  keeps = search rules;
  less = search rules;
}

pub returns-in-None : goal.returns-in-None
returns-in-None c = record {
  given = λ records given stands.
      let st = subst (StandsFor records given) (sym c.self.view_is) stands in
      subst (λ (l : ListenState). c.next_shown-next.result ≡ slice_get (out l records) given) c.self.view_is (given_out records given _ c.next_shown-next.result st (c.next_shown-next.ensures.given _ given st.judges));
  stands = search rules;
  idle = search rules;
  keeps = search rules;
  less = search rules;
}

pub with_shown-self-inside-requires : goal.with_shown-self-inside-requires
with_shown-self-inside-requires c =
    let is : c.next_shown-next.result ≡ Some c.in-Some.shown = cc in
    let sound = c.self.invariant.0 in
    shown_few sound.records sound.given _ c.in-Some.shown sound.stands (sym is ∙ given_out sound.records sound.given _ _ sound.stands (c.next_shown-next.ensures.given _ sound.given sound.stands.judges))

pub invariant_of-self : goal.invariant_of-self
invariant_of-self c =
    let is : c.next_shown-next.result ≡ Some c.in-Some.shown = cc in
    let awake : c.self.inside.idle ≡ false = cc in
    let sound = c.self.invariant.0 in (
      record {
        records = sound.records;
        given = sound.given + length (option_to_list c.next_shown-next.result);
        stands = stands_next sound.records sound.given _ _ c.next_shown-next.result c.in-Some.shown is sound.stands (given_out sound.records sound.given _ _ sound.stands (c.next_shown-next.ensures.given _ sound.given sound.stands.judges))
            (record { plan = refl; closed = refl; schedule = c.next_shown-next.ensures.plan; units = c.next_shown-next.ensures.units; ends = c.next_shown-next.ensures.ready.over })
            (c.next_shown-next.ensures.judges _ sound.given sound.stands.judges) c.with_shown-self-inside.ensures;
        few = omega (arith, sound.few, shown_frames c.self.inside.counts c.in-Some.shown, ap (λ (n : Counts). n.frames) c.with_shown-self-inside.ensures);
      },
      c.next_shown-next.ensures.ready.closed,
      λ rests. absurd (let both = sym rests ∙ awake in cc),
    )

pub returns-in-Some : goal.returns-in-Some
returns-in-Some c =
    let is : c.next_shown-next.result ≡ Some c.in-Some.shown = cc in
    record {
      given = λ records given stands.
          let st = subst (StandsFor records given) (sym c.self.view_is) stands in
          subst (λ (l : ListenState). c.next_shown-next.result ≡ slice_get (out l records) given) c.self.view_is (given_out records given _ c.next_shown-next.result st (c.next_shown-next.ensures.given _ given st.judges));
      stands = λ records given stands.
          let st = subst (StandsFor records given) (sym c.self.view_is) stands in
          stands_next records given _ _ c.next_shown-next.result c.in-Some.shown is st (given_out records given _ _ st (c.next_shown-next.ensures.given _ given st.judges))
          (record { plan = refl; closed = refl; schedule = c.next_shown-next.ensures.plan; units = c.next_shown-next.ensures.units; ends = c.next_shown-next.ensures.ready.over })
          (c.next_shown-next.ensures.judges _ given st.judges) c.with_shown-self-inside.ensures;
      idle = search rules;
      keeps = search rules;
      less =
          let sound = c.self.invariant.0 in
          let one : length (option_to_list c.next_shown-next.result) ≡ 1 = ap (λ (o : Option Shown). length (option_to_list o)) is in
          let few = shown_few sound.records sound.given _ c.in-Some.shown sound.stands (sym is ∙ given_out sound.records sound.given _ _ sound.stands (c.next_shown-next.ensures.given _ sound.given sound.stands.judges)) in
          omega (arith, one, work_less _ _ c.in-Some.shown c.with_shown-self-inside.ensures few, ap work c.self.view_is);
    }
