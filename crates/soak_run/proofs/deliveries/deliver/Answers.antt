-- A packet is delivered copy by copy.
use Rattle.std.proofs.Common.{◌≡◌, ℕ, ℤ, pos, ◌+◌, List, [], ◌∷◌, ◌++◌, sym, ap, ◌∙◌, subst, arith, w64}
use Rattle.std.proofs.lemmas.Int.{fits_signed_from_abs, ints, to_z-of_z}
use Rattle.soak_run.specs.Network.{copies_by, copies_of, delay_by, soak_plan}
use Rattle.talk_plan.specs.Timing.{arrival_of}
use Rattle.soak_run.proofs.SoakLemmas.{Delivering, delivering-none, delivering-more, delivering-all, drawn-all, copied-all}
use Rattle.soak_run.proofs.deliveries.deliver.Goals as goal

pub loop-init : goal.loop-init
loop-init c = λ seed start. delivering-none seed c.args.number c.args.noise.now c.draw.new.self c.args.copies.now.items start c.draw.ensures.state

pub loop-preserved : goal.loop-preserved
loop-preserved c = λ seed start.
    let arrival : c.copy_arrival-arrival.result ≡ pos (arrival_of soak_plan c.args.number + delay_by _) =
    c.copy_arrival-arrival.ensures ∙ ap (λ (x : ℕ). pos (arrival_of soak_plan c.args.number + delay_by x)) c.draw-in-loop.ensures.drawn in
    subst (λ (l : List (ℤ × ℕ)). Delivering seed c.args.number (c.loop.counter + 1) c.draw-in-loop.new.self c.args.copies.now.items l)
    (sym (c.in_ok-push.ensures.items ∙ ap (λ (x : ℤ). c.loop.copies.items ++ (x, c.args.number) ∷ [])
    (to_z-of_z w64 c.copy_arrival-arrival.result (fits_signed_from_abs w64 c.copy_arrival-arrival.result (omega (arith, ints))))))
    (delivering-more seed c.args.number c.loop.counter c.loop.noise c.draw-in-loop.new.self c.copy_arrival-arrival.result c.args.copies.now.items c.loop.copies.items
    (c.loop.invariant seed start) c.draw-in-loop.ensures.state arrival)

pub returns : goal.returns
returns c = λ seed start.
    let so = c.loop.invariant seed start in
    let done : c.loop.counter ≡ c.copies_drawn-end.result = omega arith in
    let all : c.loop.counter ≡ copies_of seed c.args.number =
    delivering-all seed c.args.number c.loop.counter c.loop.noise c.draw.new.self c.args.noise.now c.args.copies.now.items c.loop.copies.items
    so start c.draw.ensures.state (done ∙ c.copies_drawn-end.ensures ∙ ap copies_by c.draw.ensures.drawn) in
    record {
      drawn = drawn-all seed c.args.number c.loop.counter c.loop.noise c.args.copies.now.items c.loop.copies.items so all;
      copied = copied-all seed c.args.number c.loop.counter c.loop.noise c.args.copies.now.items c.loop.copies.items so all;
    }
