use Rattle.std.proofs.Common.{◌≡◌, true, false, refl}
use Rattle.cvf_format.specs.WholeOrBroken.{begins}
use Rattle.cvf_format.specs.Assembly.{fragment_of}
use Rattle.cvf_format.specs.state.Assembly.{goes_on_here, has_room}
use Rattle.cvf_format.proofs.AssemblyLemmas.{pushed_first, pushed_apart, pushed_long, pushed_next, pushes}
use Rattle.cvf_format.proofs.assembler.Assembler.push.Goals as goal

pub returns-then-begins_unit : goal.returns-then-begins_unit
returns-then-begins_unit c =
    let first : begins c.args.view.now.part ≡ true = cc in
    pushes _ _ _ (fragment_of c.args.mark c.args.instant c.args.view.now) _ _ c.begin.ensures refl (λ events s. pushed_first _ events _ first c.requires.body s)

pub returns-then-not-goes_on_with : goal.returns-then-not-goes_on_with
returns-then-not-goes_on_with c =
    let rest : begins c.args.view.now.part ≡ false = cc in
    let apart : goes_on_here c.args.self.now (fragment_of c.args.mark c.args.instant c.args.view.now) ≡ false = cc in
    pushes _ _ _ (fragment_of c.args.mark c.args.instant c.args.view.now) _ _ c.lose.ensures refl (λ events s. pushed_apart _ events _ rest apart s)

pub returns-then-not-has_room_for : goal.returns-then-not-has_room_for
returns-then-not-has_room_for c =
    let here : goes_on_here c.args.self.now (fragment_of c.args.mark c.args.instant c.args.view.now) ≡ true = cc in
    let full : has_room c.args.self.now c.args.view.now.body.now ≡ false = cc in
    pushes _ _ _ (fragment_of c.args.mark c.args.instant c.args.view.now) _ _ c.lose-then-not-has_room_for.ensures refl (λ events s. pushed_long _ events _ here full s)

pub returns : goal.returns
returns c =
    let here : goes_on_here c.args.self.now (fragment_of c.args.mark c.args.instant c.args.view.now) ≡ true = cc in
    let room : has_room c.args.self.now c.args.view.now.body.now ≡ true = cc in
    pushes _ _ _ (fragment_of c.args.mark c.args.instant c.args.view.now) _ _ c.go_on.ensures refl (λ events s. pushed_next _ events _ here room s)
