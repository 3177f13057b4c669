use Rattle.std.proofs.Common.{◌≡◌, ◌≤◌, length, Some, None, Option, arith, refl, subst, sym}
use Rattle.std.proofs.lemmas.Result.{err_from_is_err_and}
use Rattle.capture_io.specs.declared.capture_reader.Format.{Format}
use Rattle.capture_io.specs.state.Reader.{IsFront}
use Rattle.capture_io.proofs.Reader.{feeds_as, format_feeds, front_feeds, front_handed, front_rejected, longer}
use Rattle.capture_io.proofs.capture_reader.CaptureReader.feed.Goals as goal

pub returns-in-Some : goal.returns-in-Some
returns-in-Some c = feeds_as _ _ _ _ _ _ _ _ _ _ _ _ _ c.in-Some.is c.in-Some.is c.self.view_is (format_feeds _ _ _ _ _ _ _ _ c.feed_format.ensures.fed)

pub returns-then-len-lt-FRONT : goal.returns-then-len-lt-FRONT
returns-then-len-lt-FRONT c =
    let none = c.in-None.is in
    let front = subst (λ (f : Option Format). IsFront f c.self.inside.front.items c.self.inside.classic c.self.inside.ng) none c.self.invariant.1 in
    let within : c.min-taken.result ≤ length c.args.piece.now = omega (arith, c.min-taken.ensures) in
    feeds_as _ _ None None _ _ _ _ _ _ _ _ _ none none c.self.view_is
    (front_feeds _ _ c.args.piece.now _ _ _ within (λ more. omega (arith, more, c.min-taken.ensures, c.len.ensures, c.self.inside.front.ok.0, front.0)) c.in-Ok.ensures.items
    (omega (arith, c.if-len-lt-FRONT.true, c.len-2.ensures, c.extend_from_slice.new.self.ok.0)))

pub returns : goal.returns
returns c =
    let none = c.in-None.is in
    let front = subst (λ (f : Option Format). IsFront f c.self.inside.front.items c.self.inside.classic c.self.inside.ng) none c.self.invariant.1 in
    let within : c.min-taken.result ≤ length c.args.piece.now = omega (arith, c.min-taken.ensures) in
    let size : length c.extend_from_slice.new.self.items ≡ 4 =
    omega (arith, c.if-len-lt-FRONT.false, c.len-2.ensures, c.extend_from_slice.new.self.ok.0, longer _ _ c.args.piece.now _ within c.in-Ok.ensures.items, c.min-taken.ensures, c.len.ensures, c.self.inside.front.ok.0, front.0) in
    let told = rw c.as_slice.ensures.value at c.format_of-format.ensures in
    let fed = rw c.as_slice-2.ensures.value at c.in_ok-feed_format.ensures.fed in
    feeds_as _ _ None (Some c.format_of-format.result) _ _ _ _ _ _ _ _ _ none refl c.self.view_is
    (front_handed c.format_of-format.result _ _ c.args.piece.now _ _ _ _ _ _ within (λ more. omega (arith, more, c.min-taken.ensures, c.len.ensures, c.self.inside.front.ok.0, front.0)) c.in-Ok.ensures.items size (sym told)
    front.1 front.2 fed)

pub returns-in_err-feed_format : goal.returns-in_err-feed_format
returns-in_err-feed_format c =
    let none = c.in-None.is in
    let front = subst (λ (f : Option Format). IsFront f c.self.inside.front.items c.self.inside.classic c.self.inside.ng) none c.self.invariant.1 in
    let within : c.min-taken.result ≤ length c.args.piece.now = omega (arith, c.min-taken.ensures) in
    let size : length c.extend_from_slice.new.self.items ≡ 4 =
    omega (arith, c.if-len-lt-FRONT.false, c.len-2.ensures, c.extend_from_slice.new.self.ok.0, longer _ _ c.args.piece.now _ within c.in-Ok.ensures.items, c.min-taken.ensures, c.len.ensures, c.self.inside.front.ok.0, front.0) in
    let told = rw c.as_slice.ensures.value at c.format_of-format.ensures in
    let fed = rw c.as_slice-2.ensures.value at c.in_err-feed_format.ensures.fed in
    let p = err_from_is_err_and c.from_residual.result c.from_residual.ensures.1 in
    rw (p.1, p.2) (feeds_as _ _ None (Some c.format_of-format.result) _ _ _ _ _ _ _ _ _ none refl c.self.view_is
    (front_rejected c.format_of-format.result _ _ c.args.piece.now _ _ _ _ _ _ within c.in-Ok.ensures.items size (sym told) front.1 front.2 fed))
