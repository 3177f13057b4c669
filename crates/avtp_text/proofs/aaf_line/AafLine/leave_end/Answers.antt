use Rattle.std.proofs.Common.{◌≡◌, Bool, true, false, length, refl, sym, ap, rules, arith, length-drop}
use Rattle.std.proofs.Math.Bool.{beq}
use Rattle.std.proofs.lemmas.Bool.{and_parts, eqb-true}
use denote.Enum.Bare.{same_true}
use Rattle.aaf_format.specs.contracts.aaf.AafFormat.{the_type}
use Rattle.avtp_text.proofs.AafEnds.{same}
use Rattle.avtp_text.proofs.aaf_line.AafLine.leave_end.Goals as goal

beq-true : (a b : Bool) → beq a b ≡ true → a ≡ b
beq-true true true e = refl
beq-true true false e = absurd cc
beq-true false true e = absurd cc
beq-true false false e = refl

pub returns-then-eq : goal.returns-then-eq
returns-then-eq c =
    let tv = and_parts _ _ (sym c.if-eq.ensures) in
    let tu = and_parts _ _ tv.1 in
    let mr = and_parts _ _ tu.1 in
    let sparse = and_parts _ _ mr.1 in
    let evt = and_parts _ _ sparse.1 in
    let format = and_parts _ _ evt.1 in
    let nsr = and_parts _ _ format.1 in
    let channels = and_parts _ _ nsr.1 in
    let depth = and_parts _ _ channels.1 in
    let count = and_parts _ _ depth.1 in
    let end = same c.args.self.now.end c.args.end (beq-true _ _ tv.0) (beq-true _ _ tu.0) (beq-true _ _ mr.0) (beq-true _ _ sparse.0) (eqb-true _ _ evt.0) (same_true the_type (search rules) _ _ format.0)
    (eqb-true _ _ nsr.0) (eqb-true _ _ channels.0) (eqb-true _ _ depth.0) (eqb-true _ _ count.0) (eqb-true _ _ count.1) in
    let len = simp length-drop at (ap length c.keep_last.ensures) in
    record { text = rw (c.keep_last.ensures, ← end) c.args.self.now.kept; whole = omega (arith, len, c.args.self.now.within); same = end }
