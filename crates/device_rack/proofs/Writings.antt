-- Bytes that a sink took, one piece after the other.
use Rattle.std.proofs.Common.{◌≡◌, ℕ, ◌+◌, ◌-◌, List, [], ◌++◌, length, take, drop, Option, refl, sym, ap, subst, ◌∙◌, append_assoc, arith, length-drop, take-append-drop}
use Rattle.std.proofs.lemmas.List.{take_all}
use Rattle.std.proofs.Math.Seq.{take-add}
use Rattle.std.specs.Prelude.{Result, Ok, Err, IsErr}
use Rattle.avtp_base.proofs.Told.{Appends-nil, Appends-trans, Appends-kept}
use Rattle.avtp_base.specs.declared.failed.Failed.{Failed}
use Rattle.avtp_base.specs.Told.{Appends, Keeps}
use Rattle.avtp_base.specs.Faults.{IsCounted}
use Rattle.avtp_base.specs.States.{SinkState}
use Rattle.device_rack.specs.state.Written.{AppendsPrefix, HasWritten}

-- if a sink takes `taken` bytes and then `n` of the remaining bytes, it takes the first taken + n bytes
pub taken_more : (a b c : Option (List ℕ)) (bytes : List ℕ) (taken n : ℕ)
    → Appends a b (take taken bytes) → Appends b c (take n (take (length bytes - taken) (drop taken bytes)))
    → Appends a c (take (taken + n) bytes)
taken_more a b c bytes taken n first second =
    let rest : take (length bytes - taken) (drop taken bytes) ≡ drop taken bytes = take_all (length bytes - taken) (drop taken bytes) (simp length-drop (omega arith)) in
    rw (take-add taken n bytes) (Appends-trans a b c (take taken bytes) (take n (drop taken bytes)) first (subst (λ (l : List ℕ). Appends b c (take n l)) rest second))

prefix_of_all : (a b : Option (List ℕ)) (xs ys : List ℕ) → AppendsPrefix a b xs → AppendsPrefix a b (xs ++ ys)
prefix_of_all a b xs ys taken =
    let part = taken.0 in
    let rest = taken.1.0 in
    let is : part ++ rest ≡ xs = taken.1.1 in
    (part, (rest ++ ys, sym (append_assoc part rest ys) ∙ ap (λ (zs : List ℕ). zs ++ ys) is), taken.2)

prefix_behind : (a b c : Option (List ℕ)) (xs ys : List ℕ) → Appends a b xs → AppendsPrefix b c ys → AppendsPrefix a c (xs ++ ys)
prefix_behind a b c xs ys first taken =
    let part = taken.0 in
    let rest = taken.1.0 in
    let is : part ++ rest ≡ ys = taken.1.1 in
    (xs ++ part, (rest, append_assoc xs part rest ∙ ap (λ (zs : List ℕ). xs ++ zs) is), Appends-trans a b c xs part first taken.2)

counted-then : {T U : Type 0} {f g h : ℕ} {e e' : Failed} → g ≡ f → IsCounted {T = T} g h (Err e) → IsCounted {T = U} f h (Err e')
counted-then quiet counted = record {
  never_falls = rw (← quiet) counted.never_falls;
  ok = tt;
  failed = rw (← quiet) counted.failed;
}

-- writing no bytes succeeds and changes nothing
pub HasWritten-none : {T : Type 0} (a : SinkState) (ok : T) → HasWritten a a (Ok ok) []
HasWritten-none a ok = record { whole = Appends-nil a.held; part = tt; counted = record { never_falls = omega arith; ok = refl; failed = tt } }

-- if `xs` and then `ys` are written, their concatenation is written
pub HasWritten-then : {T U : Type 0} {a b c : SinkState} {ok : U} {r : Result T Failed} (xs ys : List ℕ)
    → HasWritten {T = U} a b (Ok ok) xs → HasWritten b c r ys → HasWritten a c r (xs ++ ys)
HasWritten-then {T} {a = a} {b = b} {c = c} {r = Ok x} xs ys first second = record {
  whole = Appends-trans a.held b.held c.held xs ys first.whole second.whole;
  part = tt;
  counted = subst (λ (k : ℕ). IsCounted {T = T} k c.faults (Ok x)) first.counted.ok second.counted;
}
HasWritten-then {a = a} {b = b} {c = c} {r = Err e} xs ys first second = record {
  whole = tt;
  part = prefix_behind a.held b.held c.held xs ys first.whole second.part;
  counted = counted-then first.counted.ok second.counted;
}

-- if writing `xs` fails, writing `xs` and then `ys` fails
pub HasWritten-cut : {T U : Type 0} {a b : SinkState} {e : Failed} {r : Result U Failed} (xs ys : List ℕ)
    → HasWritten {T = T} a b (Err e) xs → IsErr r → HasWritten a b r (xs ++ ys)
HasWritten-cut {r = Ok x} xs ys written fails = absurd cc
HasWritten-cut {a = a} {b = b} {r = Err e'} xs ys written fails = record {
  whole = tt;
  part = prefix_of_all a.held b.held xs ys written.part;
  counted = counted-then refl written.counted;
}

-- the sink took the first bytes, and then failed
pub HasWritten-stopped : {T U : Type 0} (a b c : SinkState) {e : Failed} {r : Result U Failed} (bytes : List ℕ) (taken : ℕ)
    → Appends a.held b.held (take taken bytes) → b.faults ≡ a.faults → Keeps b.held c.held → IsCounted {T = T} b.faults c.faults (Err e) → IsErr r
    → HasWritten a c r bytes
HasWritten-stopped a b c {r = Ok x} bytes taken first quiet kept counted fails = absurd cc
HasWritten-stopped a b c {r = Err e'} bytes taken first quiet kept counted fails = record {
  whole = tt;
  part = (take taken bytes, (drop taken bytes, take-append-drop taken bytes), Appends-kept a.held b.held c.held (take taken bytes) first kept);
  counted = counted-then quiet counted;
}

pub HasWritten-same : {T : Type 0} {a b : SinkState} {r : Result T Failed} (xs ys : List ℕ) → xs ≡ ys → HasWritten a b r xs → HasWritten a b r ys
HasWritten-same xs ys same written = subst (HasWritten _ _ _) same written
