use Rattle.std.proofs.Common.{◌≡◌, ◌≤◌, ◌++◌, ℕ, List, length, take, drop, sym, ap, subst, ◌∙◌, arith, take-append-drop, length-take}
use Rattle.std.proofs.lemmas.List.{drop-drop}
use Rattle.std.proofs.Math.Seq.{take-append_seam}
use Rattle.avtp_memory.proofs.open_file.copy_from.Goals as goal

copied_front : (xs copy rest : List ℕ) (m : ℕ) → copy ≡ take m xs → length copy ≡ m → xs ≡ take m (copy ++ rest) ++ drop m xs
copied_front xs copy rest m is len =
    let front : take m (copy ++ rest) ≡ copy = subst (λ n. take n (copy ++ rest) ≡ copy) len (take-append_seam copy rest) in
    rw (front, is) (sym (take-append-drop m xs))

pub returns-clause-moved : goal.returns-clause-moved
returns-clause-moved c =
    let xs = drop c.args.place c.args.bytes.now in
    let m = c.min-moved.result in
    let copied : c.copy_from_slice.new.self ≡ take m xs = rw c.rest_of-left.ensures at c.copy_from_slice.ensures.after in
    let fits : m ≤ length c.args.buf.now = omega arith in
    let len : length c.copy_from_slice.new.self ≡ m = omega (arith, c.copy_from_slice.ensures.len, length-take m c.args.buf.now) in
    copied_front xs c.copy_from_slice.new.self (drop m c.args.buf.now) m copied len ∙ ap (λ tail. take m (c.copy_from_slice.new.self ++ drop m c.args.buf.now) ++ tail) (drop-drop m c.args.place c.args.bytes.now)
