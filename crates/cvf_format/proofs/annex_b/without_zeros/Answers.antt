use Rattle.std.proofs.Common.{◌≡◌, ℕ, ◌+◌, ◌-◌, ◌<◌, Option, get_or, sym, ap, arith}
use Rattle.std.specs.Option.{option_map}
use Rattle.cvf_format.specs.AnnexB.{is_other_byte}
use Rattle.cvf_format.proofs.PlaceLemmas.{last_none, last_place, other_byte}
use Rattle.cvf_format.proofs.annex_b.without_zeros.Goals as goal

pub returns-then-bytes-last-ne0-clause-value : goal.returns-then-bytes-last-ne0-clause-value
returns-then-bytes-last-ne0-clause-value c =
    let from = c.args.from in
    let bytes = c.args.bytes.now in
    let last : ℕ = c.loop-last.last - 1 in
    let start : from < c.loop-last.last = c.loop-last-test.true in
    let next : last + 1 ≡ c.loop-last.last = omega arith in
    let zeros = c.loop-last.invariant.zeros in
    let found = last_place (is_other_byte bytes) from c.args.end last (omega arith) (omega arith)
    (other_byte (get_or bytes last 0) c.if-bytes-last-ne0.true) (λ k low high. zeros k (omega arith) high) in
    sym (ap (λ (o : Option ℕ). option_map (λ (n : ℕ). (from, n + 1)) o) found)

pub returns-clause-value : goal.returns-clause-value
returns-clause-value c =
    let from = c.args.from in
    let zeros = c.loop-last.invariant.zeros in
    let none = last_none (is_other_byte c.args.bytes.now) from c.args.end c.requires.order (λ k low high. zeros k (omega arith) high) in
    sym (ap (λ (o : Option ℕ). option_map (λ (n : ℕ). (from, n + 1)) o) none)
