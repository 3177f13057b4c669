use Rattle.std.proofs.Common.{◌≡◌, ◌+◌, ◌*◌, ◌++◌, sym, ap, ◌∙◌, arith, rules, refl, slice_index, ℕ, List, [], ◌∷◌, length}
use Rattle.hex.specs.Hex.{encode_with, encode_lower}
use Rattle.avtp_text.proofs.Hex.{one_byte_more, pair_of, two_more}
use Rattle.avtp_text.proofs.Eight.{written}
use Rattle.avtp_text.proofs.pairs.write_hex.Goals as goal

four : (xs : List ℕ) → length xs ≡ 4 → slice_index xs 0 ∷ slice_index xs 1 ∷ slice_index xs 2 ∷ slice_index xs 3 ∷ [] ≡ xs
four [] len = absurd (omega (arith, len))
four (_ ∷ []) len = absurd (omega (arith, len))
four (_ ∷ _ ∷ []) len = absurd (omega (arith, len))
four (_ ∷ _ ∷ _ ∷ []) len = absurd (omega (arith, len))
four (_ ∷ _ ∷ _ ∷ _ ∷ []) len = refl
four (_ ∷ _ ∷ _ ∷ _ ∷ _ ∷ rest) len = absurd (omega (arith, len))

pub returns-then-bytes-eq4 : goal.returns-then-bytes-eq4
unfolding encode_with
returns-then-bytes-eq4 c =
    let short : length c.args.bytes.now ≡ 4 = omega (arith, c.if-bytes-eq4.true) in
    rw (c.write_hexadecimal_pair-then-bytes-eq4-3.ensures, c.write_hexadecimal_pair-then-bytes-eq4-2.ensures, c.write_hexadecimal_pair-then-bytes-eq4.ensures, c.write_hexadecimal_pair.ensures)
    (written c.args.out.now _ _ _ _ _ _ _ _ (omega (arith, short, c.requires)) ∙ ap encode_lower (four c.args.bytes.now short))

pub loop-i-init : goal.loop-i-init
unfolding encode_with
loop-i-init c = record { room = c.requires; written = refl }

pub loop-i-preserved : goal.loop-i-preserved
loop-i-preserved c =
    let i = c.loop-i.i in
    let next : 2 * (i + 1) ≡ 2 * i + 2 = omega arith in
    record {
      room = search rules;
      written =
          rw (next, c.write_hexadecimal_pair-in-loop-i.ensures)
          (two_more c.loop-i.out (2 * i) _ _ (omega arith) ∙ ap (λ front. front ++ pair_of (slice_index c.args.bytes.now i)) c.loop-i.invariant.written ∙ sym (one_byte_more c.args.bytes.now i c.loop-i-test.true));
    }
