-- Command lines in general, and the first word that breaks a command line.
use Rattle.std.proofs.Common.{◌≡◌, ℕ, ◌+◌, ◌-◌, ◌<◌, ◌≤◌, ◌^◌, List, ◌++◌, flat_map, Option, Some, None, IsSomeAnd, IfSome, MatchOption, get_or, ◌==◌, if◌then◌else◌, arith, sym, subst, ap, ◌∙◌, refl, ℤ}
use Rattle.std.specs.Int.{w64, to_be_bytes, from_be_bytes}
use Rattle.std.proofs.lemmas.Nat.{from_be_bytes-to_be_bytes_8}
use Rattle.std.proofs.lemmas.Fmt.{decimal_injective}
use Rattle.aaf_format.specs.declared.aaf.AafFormat.{AafFormat}
use Rattle.aaf_format.specs.declared.aaf.AafFormat.TheVariants.{Float32, Int32, Int24, Int16}
use Rattle.option_words.specs.declared.option.Takes.TheVariants as takes
use Rattle.option_words.specs.declared.option.Takes.TheVariants.{Number}
use Rattle.option_words.specs.Number.{IsNumber, IsSigned}
use Rattle.avtp_words.specs.Limits.{NumberOption, SignedOption}
use Rattle.avtp_words.specs.Given.{IsGiven, IsGivenId, IsGivenIdIf, IsGivenIf, IsGivenSigned, IsGivenFormat}
use Rattle.option_words.specs.Values.{IsRead, IsReadId, IsReadIdIf, IsReadIf, IsReadSigned, IsReadFormat}
use Rattle.option_words.specs.Word.{IsId}
use Rattle.option_words.specs.Options.{Setting, words_of, IsValue, format_name, value_in}
use Rattle.avtp_words.specs.Grammar.{Form, IsOf}
use Rattle.option_words.proofs.Numbers.{same_spelled}
use Rattle.option_words.proofs.Operands.{names}
use Rattle.option_words.proofs.Lines.{first_operand, same_settings}

-- a command line splits into options and operands in only one way
pub same_line : (form : Form) (words : List (List ℕ)) (gs hs : List Setting) (ns ms : List (List ℕ)) → IsOf form words gs ns → IsOf form words hs ms → (gs ≡ hs) × (ns ≡ ms)
same_line form words gs hs ns ms p q =
    let spelled : flat_map words_of gs ++ ns ≡ flat_map words_of hs ++ ms = cc (p.spelled, q.spelled) in
    same_settings form.rows gs hs ns ms p.options.each q.options.each (names form.operands ms q.operands) (first_operand form.operands ns p.operands) spelled

-- ---- what options give

-- if the code reads the number `n` for `option`, the option gives the number `n`
pub number_given : (option : NumberOption) (default bound n : ℕ) (v : Option (List ℕ)) → option.default ≡ Some default → option.high < bound → IfSome v (IsValue (Number option.low option.high)) → IsRead bound default v n → MatchOption v (IsSomeAnd option.default (λ default. n ≡ default)) (λ word. IsNumber option.low option.high word n)
number_given option default bound n None has small is reads = subst (λ d. IsSomeAnd d (λ default. n ≡ default)) (sym has) reads.absent
number_given option default bound n (Some word) has small (m, is) reads =
    let same : n ≡ m = reads.read m (omega (arith, is.most, small)) is.spelled in
    subst (IsNumber option.low option.high word) (sym same) is

pub number_given_if : (low high bound : ℕ) (given : Option ℕ) (v : Option (List ℕ)) → high < bound → IfSome v (IsValue (Number low high)) → IsReadIf bound v given → MatchOption v (given ≡ None) (λ word. (n : ℕ) × (given ≡ Some n) × IsNumber low high word n)
number_given_if low high bound given None small is reads = reads.absent
number_given_if low high bound given (Some word) small (m, is) reads = (m, reads.read m (omega (arith, is.most, small)) is.spelled, is)

pub id_given : (default n : ℕ) (v : Option (List ℕ)) → IfSome v (IsValue takes.Id) → IsReadId default v n → MatchOption v (n ≡ default) (λ word. IsId word n)
id_given default n None is reads = reads.absent
id_given default n (Some word) (id, is) reads = subst (IsId word) (sym (reads.read id is)) is

pub id_given_if : (given : Option ℕ) (v : Option (List ℕ)) → IfSome v (IsValue takes.Id) → IsReadIdIf v given → MatchOption v (given ≡ None) (λ word. (id : ℕ) × (given ≡ Some id) × IsId word id)
id_given_if given None is reads = reads.absent
id_given_if given (Some word) (id, is) reads = (id, reads.read id is, is)

pub signed_given : (most : ℕ) (default z : ℤ) (v : Option (List ℕ)) → most < 2 ^ 63 → IfSome v (IsValue (takes.Signed most)) → IsReadSigned default v z → MatchOption v (z ≡ default) (λ word. IsSigned most word z)
signed_given most default z None small is reads = reads.absent
signed_given most default z (Some word) small (k, is) reads = subst (IsSigned most word) (sym (reads.read k (omega (arith, is.size, small)) is.spelled)) is

pub format_given : (default format : AafFormat) (v : Option (List ℕ)) → IfSome v (IsValue takes.Format) → IsReadFormat default v format → MatchOption v (format ≡ default) (λ word. word ≡ format_name format)
format_given default format None is reads = reads.absent
format_given default format (Some word) (named, is) reads = is ∙ ap format_name (sym (reads.read named is))

-- if `default` is in the range of `option`, the number `n` that is read for the option is also in that range
pub within : (option : NumberOption) (default n : ℕ) (gs : List Setting) → option.default ≡ Some default → option.low ≤ default → default ≤ option.high → IsGiven option gs n → (option.low ≤ n) × (n ≤ option.high)
within option default n gs has least most given = go (value_in option.name gs) given where
  go : (v : Option (List ℕ)) → MatchOption v (IsSomeAnd option.default (λ default. n ≡ default)) (λ word. IsNumber option.low option.high word n) → (option.low ≤ n) × (n ≤ option.high)
  go None given = let is : n ≡ default = subst (λ d. IsSomeAnd d (λ default. n ≡ default)) has given in (omega arith, omega arith)
  go (Some word) given = (given.least, given.most)

pub same_number : (option : NumberOption) (m n : ℕ) (gs : List Setting) → option.high < 2 ^ 64 → IsGiven option gs m → IsGiven option gs n → m ≡ n
same_number option m n gs small p q = go (value_in option.name gs) p q where
  fixed : (default : Option ℕ) → IsSomeAnd default (λ default. m ≡ default) → IsSomeAnd default (λ default. n ≡ default) → m ≡ n
  fixed None p q = absurd p
  fixed (Some default) p q = p ∙ sym q

  go : (v : Option (List ℕ)) → MatchOption v (IsSomeAnd option.default (λ default. m ≡ default)) (λ word. IsNumber option.low option.high word m) → MatchOption v (IsSomeAnd option.default (λ default. n ≡ default)) (λ word. IsNumber option.low option.high word n) → m ≡ n
  go None p q = fixed option.default p q
  go (Some word) p q = decimal_injective m n (omega (arith, p.most, small)) (omega (arith, q.most, small)) (sym p.spelled ∙ q.spelled)

pub same_number_if : (option : NumberOption) (a b : Option ℕ) (gs : List Setting) → option.high < 2 ^ 64 → IsGivenIf option gs a → IsGivenIf option gs b → a ≡ b
same_number_if option a b gs small p q = go (value_in option.name gs) p q where
  go : (v : Option (List ℕ)) → MatchOption v (a ≡ option.default) (λ word. (n : ℕ) × (a ≡ Some n) × IsNumber option.low option.high word n) → MatchOption v (b ≡ option.default) (λ word. (n : ℕ) × (b ≡ Some n) × IsNumber option.low option.high word n) → a ≡ b
  go None p q = p ∙ sym q
  go (Some word) (m, p, first) (n, q, second) =
      let same : m ≡ n = decimal_injective m n (omega (arith, first.most, small)) (omega (arith, second.most, small)) (sym first.spelled ∙ second.spelled) in
      p ∙ ap Some same ∙ sym q

pub same_id : (word : List ℕ) (a b : ℕ) → IsId word a → IsId word b → a ≡ b
same_id word a b p q =
    let both = sym p.digits ∙ q.digits in
    let bytes : to_be_bytes w64 a ≡ to_be_bytes w64 b = cc in
    sym (from_be_bytes-to_be_bytes_8 a p.fits) ∙ ap (from_be_bytes w64) bytes ∙ from_be_bytes-to_be_bytes_8 b q.fits

pub same_id_given : (name : List ℕ) (default m n : ℕ) (gs : List Setting) → IsGivenId name default gs m → IsGivenId name default gs n → m ≡ n
same_id_given name default m n gs p q = go (value_in name gs) p q where
  go : (v : Option (List ℕ)) → MatchOption v (m ≡ default) (λ word. IsId word m) → MatchOption v (n ≡ default) (λ word. IsId word n) → m ≡ n
  go None p q = p ∙ sym q
  go (Some word) p q = same_id word m n p q

pub same_id_given_if : (name : List ℕ) (a b : Option ℕ) (gs : List Setting) → IsGivenIdIf name gs a → IsGivenIdIf name gs b → a ≡ b
same_id_given_if name a b gs p q = go (value_in name gs) p q where
  go : (v : Option (List ℕ)) → MatchOption v (a ≡ None) (λ word. (id : ℕ) × (a ≡ Some id) × IsId word id) → MatchOption v (b ≡ None) (λ word. (id : ℕ) × (b ≡ Some id) × IsId word id) → a ≡ b
  go None p q = p ∙ sym q
  go (Some word) (m, p, first) (n, q, second) = p ∙ ap Some (same_id word m n first second) ∙ sym q

pub same_signed : (option : SignedOption) (y z : ℤ) (gs : List Setting) → option.most < 2 ^ 63 → IsGivenSigned option gs y → IsGivenSigned option gs z → y ≡ z
same_signed option y z gs small p q = go (value_in option.name gs) p q where
  go : (v : Option (List ℕ)) → MatchOption v (y ≡ option.default) (λ word. IsSigned option.most word y) → MatchOption v (z ≡ option.default) (λ word. IsSigned option.most word z) → y ≡ z
  go None p q = p ∙ sym q
  go (Some word) p q = same_spelled word y z (omega (arith, p.size, small)) (omega (arith, q.size, small)) p.spelled q.spelled

-- the sample format whose name has this fourth letter; no two formats have the same fourth letter
by_fourth : ℕ → AafFormat
by_fourth letter = if letter == 49 then Int16 else if letter == 50 then Int24 else if letter == 51 then Int32 else Float32

fourth_is : (format : AafFormat) → by_fourth (get_or (format_name format) 3 0) ≡ format
unfolding by_fourth
fourth_is Int16 = refl
fourth_is Int24 = refl
fourth_is Int32 = refl
fourth_is Float32 = refl

same_format : (a b : AafFormat) → format_name a ≡ format_name b → a ≡ b
same_format a b e = sym (fourth_is a) ∙ ap (λ (name : List ℕ). by_fourth (get_or name 3 0)) e ∙ fourth_is b

pub same_format_given : (name : List ℕ) (default f g : AafFormat) (gs : List Setting) → IsGivenFormat name default gs f → IsGivenFormat name default gs g → f ≡ g
same_format_given name default f g gs p q = go (value_in name gs) p q where
  go : (v : Option (List ℕ)) → MatchOption v (f ≡ default) (λ word. word ≡ format_name f) → MatchOption v (g ≡ default) (λ word. word ≡ format_name g) → f ≡ g
  go None p q = p ∙ sym q
  go (Some word) p q = same_format f g (sym p ∙ q)
