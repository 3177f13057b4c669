-- Operands, and the first word that is not a valid operand.
use Rattle.std.proofs.Common.{◌≡◌, ℕ, ◌+◌, ◌/◌, ◌%◌, ◌==◌, Bool, true, false, if◌then◌else◌, List, [], ◌∷◌, ◌++◌, take, drop, get_or, length, Option, Some, None, IfSome, IfNone, Result, Ok, Err, arith, sym, subst, ap, ◌∙◌, refl, codes, All, String, decimal}
use Rattle.std.specs.Int.{w64, to_be_bytes}
use Rattle.std.proofs.lemmas.List.Elements.{All-nil, All-cons, All-head, All-append, All-contains, Contains-append_left, Contains-append_right}
use Rattle.std.proofs.lemmas.List.{take-append-drop, length-take}
use Rattle.std.proofs.Math.Seq.{drop-cons}
use Rattle.option_words.specs.state.Steps.{IsFirstUnnamed}
use Rattle.hex.proofs.HexLemmas.{decode_pairs-ok}
use Rattle.hex.specs.Hex.{IsBytes, decode_pairs, decode_sized}
use Rattle.std.specs.Prelude.{MatchResult}
use Rattle.hex.specs.declared.error.FromHexError.{FromHexError}
use Rattle.hex.specs.declared.error.FromHexError.TheVariants.{OddLength, InvalidStringLength}
use Rattle.option_words.specs.declared.operand.Operand.{Operand}
use Rattle.option_words.specs.declared.operand.Operand.TheVariants.{Id, Name, Names, Packets}
use Rattle.option_words.specs.Lines.{Stops, StopsAt}
use Rattle.option_words.specs.Operands.{IsOperand, AreOperands}
use Rattle.option_words.specs.state.Operands.{takes_all}
use Rattle.std.specs.declared.alloc.Global.{Global}
use Rattle.option_words.proofs.Numbers.{number_name}
use Rattle.option_words.specs.Word.{texts, IsName, IsId}

-- a stream ID is also valid as a file's name
pub id_name : (word : List ℕ) (id : ℕ) → IsId word id → IsName word
unfolding decode_pairs
id_name [] id is = absurd (let d = is.digits in cc)
id_name (first ∷ more) id is = λ dash. dash_none more (subst (λ f. decode_sized (f ∷ more) 8 ≡ Ok (to_be_bytes w64 id)) dash is.digits) where
  sized : (odd full : Bool) (more : List ℕ) → (if odd then Err OddLength else if full then decode_pairs 0 (45 ∷ more) else Err InvalidStringLength) ≡ Ok (to_be_bytes w64 id) → ⊥
  sized true full more d = absurd cc
  sized false true [] d = absurd cc
  sized false true (second ∷ more) d = absurd cc
  sized false false more d = absurd cc

  dash_none : (more : List ℕ) → decode_sized (45 ∷ more) 8 ≡ Ok (to_be_bytes w64 id) → ⊥
  dash_none more d = sized (length (45 ∷ more) % 2 == 1) (length (45 ∷ more) / 2 == 8) more d

operand_name : (operand : Operand) (word : List ℕ) → IsOperand operand word → IsName word
operand_name Id word (id, is) = id_name word id is
operand_name Name word is = is
operand_name Names word is = is
operand_name Packets word (n, is) = number_name word n (omega (arith, is.most)) is.spelled

pub names : (operands : List Operand) (ns : List (List ℕ)) → AreOperands operands ns → All IsName ns
names [] [] are = All-nil IsName
names [] (n ∷ ns) are = absurd are
names (o ∷ operands) [] are = absurd are
names (Id ∷ operands) (n ∷ ns) are = All-cons IsName n ns (operand_name Id n are.0) (names operands ns are.1)
names (Name ∷ operands) (n ∷ ns) are = All-cons IsName n ns are.0 (names operands ns are.1)
names (Names ∷ operands) (n ∷ ns) are = are
names (Packets ∷ operands) (n ∷ ns) are = All-cons IsName n ns (operand_name Packets n are.0) (names operands ns are.1)

-- a valid word for each type of operand
sample : Operand → List ℕ
sample Id = codes "0000000000000000"
sample Name = codes "a"
sample Names = codes "a"
sample Packets = decimal 0

sample_is : (operand : Operand) → IsOperand operand (sample operand)
unfolding sample decode_pairs
sample_is Id = (0, record { fits = omega arith; digits = refl })
sample_is Name = λ e. absurd (omega (arith, e))
sample_is Names = λ e. absurd (omega (arith, e))
sample_is Packets = (0, record { least = omega arith; most = omega arith; spelled = refl })

pub samples : List Operand → List (List ℕ)
samples [] = []
samples (Id ∷ operands) = sample Id ∷ samples operands
samples (Name ∷ operands) = sample Name ∷ samples operands
samples (Names ∷ operands) = sample Names ∷ []
samples (Packets ∷ operands) = sample Packets ∷ samples operands

pub sampled : (operands : List Operand) → AreOperands operands (samples operands)
unfolding samples
sampled [] = tt
sampled (Id ∷ operands) = (sample_is Id, sampled operands)
sampled (Name ∷ operands) = (sample_is Name, sampled operands)
sampled (Names ∷ operands) = All-cons IsName (sample Names) [] (sample_is Names) (All-nil IsName)
sampled (Packets ∷ operands) = (sample_is Packets, sampled operands)

missing : (operand : Operand) (operands : List Operand) → StopsAt (AreOperands (operand ∷ operands)) [] 0
missing operand operands = record { before = []; rest = []; split = refl; here = refl; begins = record { more = samples (operand ∷ operands); whole = sampled (operand ∷ operands) }; stops = λ are. are }

pub missing_of : (operand : Operand) (operands : List Operand) (words : List (String Global)) → length words ≡ 0 → StopsAt (AreOperands (operand ∷ operands)) (texts words) 0
missing_of operand operands [] e = missing operand operands
missing_of operand operands (word ∷ words) e = absurd (omega (arith, e))

-- if all words are valid operands, the first word is valid as the first operand
first_is : (operand : Operand) (operands : List Operand) (word : List ℕ) (words : List (List ℕ)) → AreOperands (operand ∷ operands) (word ∷ words) → IsOperand operand word
first_is Id operands word words are = are.0
first_is Name operands word words are = are.0
first_is Names operands word words are = All-head IsName word words are
first_is Packets operands word words are = are.0

-- if the first word is not valid as the first operand, it is the first wrong word
pub other : (operand : Operand) (operands : List Operand) (word : List ℕ) (words : List (List ℕ)) → (IsOperand operand word → ⊥) → StopsAt (AreOperands (operand ∷ operands)) (word ∷ words) 0
other operand operands word words not = record { before = []; rest = word ∷ words; split = refl; here = refl; begins = record { more = samples (operand ∷ operands); whole = sampled (operand ∷ operands) }; stops = λ b. not (first_is operand operands word b.more b.whole) }

pub with_first : (operand : Operand) (operands : List Operand) (word : List ℕ) (words : List (List ℕ)) → takes_all operand ≡ false → IsOperand operand word → AreOperands operands words → AreOperands (operand ∷ operands) (word ∷ words)
with_first Id operands word words single is are = (is, are)
with_first Name operands word words single is are = (is, are)
with_first Names operands word words single is are = absurd cc
with_first Packets operands word words single is are = (is, are)

rest_are : (operand : Operand) (operands : List Operand) (word : List ℕ) (words : List (List ℕ)) → takes_all operand ≡ false → AreOperands (operand ∷ operands) (word ∷ words) → AreOperands operands words
rest_are Id operands word words single are = are.1
rest_are Name operands word words single are = are.1
rest_are Names operands word words single are = absurd cc
rest_are Packets operands word words single are = are.1

-- if the first operand takes one word and this word is valid, the first wrong word after it is the first wrong word of
-- all
pub later : (operand : Operand) (operands : List Operand) (word : List ℕ) (words : List (List ℕ)) (place : ℕ) → takes_all operand ≡ false → IsOperand operand word → StopsAt (AreOperands operands) words place → StopsAt (AreOperands (operand ∷ operands)) (word ∷ words) (place + 1)
later operand operands word words place single is s = record {
  before = word ∷ s.before;
  rest = s.rest;
  split = ap (λ ws. word ∷ ws) s.split;
  here = omega (arith, s.here);
  begins = record { more = s.begins.more; whole = with_first operand operands word (s.before ++ s.begins.more) single is s.begins.whole };
  stops = go s.rest s.stops;
} where
  go : (rest : List (List ℕ)) → Stops (AreOperands operands) s.before rest → Stops (AreOperands (operand ∷ operands)) (word ∷ s.before) rest
  go [] never = λ are. never (rest_are operand operands word s.before single are)
  go (next ∷ rest) never = λ b. never (record { more = b.more; whole = rest_are operand operands word ((s.before ++ next ∷ []) ++ b.more) single b.whole })

-- if the operand is `Names`, the first word that is not a name is the first wrong word
unnamed : (operands : List Operand) (words : List (List ℕ)) (place : ℕ) → IsFirstUnnamed words place → StopsAt (AreOperands (Names ∷ operands)) words place
unfolding samples
unnamed operands words place u = record {
  before = take place words;
  rest = drop place words;
  split = sym (take-append-drop place words);
  here = omega (arith, length-take place words, u.within);
  begins = record { more = samples (Names ∷ operands); whole = ending (take place words) u.named };
  stops = subst (Stops (AreOperands (Names ∷ operands)) (take place words)) (sym (drop-cons words place [] u.within)) (λ b. u.here (stopped (take place words) b.more b.whole));
} where
  ending : (before : List (List ℕ)) → All IsName before → AreOperands (Names ∷ operands) (before ++ samples (Names ∷ operands))
  ending [] named = sampled (Names ∷ operands)
  ending (word ∷ before) named = All-append IsName (word ∷ before) (samples (Names ∷ operands)) named (sampled (Names ∷ operands))

  stopped : (before more : List (List ℕ)) → AreOperands (Names ∷ operands) ((before ++ get_or words place [] ∷ []) ++ more) → IsName (get_or words place [])
  stopped before more are =
      let word : List ℕ = get_or words place [] in
      All-contains IsName ((before ++ word ∷ []) ++ more) word (names (Names ∷ operands) ((before ++ word ∷ []) ++ more) are) (Contains-append_left (before ++ word ∷ []) more word (Contains-append_right before (word ∷ []) word (0, omega arith, refl)))

-- if an operand takes all remaining words, the first word that is not a name is the first wrong word
pub all_unnamed : (operand : Operand) (operands : List Operand) (words : List (List ℕ)) (wrong : Option ℕ) → takes_all operand ≡ true → IfSome wrong (IsFirstUnnamed words) → IfSome wrong (StopsAt (AreOperands (operand ∷ operands)) words)
all_unnamed Id operands words wrong all is = absurd cc
all_unnamed Name operands words wrong all is = absurd cc
all_unnamed Packets operands words wrong all is = absurd cc
all_unnamed Names operands words None all is = tt
all_unnamed Names operands words (Some place) all is = unnamed operands words place is

pub all_named : (operand : Operand) (operands : List Operand) (word : List ℕ) (words : List (List ℕ)) (wrong : Option ℕ) → takes_all operand ≡ true → IfNone wrong (All IsName (word ∷ words)) → IfNone wrong (AreOperands (operand ∷ operands) (word ∷ words))
all_named Id operands word words wrong all is = absurd cc
all_named Name operands word words wrong all is = absurd cc
all_named Packets operands word words wrong all is = absurd cc
all_named Names operands word words None all is = is
all_named Names operands word words (Some place) all is = tt

pub decoded : (word : List ℕ) (result : Result Unit FromHexError) (bytes : List ℕ) → result ≡ Ok tt → MatchResult (decode_sized word 8) (λ bs. (result ≡ Ok tt) × (bytes ≡ bs)) (λ e. result ≡ Err e) → decode_sized word 8 ≡ Ok bytes
decoded word result bytes ok value = go (decode_sized word 8) value where
  go : (d : Result (List ℕ) FromHexError) → MatchResult d (λ bs. (result ≡ Ok tt) × (bytes ≡ bs)) (λ e. result ≡ Err e) → d ≡ Ok bytes
  go (Ok bs) value = ap Ok (sym value.1)
  go (Err e) value = absurd (let no : Ok tt ≡ Err e = sym ok ∙ value in cc)

pub decoded_bytes : (word bytes : List ℕ) → decode_sized word 8 ≡ Ok bytes → IsBytes bytes
decoded_bytes word bytes e = sized (length word % 2 == 1) (length word / 2 == 8) e where
  sized : (odd full : Bool) → (if odd then Err OddLength else if full then decode_pairs 0 word else Err InvalidStringLength) ≡ Ok bytes → IsBytes bytes
  sized true full d = absurd cc
  sized false false d = absurd cc
  sized false true d = (decode_pairs-ok 0 word bytes d).2
