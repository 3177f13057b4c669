-- The words of `talk` and of `listen` are command lines, even without options.
use Rattle.std.proofs.Common.{◌≡◌, ◌≢◌, ℕ, List, [], ◌∷◌, All, codes, false, arith, refl}
use Rattle.std.specs.List.{AllByRecursion}
use Rattle.std.proofs.lemmas.List.Elements.{All-nil, All-contains, All-from_recursion}
use Rattle.hex.specs.Hex.{decode_pairs}
use Rattle.avtp_words.specs.Grammar.{IsCommandLine, Lacks, Need, lacking, listen, listen_form, of_clock, of_raw, of_restart, talk, talk_form}
use Rattle.option_words.specs.Options.{AreSettings, IsSetting, Row}
use Rattle.option_words.specs.Word.{BeginsWithDash, IsId, IsName}
use Rattle.option_words.proofs.Operands.{id_name}
use Rattle.option_words.proofs.Settings.{name-dash}
use Rattle.talked_presented.specs.Examples.{plain}
use Rattle.talk_command.specs.Talk.{talk_plan}
use Rattle.run_laws.specs.Defaults.{listen_default, listen_words, talk_default, talk_words}

no_settings : (rows : List Row) → AreSettings rows []
no_settings rows = record { each = All-nil (IsSetting rows); once = λ i j d lt within. absurd (omega (arith, within)) }

names_are : (words : List (List ℕ)) → AllByRecursion IsName words → All IsName words
names_are words named = All-from_recursion IsName words named

-- a name is not an option
lack : (words options : List (List ℕ)) → AllByRecursion IsName words → AllByRecursion BeginsWithDash options → Lacks words options
lack words options named dashes k d lt within =
    name-dash _ (All-contains IsName words _ (names_are words named) within) (All-from_recursion BeginsWithDash options dashes k d lt)

need : (words : List (List ℕ)) (needed : List ℕ) (options : List (List ℕ)) → AllByRecursion IsName words → AllByRecursion BeginsWithDash options → Need words needed options
need words needed options named dashes k d lt within = absurd (lack words options named dashes k d lt within)

pub listens : (word name : List ℕ) (id : ℕ) → IsId word id → IsName name → IsCommandLine (listen_words word name) (listen (listen_default id name))
listens word name id is named = (
  record {
    settings = [];
    id = word;
    line = record { spelled = refl; options = no_settings listen_form.rows; operands = ((id, is), names_are (name ∷ []) (named, tt)) };
    listener = record { stream = is; limit = refl; buffer = refl; room = refl; look = refl; lead = refl; clock = refl; shift = refl };
    ring = refl;
    raw = refl;
    annexb = refl;
  },
  record { silence = need (word ∷ name ∷ []) (codes "--raw") of_raw (id_name word id is, (named, tt)) (refl, tt); new_raw = tt; new_annexb = tt; apart = tt },
)

pub talks : (input output : List ℕ) → IsName input → IsName output → input ≢ output → IsCommandLine (talk_words input output) (talk (talk_default input output))
talks input output input_is output_is apart = (
  record {
    settings = [];
    line = record { spelled = refl; options = no_settings talk_form.rows; operands = (input_is, (output_is, tt)) };
    kind = record { kind = tt; format_given = refl; sparse_given = (λ e. absurd cc, λ within. absurd (sparse 0 [] (omega arith) within)) };
    rate = refl;
    channels = refl;
    count = refl;
    id = refl;
    start_at = 1000000000;
    start = refl;
    start_is = refl;
    lead = refl;
    restart = refl;
    jump = refl;
    crf = refl;
  },
  record {
    apart = apart;
    fits = record { rate = (5, refl); size = omega arith };
    clock = tt;
    options = record {
      kind_has = lack names (lacking (talk_default input output).kind) named (refl, tt);
      restart = need names (codes "--restart") of_restart named (refl, tt);
      clock = need names (codes "--crf") of_clock named (refl, (refl, (refl, (refl, tt))));
    };
  },
)
  where
    names : List (List ℕ)
    names = input ∷ output ∷ []

    named : AllByRecursion IsName names
    named = (input_is, (output_is, tt))

    sparse : Lacks (talk_words input output) (codes "--sparse" ∷ [])
    sparse = lack (talk_words input output) (codes "--sparse" ∷ []) (λ e. cc, named) (refl, tt)

pub plan_is : (input output : List ℕ) → talk_plan (talk_default input output) ≡ plain false
plan_is input output = refl

pub default_id : IsId (codes "0200000000010001") (plain false).id
unfolding decode_pairs
default_id = record { fits = omega arith; digits = refl }
