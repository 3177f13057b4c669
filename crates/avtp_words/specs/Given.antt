-- What an option gives: the number, stream ID or format that its value spells, or a default if the option is not given.
use Rattle.std.specs.Prelude.{◌≡◌, ℕ, ℤ, List, Option, Some, None, MatchOption, IsSomeAnd, IfSome, codes}
use Rattle.aaf_format.specs.declared.aaf.AafFormat.{AafFormat}
use Rattle.avtp_words.specs.declared.device.Silence.{Silence}
use Rattle.avtp_words.specs.declared.device.Silence.TheVariants.{Zero, Am824}
use Rattle.option_words.specs.Number.{IsNumber, IsSigned}
use Rattle.avtp_words.specs.Limits.{NumberOption, SignedOption}
use Rattle.option_words.specs.Word.{IsId}
use Rattle.option_words.specs.Options.{Setting, value_in, format_name}

-- If the option is given, its value spells `n`, which is in the option's range. If the option is not given, it has a
-- default, which is `n`.
abbrev pub IsGiven : NumberOption → List Setting → ℕ → Type 0
IsGiven option settings n = MatchOption (value_in option.name settings) (IsSomeAnd option.default (λ default. n ≡ default)) (λ word. IsNumber option.low option.high word n)

-- If the option is on the command line, `given` is the number that the option's value spells, and this number is in the
-- option's range. If the option is not given, `given` is the option's default, or `None` if the option has no default.
abbrev pub IsGivenIf : NumberOption → List Setting → Option ℕ → Type 0
IsGivenIf option settings given = MatchOption (value_in option.name settings) (given ≡ option.default) (λ word. (n : ℕ) × (given ≡ Some n) × IsNumber option.low option.high word n)

-- `id` is the stream ID that the option `name` gives, or `default` if the option is not given
abbrev pub IsGivenId : List ℕ → ℕ → List Setting → ℕ → Type 0
IsGivenId name default settings id = MatchOption (value_in name settings) (id ≡ default) (λ word. IsId word id)

-- `given` is the stream ID that the option `name` gives, or `None` if the option is not given
abbrev pub IsGivenIdIf : List ℕ → List Setting → Option ℕ → Type 0
IsGivenIdIf name settings given = MatchOption (value_in name settings) (given ≡ None) (λ word. (id : ℕ) × (given ≡ Some id) × IsId word id)

-- If the option is given, its value spells `z`, which is in the option's range and can be negative. If the option is
-- not given, `z` is the option's default.
abbrev pub IsGivenSigned : SignedOption → List Setting → ℤ → Type 0
IsGivenSigned option settings z = MatchOption (value_in option.name settings) (z ≡ option.default) (λ word. IsSigned option.most word z)

-- `format` is the sample format that the option `name` gives, or `default` if the option is not given
abbrev pub IsGivenFormat : List ℕ → AafFormat → List Setting → AafFormat → Type 0
IsGivenFormat name default settings format = MatchOption (value_in name settings) (format ≡ default) (λ word. word ≡ format_name format)

-- silence is made of what `--silence` names, or of zeros if `--silence` is not given
abbrev pub IsGivenSilence : List Setting → Silence → Type 0
IsGivenSilence settings Zero = IfSome (value_in (codes "--silence") settings) (λ word. word ≡ codes "zero")
IsGivenSilence settings Am824 = value_in (codes "--silence") settings ≡ Some (codes "am824")
