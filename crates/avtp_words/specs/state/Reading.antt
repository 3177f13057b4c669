-- Only private functions and proofs use these definitions. What the steps of reading the words return,
-- for the options of any command.
use Rattle.std.specs.Prelude.{◌≡◌, ◌≢◌, ℕ, ◌+◌, ◌*◌, ◌^◌, ◌<◌, ◌≤◌, List, map, Bool, false, nat_le, ◌&&◌, Option, None, Some, IfSome, ⊤, slice_get, IsSomeAnd, pos, codes, nat_eq}
use Rattle.aaf_format.specs.declared.aaf.AafFormat.{AafFormat}
use Rattle.avtp_words.specs.declared.listener.ListenerOptions.{ListenerOptions}
use Rattle.avtp_words.specs.declared.crf.Crf.{Crf}
use Rattle.avtp_words.specs.declared.device.Silence.{Silence as RawSilence}
use Rattle.avtp_words.specs.declared.device.Silence.TheVariants as silence
use Rattle.option_words.specs.declared.option.OptionRow.{OptionRow}
use Rattle.avtp_words.specs.declared.talk.Kind.{Kind as StreamKind}
use Rattle.avtp_words.specs.declared.talk.Kind.TheVariants.{Aaf, Am824, H264}
use Rattle.iec61883_format.specs.Iec.{rate_of_fdf, syt_interval}
use Rattle.std.specs.Option.{option_eq}
use Rattle.avtp_words.specs.Limits as limits
use Rattle.avtp_words.specs.Limits.{NumberOption, default_rate, with_default}
use Rattle.clock_track.specs.PairLines.{pull_down}
use Rattle.option_words.specs.Lines.{StopsAt}
use Rattle.avtp_words.specs.Grammar.{Listening, NamedFile, NamedRaw, Talking, spacing_of}
use Rattle.aaf_format.specs.declared.aaf.AafFormat.TheVariants.{Int16}
use Rattle.option_words.specs.Values.{IsRead, IsReadFormat, IsReadId, IsReadIdIf, IsReadIf, IsReadSigned, value_after}

abbrev pub names_of : List OptionRow → List (List ℕ)
names_of rows = map (λ row. row.name.now) rows

-- `n` is the number that is read for `option` from the words `options`; `option` has a default
abbrev pub IsReadOf : ℕ → NumberOption → List (List ℕ) → ℕ → Type 0
IsReadOf bound option options n = IsSomeAnd option.default (λ default. IsRead bound default (value_after option.name options) n)

-- The word after the option `name` is the name of `file`. The position of this word on the whole command line is
-- `file.place`; the command is word 0.
pub record ReadsFile (name : List ℕ) (options : List (List ℕ)) (file : NamedFile) : Type 0 where
  pub value : value_after name options ≡ Some file.name
  pub before : ℕ
  pub place : file.place ≡ before + 2
  pub option_at : slice_get options before ≡ Some name
  pub name_at : slice_get options (before + 1) ≡ Some file.name

abbrev pub IsReadFile : List ℕ → List (List ℕ) → Option NamedFile → Type 0
IsReadFile name options None = value_after name options ≡ None
IsReadFile name options (Some file) = ReadsFile name options file

-- The silence that is read from the value of `--silence`. Every value except `am824` is read as zeros.
abbrev pub IsReadSilence : Option (List ℕ) → RawSilence → Type 0
IsReadSilence word silence.Zero = IfSome word (λ word. word ≢ codes "am824")
IsReadSilence word silence.Am824 = word ≡ Some (codes "am824")

-- what is read from the options about a file of raw audio
pub record ReadsRaw (options : List (List ℕ)) (raw : NamedRaw) : Type 0 where
  pub file : ReadsFile (codes "--raw") options raw.file
  pub silence : IsReadSilence (value_after (codes "--silence") options) raw.silence

abbrev pub IsReadRaw : List (List ℕ) → Option NamedRaw → Type 0
IsReadRaw options None = value_after (codes "--raw") options ≡ None
IsReadRaw options (Some raw) = ReadsRaw options raw

-- what is read from the options that make a listener
pub record IsReadListener (options : List (List ℕ)) (asked : ListenerOptions) : Type 0 where
  pub limit : IsReadOf (2 ^ 64) limits.limit options asked.limit
  pub buffer : IsReadOf (2 ^ 32) limits.buffer options asked.buffer
  pub room : IsReadOf (2 ^ 32) limits.room options asked.room
  pub look : IsReadOf (2 ^ 32) limits.look options asked.look
  pub lead : IsReadOf (2 ^ 32) limits.listen_lead options asked.lead
  pub clock : IsReadIdIf (value_after (codes "--clock") options) asked.clock
  pub shift : IsReadSigned limits.crf_shift.default (value_after limits.crf_shift.name options) asked.shift

-- what is read from the options of `listen`
pub record AreHeard (options : List (List ℕ)) (asked : Listening) : Type 0 where
  pub listener : IsReadListener options asked.listener
  pub ring : IsReadOf (2 ^ 32) limits.ring options asked.ring
  pub raw : IsReadRaw options asked.raw
  pub annexb : IsReadFile (codes "--annexb") options asked.annexb

-- The options ask for an AAF stream. `format` is the sample format that is read from the options, and `sparse` is
-- `tells`. `tells` says whether `--sparse` is among the words after the command.
pub record IsReadAaf (options : List (List ℕ)) (tells : Bool) (format : AafFormat) (sparse : Bool) : Type 0 where
  pub no_blocks : IfSome (value_after (codes "--kind") options) (λ word. word ≢ codes "am824")
  pub no_video : IfSome (value_after (codes "--kind") options) (λ word. word ≢ codes "h264")
  pub format_read : IsReadFormat Int16 (value_after (codes "--format") options) format
  pub sparse_read : sparse ≡ tells

pub record IsReadVideo (options : List (List ℕ)) (tells last_stamp : Bool) : Type 0 where
  pub kind : value_after (codes "--kind") options ≡ Some (codes "h264")
  pub last_stamp_read : last_stamp ≡ tells

abbrev pub IsReadKind : List (List ℕ) → Bool → Bool → StreamKind → Type 0
IsReadKind options tells_sparse tells_last (Aaf format sparse) = IsReadAaf options tells_sparse format sparse
IsReadKind options tells_sparse tells_last Am824 = value_after (codes "--kind") options ≡ Some (codes "am824")
IsReadKind options tells_sparse tells_last (H264 last_stamp) = IsReadVideo options tells_last last_stamp

-- `crf` is the media clock that is read from the options, for a stream of `rate` sample frames a second.
pub record IsReadCrf (options : List (List ℕ)) (rate : ℕ) (crf : Crf) : Type 0 where
  pub id : IsReadIdIf (value_after (codes "--crf") options) (Some crf.id)
  pub base : IsReadOf (2 ^ 32) (with_default limits.crf_rate rate) options crf.rate
  pub pull : IsReadOf (2 ^ 8) limits.crf_pull options crf.pull
  pub interval : IsReadOf (2 ^ 16) limits.crf_interval options crf.interval
  pub points : IsReadOf (2 ^ 8) limits.crf_points options crf.points

abbrev pub IsReadClock : List (List ℕ) → ℕ → Option Crf → Type 0
IsReadClock options rate None = IsReadIdIf (value_after (codes "--crf") options) None
IsReadClock options rate (Some crf) = IsReadCrf options rate crf

-- The media clock and the rate of its stream are within their limits.
pub record IsWithin (crf : Crf) (rate : ℕ) : Type 0 where
  pub some_base : 1 ≤ crf.rate
  pub some_interval : 1 ≤ crf.interval
  pub some_points : 1 ≤ crf.points
  pub some_rate : 1 ≤ rate
  pub most_rate : rate ≤ limits.rate.high

-- `events` is the product of the clock's interval, the rate of its stream, and the denominator of its pull factor.
pub record IsEvents (crf : Crf) (rate events : ℕ) : Type 0 where
  pub value : events ≡ crf.interval * rate * pull_down crf.pull
  pub some : 1 ≤ events
  pub most : events < 2 ^ 44

-- `spacing` is the number of the stream's sample frames from one timestamp of the clock to the next. A packet of the
-- clock has at least one timestamp.
pub record IsSpacing (crf : Crf) (rate spacing : ℕ) : Type 0 where
  pub some_points : 1 ≤ crf.points
  pub value : spacing ≡ spacing_of crf rate
  pub some : 1 ≤ spacing
  pub most : spacing < 2 ^ 44

abbrev pub ClockIsWithin : Option Crf → ℕ → Type 0
ClockIsWithin None rate = ⊤
ClockIsWithin (Some crf) rate = IsWithin crf rate

-- what is read from the options of `talk` other than the kind
pub record AreRead (options : List (List ℕ)) (asked : Talking) : Type 0 where
  pub rate : IsReadOf (2 ^ 32) (with_default limits.rate (default_rate asked.kind)) options asked.rate
  pub channels : IsReadOf (2 ^ 16) limits.channels options asked.channels
  pub count : IsReadOf (2 ^ 32) limits.count options asked.count
  pub id : IsReadId limits.talk_id (value_after (codes "--id") options) asked.id
  pub start : (n : ℕ) × (asked.start ≡ pos n) × IsReadOf (2 ^ 63) limits.start options n
  pub lead : IsReadOf (2 ^ 32) limits.talk_lead options asked.lead
  pub restart : IsReadIf (2 ^ 32) (value_after limits.restart.name options) asked.restart
  pub jump : IsReadOf (2 ^ 32) limits.jump options asked.jump
  pub crf : IsReadClock options asked.rate asked.crf

-- `place` is the index of the first word of `words` that is wrong for a line of `L`. On the whole command line, the
-- position of this word is `position`; the command has position 1.
pub record StopsAfter (L : List (List ℕ) → Type 0) (words : List (List ℕ)) (position : ℕ) : Type 0 where
  pub place : ℕ
  pub here : position ≡ place + 2
  pub stops : StopsAt L words place

-- there is an SYT interval, and `count` is at least an eighth of the interval
abbrev pub is_long_enough : Option ℕ → ℕ → Bool
is_long_enough None count = false
is_long_enough (Some interval) count = nat_le interval (8 * count)

-- The code `fdf` of IEC 61883-6 names the sample rate, and `count` is at least an eighth of the code's SYT interval.
abbrev pub suits : ℕ → ℕ → ℕ → Bool
suits rate count fdf = option_eq nat_eq (rate_of_fdf fdf) (Some rate) && is_long_enough (syt_interval fdf) count
