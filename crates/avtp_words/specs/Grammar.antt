-- The grammar of the command line, and the first word that breaks it.
use Rattle.std.specs.Prelude.{◌≡◌, ◌≢◌, ℕ, ℤ, pos, ◌+◌, ◌*◌, ◌/◌, ◌%◌, ◌≤◌, ◌↔◌, ⊤, All, Bool, IsTrue, Contains, List, [], ◌∷◌, ◌++◌, drop, flat_map, codes, Option, None, Some, IsSomeAnd, IfSome, option_map, slice_get}
use Rattle.std.specs.List.{find}
use Rattle.std.specs.Str.{bytes_eq}
use Rattle.aaf_format.specs.declared.aaf.AafFormat.{AafFormat}
use Rattle.aaf_format.specs.declared.aaf.AafFormat.TheVariants.{Int16}
use Rattle.aaf_format.specs.Aaf.{rate_of, frame_size}
use Rattle.clock_track.specs.PairLines.{pull_down, pull_up}
use Rattle.iec61883_format.specs.Iec.{rate_of_fdf, syt_interval, block_size}
use Rattle.avtp_words.specs.declared.agree.Agree.{Agree as AskedAgree}
use Rattle.avtp_words.specs.declared.command.Command.{Command}
use Rattle.avtp_words.specs.declared.command.Command.TheVariants.{Show, Check, Listen, Talk, Soak, Agree, Gateway}
use Rattle.avtp_words.specs.declared.crf.Crf.{Crf}
use Rattle.avtp_words.specs.declared.device.DeviceFile.{DeviceFile}
use Rattle.avtp_words.specs.declared.device.RawFile.{RawFile}
use Rattle.avtp_words.specs.declared.device.Silence.{Silence}
use Rattle.avtp_words.specs.declared.gateway.Gateway.{Gateway as AskedGateway}
use Rattle.avtp_words.specs.declared.gateway.GatewayFormat.{GatewayFormat}
use Rattle.avtp_words.specs.declared.gateway.GatewayFormat.TheVariants as format
use Rattle.avtp_words.specs.declared.listen.Listen.{Listen as AskedListen}
use Rattle.avtp_words.specs.declared.listener.ListenerOptions.{ListenerOptions}
use Rattle.avtp_words.specs.declared.talk.Talk.{Talk as AskedTalk}
use Rattle.avtp_words.specs.declared.talk.Kind.{Kind}
use Rattle.avtp_words.specs.declared.talk.Kind.TheVariants.{Aaf, Am824, H264}
use Rattle.option_words.specs.declared.operand.Operand.{Operand}
use Rattle.option_words.specs.declared.operand.Operand.TheVariants as operand
use Rattle.option_words.specs.declared.option.Takes.TheVariants as takes
use Rattle.avtp_words.specs.Given.{IsGiven, IsGivenFormat, IsGivenId, IsGivenIdIf, IsGivenIf, IsGivenSigned, IsGivenSilence}
use Rattle.avtp_words.specs.Limits as limits
use Rattle.avtp_words.specs.Limits.{default_rate, number, signed, with_default}
use Rattle.option_words.specs.Number.{IsNumber}
use Rattle.option_words.specs.Operands.{AreOperands, most_packets}
use Rattle.option_words.specs.Lines.{StopsAt}
use Rattle.option_words.specs.Word.{texts, IsId}
use Rattle.option_words.specs.Options.{Row, Setting, words_of, AreSettings, value_in}

-- ---- what a command line asks for, with plain bytes instead of borrowed strings

-- a file that is written: its name, and the name's position among the words of the command line, counted from 0
pub record NamedFile : Type 0 where
  pub name : List ℕ
  pub place : ℕ

-- a file of raw audio, and what is written into it as silence
pub record NamedRaw : Type 0 where
  pub file : NamedFile
  pub silence : Silence

-- what `listen` is asked for: the stream and its listener, the capacity of the queue in items, the files to write, and
-- the captures in order
pub record Listening : Type 0 where
  pub listener : ListenerOptions
  pub ring : ℕ
  pub raw : Option NamedRaw
  pub annexb : Option NamedFile
  pub files : List (List ℕ)

-- what `talk` is asked for: the input that is made into a capture, and how the packets are sent
pub record Talking : Type 0 where
  pub kind : Kind
  pub rate : ℕ
  pub channels : ℕ
  pub count : ℕ
  pub id : ℕ
  pub start : ℤ
  pub lead : ℕ
  pub restart : Option ℕ
  pub jump : ℕ
  pub crf : Option Crf
  pub input : List ℕ
  pub output : List ℕ

-- what `agree` is asked for: the stream, its listener, and the two captures
pub record Agreeing : Type 0 where
  pub listener : ListenerOptions
  pub a : List ℕ
  pub b : List ℕ

-- what `gateway` is asked for: the stream and its listener, the output's format and stream ID, and the names of the
-- input and the output
pub record Turning : Type 0 where
  pub listener : ListenerOptions
  pub to : GatewayFormat
  pub id : ℕ
  pub input : List ℕ
  pub output : List ℕ

-- what a command line asks for: one case for each command
pub data Request : Type 0 where
  show : (limit : ℕ) → (file : List ℕ) → Request
  check : (limit : ℕ) → (files : List (List ℕ)) → Request
  listen : Listening → Request
  talk : Talking → Request
  soak : (packets : ℕ) → Request
  agree : Agreeing → Request
  gateway : Turning → Request

-- a file that is written, with plain bytes instead of its borrowed name
abbrev pub named_file : DeviceFile → NamedFile
named_file file = record { name = file.name.now; place = file.place }

-- a file of raw audio, with plain bytes instead of its borrowed name
abbrev pub named_raw : RawFile → NamedRaw
named_raw raw = record { file = named_file raw.file; silence = raw.silence }

-- what `listen` is asked for, with plain bytes instead of borrowed strings
abbrev pub listening_of : AskedListen → Listening
listening_of asked = record {
  listener = asked.listener;
  ring = asked.ring;
  raw = option_map named_raw asked.raw;
  annexb = option_map named_file asked.annexb;
  files = texts asked.files.now;
}

-- what `talk` is asked for, with plain bytes instead of borrowed strings
abbrev pub talking_of : AskedTalk → Talking
talking_of asked = record {
  kind = asked.kind;
  rate = asked.rate;
  channels = asked.channels;
  count = asked.count;
  id = asked.id;
  start = asked.start;
  lead = asked.lead;
  restart = asked.restart;
  jump = asked.jump;
  crf = asked.crf;
  input = asked.input.now;
  output = asked.output.now;
}

-- what `agree` is asked for, with plain bytes instead of borrowed strings
abbrev pub agreeing_of : AskedAgree → Agreeing
agreeing_of asked = record { listener = asked.listener; a = asked.a.now; b = asked.b.now }

-- what `gateway` is asked for, with plain bytes instead of borrowed strings
abbrev pub turning_of : AskedGateway → Turning
turning_of asked = record { listener = asked.listener; to = asked.to; id = asked.id; input = asked.input.now; output = asked.output.now }

-- what a command is asked for, with plain bytes instead of borrowed strings
abbrev pub request_of : Command → Request
request_of (Show limit file) = show limit file.now
request_of (Check limit files) = check limit (texts files.now)
request_of (Listen asked) = listen (listening_of asked)
request_of (Talk asked) = talk (talking_of asked)
request_of (Soak packets) = soak packets
request_of (Agree asked) = agree (agreeing_of asked)
request_of (Gateway asked) = gateway (turning_of asked)

-- the files that a request reads, in order
abbrev pub files_of : Request → List (List ℕ)
files_of (show limit file) = file ∷ []
files_of (check limit files) = files
files_of (listen asked) = asked.files
files_of (talk asked) = asked.input ∷ []
files_of (soak packets) = []
files_of (agree asked) = asked.a ∷ asked.b ∷ []
files_of (gateway asked) = asked.input ∷ []

-- the capture that a request writes, if it writes one
abbrev pub output_of : Request → Option (List ℕ)
output_of (show limit file) = None
output_of (check limit files) = None
output_of (listen asked) = None
output_of (talk asked) = Some asked.output
output_of (soak packets) = None
output_of (agree asked) = None
output_of (gateway asked) = Some asked.output

-- ---- the commands

-- a command: its name, the options that it knows, and its operands
pub record Form : Type 0 where
  pub command : List ℕ
  pub rows : List Row
  pub operands : List Operand

-- show [options] FILE
abbrev pub show_form : Form
show_form = record {
  command = codes "show";
  rows = number limits.limit ∷ [];
  operands = operand.Name ∷ [];
}

-- check [options] FILE..
abbrev pub check_form : Form
check_form = record {
  command = codes "check";
  rows = number limits.limit ∷ [];
  operands = operand.Names ∷ [];
}

-- the options of the listener in `listen`, `agree` and `gateway`
abbrev pub listener_rows : List Row
listener_rows =
    number limits.limit ∷
    number limits.buffer ∷
    number limits.room ∷
    number limits.look ∷
    number limits.listen_lead ∷
    record { name = codes "--clock"; takes = takes.Id } ∷
    signed limits.crf_shift ∷ []

-- listen [options] STREAM FILE..
abbrev pub listen_form : Form
listen_form = record {
  command = codes "listen";
  rows = listener_rows ++
      number limits.ring ∷
      record { name = codes "--raw"; takes = takes.Name } ∷
      record { name = codes "--silence"; takes = takes.Silence } ∷
      record { name = codes "--annexb"; takes = takes.Name } ∷ [];
  operands = operand.Id ∷ operand.Names ∷ [];
}

-- talk [options] IN OUT
abbrev pub talk_form : Form
talk_form = record {
  command = codes "talk";
  rows =
      record { name = codes "--kind"; takes = takes.Kind } ∷
      record { name = codes "--format"; takes = takes.Format } ∷
      number limits.rate ∷
      number limits.channels ∷
      number limits.count ∷
      record { name = codes "--id"; takes = takes.Id } ∷
      number limits.start ∷
      number limits.talk_lead ∷
      record { name = codes "--sparse"; takes = takes.Nothing } ∷
      number limits.restart ∷
      number limits.jump ∷
      record { name = codes "--crf"; takes = takes.Id } ∷
      number limits.crf_interval ∷
      number limits.crf_points ∷
      number limits.crf_rate ∷
      number limits.crf_pull ∷
      record { name = codes "--last-stamp"; takes = takes.Nothing } ∷ [];
  operands = operand.Name ∷ operand.Name ∷ [];
}

-- soak N
abbrev pub soak_form : Form
soak_form = record {
  command = codes "soak";
  rows = [];
  operands = operand.Packets ∷ [];
}

-- agree [options] STREAM A B
abbrev pub agree_form : Form
agree_form = record {
  command = codes "agree";
  rows = listener_rows;
  operands = operand.Id ∷ operand.Name ∷ operand.Name ∷ [];
}

-- gateway [options] STREAM IN OUT
abbrev pub gateway_form : Form
gateway_form = record {
  command = codes "gateway";
  rows = listener_rows ++
      record { name = codes "--to"; takes = takes.OutFormat } ∷
      record { name = codes "--id"; takes = takes.Id } ∷ [];
  operands = operand.Id ∷ operand.Name ∷ operand.Name ∷ [];
}

-- the forms of all commands
abbrev pub forms : List Form
forms = show_form ∷ check_form ∷ listen_form ∷ talk_form ∷ soak_form ∷ agree_form ∷ gateway_form ∷ []

-- the form of the command named `command`, if there is such a command
abbrev pub form_named : List ℕ → Option Form
form_named command = find (λ form. bytes_eq form.command command) forms

-- `words` are the command, then its options in any order, each at most once, then its operands
pub record IsOf (form : Form) (words : List (List ℕ)) (settings : List Setting) (names : List (List ℕ)) : Type 0 where
  pub spelled : words ≡ form.command ∷ (flat_map words_of settings ++ names)
  pub options : AreSettings form.rows settings
  pub operands : AreOperands form.operands names

-- ---- what the words say

-- `words` are a `show` command line that asks to read at most `limit` bytes of the capture `file`
pub record IsShow (words : List (List ℕ)) (limit : ℕ) (file : List ℕ) : Type 0 where
  pub settings : List Setting
  pub line : IsOf show_form words settings (file ∷ [])
  pub limit_given : IsGiven limits.limit settings limit

-- `words` are a `check` command line that asks to read at most `limit` bytes of each capture of `files`
pub record IsCheck (words : List (List ℕ)) (limit : ℕ) (files : List (List ℕ)) : Type 0 where
  pub settings : List Setting
  pub line : IsOf check_form words settings files
  pub limit_given : IsGiven limits.limit settings limit

-- The option named `option` gives `file`. In `words`, the name of `file` is at index `file.place`, directly after the
-- option's name.
pub record NamesFile (words : List (List ℕ)) (settings : List Setting) (option : List ℕ) (file : NamedFile) : Type 0 where
  pub value : value_in option settings ≡ Some file.name
  pub before : ℕ
  pub place : file.place ≡ before + 1
  pub option_at : slice_get words before ≡ Some option
  pub name_at : slice_get words file.place ≡ Some file.name

-- If there is a file, the option named `option` gives this file. If there is no file, the option named `option` is not
-- given.
abbrev pub IsGivenFile : List (List ℕ) → List Setting → List ℕ → Option NamedFile → Type 0
IsGivenFile words settings option None = value_in option settings ≡ None
IsGivenFile words settings option (Some file) = NamesFile words settings option file

-- `words` ask for raw audio in the file `raw.file`, with silence that is made of `raw.silence`.
pub record SaysRaw (words : List (List ℕ)) (settings : List Setting) (raw : NamedRaw) : Type 0 where
  pub file : NamesFile words settings (codes "--raw") raw.file
  pub silence : IsGivenSilence settings raw.silence

-- If there is a file of raw audio, the words ask for this file. If there is no file of raw audio, `--raw` is not given.
abbrev pub IsGivenRaw : List (List ℕ) → List Setting → Option NamedRaw → Type 0
IsGivenRaw words settings None = value_in (codes "--raw") settings ≡ None
IsGivenRaw words settings (Some raw) = SaysRaw words settings raw

-- The options ask for the listener `asked`. The word `id` spells the stream ID of `asked`.
pub record SaysListener (settings : List Setting) (id : List ℕ) (asked : ListenerOptions) : Type 0 where
  pub stream : IsId id asked.stream
  pub limit : IsGiven limits.limit settings asked.limit
  pub buffer : IsGiven limits.buffer settings asked.buffer
  pub room : IsGiven limits.room settings asked.room
  pub look : IsGiven limits.look settings asked.look
  pub lead : IsGiven limits.listen_lead settings asked.lead
  pub clock : IsGivenIdIf (codes "--clock") settings asked.clock
  pub shift : IsGivenSigned limits.crf_shift settings asked.shift

-- `words` fit the form of `listen`, and `asked` is what `words` ask for. The rules over several words need not hold.
pub record SaysListen (words : List (List ℕ)) (asked : Listening) : Type 0 where
  pub settings : List Setting
  pub id : List ℕ
  pub line : IsOf listen_form words settings (id ∷ asked.files)
  pub listener : SaysListener settings id asked.listener
  pub ring : IsGiven limits.ring settings asked.ring
  pub raw : IsGivenRaw words settings asked.raw
  pub annexb : IsGivenFile words settings (codes "--annexb") asked.annexb

-- `words` are a `soak` command line whose number of packets is `packets`
pub record IsSoak (words : List (List ℕ)) (packets : ℕ) : Type 0 where
  pub settings : List Setting
  pub number : List ℕ
  pub line : IsOf soak_form words settings (number ∷ [])
  pub packets_given : IsNumber 0 most_packets number packets

-- `words` are an `agree` command line, and `asked` is what `words` ask for
pub record SaysAgree (words : List (List ℕ)) (asked : Agreeing) : Type 0 where
  pub settings : List Setting
  pub id : List ℕ
  pub line : IsOf agree_form words settings (id ∷ asked.a ∷ asked.b ∷ [])
  pub listener : SaysListener settings id asked.listener

-- the word that names a format that `gateway` writes
abbrev pub gateway_format_name : GatewayFormat → List ℕ
gateway_format_name format.Am824 = codes "am824"
gateway_format_name format.Aaf = codes "aaf"

-- `words` fit the form of `gateway` and give `--to`, and `asked` is what `words` ask for. If `--id` is not given, the
-- stream keeps its ID.
pub record SaysGateway (words : List (List ℕ)) (asked : Turning) : Type 0 where
  pub settings : List Setting
  pub id : List ℕ
  pub line : IsOf gateway_form words settings (id ∷ asked.input ∷ asked.output ∷ [])
  pub listener : SaysListener settings id asked.listener
  pub to_given : value_in (codes "--to") settings ≡ Some (gateway_format_name asked.to)
  pub id_given : IsGivenId (codes "--id") asked.listener.stream settings asked.id

-- `words` ask for an AAF stream in the sample format `format`. The stream is sparse if and only if `sparse` is true.
pub record SaysAaf (words : List (List ℕ)) (settings : List Setting) (format : AafFormat) (sparse : Bool) : Type 0 where
  pub kind : IfSome (value_in (codes "--kind") settings) (λ word. word ≡ codes "aaf")
  pub format_given : IsGivenFormat (codes "--format") Int16 settings format
  pub sparse_given : IsTrue sparse ↔ Contains words (codes "--sparse")

-- `words` ask for an H.264 stream. If `last_stamp` is true, only the last packet of each NAL unit has a timestamp. If
-- `last_stamp` is false, each packet has a timestamp.
pub record SaysVideo (words : List (List ℕ)) (settings : List Setting) (last_stamp : Bool) : Type 0 where
  pub kind : value_in (codes "--kind") settings ≡ Some (codes "h264")
  pub last_stamp_given : IsTrue last_stamp ↔ Contains words (codes "--last-stamp")

-- `words` ask for a stream of this kind. Without `--kind`, the kind is AAF.
abbrev pub SaysKind : List (List ℕ) → List Setting → Kind → Type 0
SaysKind words settings (Aaf format sparse) = SaysAaf words settings format sparse
SaysKind words settings Am824 = value_in (codes "--kind") settings ≡ Some (codes "am824")
SaysKind words settings (H264 last_stamp) = SaysVideo words settings last_stamp

-- The options ask for the media clock `crf`. The stream has `rate` sample frames a second. If `--crf-rate` is not
-- given, the clock's base frequency is `rate`.
pub record SaysCrf (settings : List Setting) (rate : ℕ) (crf : Crf) : Type 0 where
  pub id : IsGivenIdIf (codes "--crf") settings (Some crf.id)
  pub base : IsGiven (with_default limits.crf_rate rate) settings crf.rate
  pub pull : IsGiven limits.crf_pull settings crf.pull
  pub interval : IsGiven limits.crf_interval settings crf.interval
  pub points : IsGiven limits.crf_points settings crf.points

-- If there is a media clock, the options ask for this clock. If there is no media clock, `--crf` is not given.
abbrev pub SaysClock : List Setting → ℕ → Option Crf → Type 0
SaysClock settings rate None = IsGivenIdIf (codes "--crf") settings None
SaysClock settings rate (Some crf) = SaysCrf settings rate crf

-- `words` fit the form of `talk`, and `asked` is what `words` ask for. The rules over several words need not hold.
pub record SaysTalk (words : List (List ℕ)) (asked : Talking) : Type 0 where
  pub settings : List Setting
  pub line : IsOf talk_form words settings (asked.input ∷ asked.output ∷ [])
  pub kind : SaysKind words settings asked.kind
  pub rate : IsGiven (with_default limits.rate (default_rate asked.kind)) settings asked.rate
  pub channels : IsGiven limits.channels settings asked.channels
  pub count : IsGiven limits.count settings asked.count
  pub id : IsGivenId (codes "--id") limits.talk_id settings asked.id
  pub start_at : ℕ
  pub start : IsGiven limits.start settings start_at
  pub start_is : asked.start ≡ pos start_at
  pub lead : IsGiven limits.talk_lead settings asked.lead
  pub restart : IsGivenIf limits.restart settings asked.restart
  pub jump : IsGiven limits.jump settings asked.jump
  pub crf : SaysClock settings asked.rate asked.crf

-- AAF has a code for the sample rate, and the samples of a packet take at most 1,476 bytes.
pub record FitsSamples (format : AafFormat) (asked : Talking) : Type 0 where
  pub rate : (code : ℕ) × (rate_of code ≡ Some asked.rate)
  pub size : asked.count * frame_size asked.channels format ≤ limits.samples

-- IEC 61883-6 has a code for the sample rate. The number of blocks in a packet is at least an eighth of the SYT
-- interval. Hence any 8 packets in a row contain a timestamped block. A block has at most 256 quadlets, and the blocks
-- of a packet take at most 1,468 bytes.
pub record FitsBlocks (asked : Talking) : Type 0 where
  pub rate : (fdf : ℕ) × (rate_of_fdf fdf ≡ Some asked.rate) × IsSomeAnd (syt_interval fdf) (λ interval. interval ≤ 8 * asked.count)
  pub quadlets : asked.channels ≤ limits.quadlets
  pub size : asked.count * block_size asked.channels ≤ limits.blocks

-- The request fits the kind of its stream. For audio, the format has a code for the sample rate, and a packet fits an
-- Ethernet frame. For H.264, there are at most 240 access units a second.
abbrev pub FitsKind : Kind → Talking → Type 0
FitsKind (Aaf format sparse) asked = FitsSamples format asked
FitsKind Am824 asked = FitsBlocks asked
FitsKind (H264 last_stamp) asked = asked.rate ≤ limits.access_units

-- The number of sample frames from one CRF timestamp to the next, in a stream of `rate` sample frames a second. The
-- sample frames take as long as `interval` events at the clock's frequency. The clock's frequency is the base frequency
-- times the pull factor (IEEE 1722-2016, 10).
abbrev pub spacing_of : Crf → ℕ → ℕ
spacing_of crf rate = crf.interval * rate * pull_down crf.pull / (crf.rate * pull_up crf.pull)

-- Between two restarts there are `packets * count` sample frames. The sample frames between two restarts span a whole
-- number of clock packets, and this number is a multiple of 8. If there are no restarts, there is no condition.
abbrev pub HasWholeRuns : Crf → ℕ → ℕ → Option ℕ → Type 0
HasWholeRuns crf rate count None = ⊤
HasWholeRuns crf rate count (Some packets) = packets * count % (8 * spacing_of crf rate * crf.points) ≡ 0

-- The clock fits a stream with `rate` sample frames a second and `count` sample frames in a packet. The clock's
-- timestamps are at whole sample frames. Between two restarts there is a whole number of clock packets, and this number
-- is a multiple of 8.
pub record FitsStream (crf : Crf) (rate count : ℕ) (restart : Option ℕ) : Type 0 where
  pub whole : crf.interval * rate * pull_down crf.pull % (crf.rate * pull_up crf.pull) ≡ 0
  pub runs : HasWholeRuns crf rate count restart

-- no media clock is asked for, or the clock fits the stream
abbrev pub FitsClock : Option Crf → ℕ → ℕ → Option ℕ → Type 0
FitsClock None rate count restart = ⊤
FitsClock (Some crf) rate count restart = FitsStream crf rate count restart

-- None of `options` is among `words`.
abbrev pub Lacks : List (List ℕ) → List (List ℕ) → Type 0
Lacks words options = All (λ option. Contains words option → ⊥) options

-- If one of `options` is among `words`, the option `needed` is among `words`, too.
abbrev pub Need : List (List ℕ) → List ℕ → List (List ℕ) → Type 0
Need words needed options = All (λ option. Contains words option → Contains words needed) options

-- the options of `talk` that a kind does not allow
abbrev pub lacking : Kind → List (List ℕ)
lacking (Aaf format sparse) = codes "--last-stamp" ∷ []
lacking Am824 = codes "--format" ∷ codes "--sparse" ∷ codes "--last-stamp" ∷ []
lacking (H264 last_stamp) =
    codes "--format" ∷
    codes "--channels" ∷
    codes "--count" ∷
    codes "--sparse" ∷
    codes "--restart" ∷
    codes "--jump" ∷
    codes "--crf" ∷
    codes "--crf-interval" ∷
    codes "--crf-points" ∷
    codes "--crf-rate" ∷
    codes "--crf-pull" ∷ []

-- the options of `talk` that need `--restart`
abbrev pub of_restart : List (List ℕ)
of_restart = codes "--jump" ∷ []

-- the options of `talk` that need `--crf`
abbrev pub of_clock : List (List ℕ)
of_clock = codes "--crf-interval" ∷ codes "--crf-points" ∷ codes "--crf-rate" ∷ codes "--crf-pull" ∷ []

-- `words` contain no option that `kind` does not allow. If `words` contain an option that needs a second option,
-- `words` contain the second option, too.
pub record FitsOptions (kind : Kind) (words : List (List ℕ)) : Type 0 where
  pub kind_has : Lacks words (lacking kind)
  pub restart : Need words (codes "--restart") of_restart
  pub clock : Need words (codes "--crf") of_clock

-- The rules over several words after `talk`. The output's name differs from the input's. The stream fits its kind, the
-- clock fits the stream, and the options fit one another.
pub record KeepsRules (words : List (List ℕ)) (asked : Talking) : Type 0 where
  pub apart : asked.input ≢ asked.output
  pub fits : FitsKind asked.kind asked
  pub clock : FitsClock asked.crf asked.rate asked.count asked.restart
  pub options : FitsOptions asked.kind words

-- the options of `listen` that need `--raw`
abbrev pub of_raw : List (List ℕ)
of_raw = codes "--silence" ∷ []

-- The rules over several words after `listen`. `--silence` needs `--raw`. No file that is written has the same name as
-- a file that is read. If two files are written, their names differ.
pub record KeepsNames (words : List (List ℕ)) (asked : Listening) : Type 0 where
  pub silence : Need words (codes "--raw") of_raw
  pub new_raw : IfSome asked.raw (λ raw. Contains asked.files raw.file.name → ⊥)
  pub new_annexb : IfSome asked.annexb (λ file. Contains asked.files file.name → ⊥)
  pub apart : IfSome asked.raw (λ raw. IfSome asked.annexb (λ file. raw.file.name ≢ file.name))

-- A rule over several words after `gateway`: the output's name differs from the input's.
pub record KeepsOutput (asked : Turning) : Type 0 where
  pub apart : asked.input ≢ asked.output

-- ---- command lines

-- `words` are a command line that asks for this request
abbrev pub IsCommandLine : List (List ℕ) → Request → Type 0
IsCommandLine words (show limit file) = IsShow words limit file
IsCommandLine words (check limit files) = IsCheck words limit files
IsCommandLine words (listen asked) = SaysListen words asked × KeepsNames (drop 1 words) asked
IsCommandLine words (soak packets) = IsSoak words packets
IsCommandLine words (agree asked) = SaysAgree words asked
IsCommandLine words (gateway asked) = SaysGateway words asked × KeepsOutput asked
IsCommandLine words (talk asked) = SaysTalk words asked × KeepsRules (drop 1 words) asked

-- `words` fit the form of their command: each word is valid at its position, and no word is missing
pub record IsLine (words : List (List ℕ)) : Type 0 where
  pub form : Form
  pub known : form_named form.command ≡ Some form
  pub settings : List Setting
  pub names : List (List ℕ)
  pub line : IsOf form words settings names

-- The position, counted from 1, of what is wrong with `words`.
pub data IsOffence (words : List (List ℕ)) (position : ℕ) : Type 0 where
  -- The position of the first wrong word. The words before the wrong word are the beginning of some command line. The
  -- words before the wrong word, followed by the wrong word, begin no line. If a word is missing, the position is one
  -- past the last word.
  of_a_word : (place : ℕ) → position ≡ place + 1 → StopsAt IsLine words place → IsOffence words position
  -- The words fit the form of their command but are not a command line: a rule over several words fails, or `gateway`
  -- lacks `--to`. The position is that of the command.
  of_a_rule : position ≡ 1 → IsLine words → ((request : Request) → IsCommandLine words request → ⊥) → IsOffence words position
