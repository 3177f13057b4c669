-- The limits on the words of a command line, in one table.
use Rattle.std.specs.Prelude.{ℕ, ℤ, pos, ◌*◌, ◌^◌, List, Option, Some, None, codes}
use Rattle.option_words.specs.declared.option.Takes.TheVariants.{Number, Signed}
use Rattle.avtp_words.specs.declared.talk.Kind.{Kind}
use Rattle.avtp_words.specs.declared.talk.Kind.TheVariants.{Aaf, Am824, H264}
use Rattle.option_words.specs.Options.{Row}

-- an option that takes a number: its name, the least and the greatest value, and its default, if any
pub record NumberOption : Type 0 where
  pub name : List ℕ
  pub low : ℕ
  pub high : ℕ
  pub default : Option ℕ

-- the option named `name`, which takes a number from `low` to `high`, with its default, if any
abbrev pub option : List ℕ → ℕ → ℕ → Option ℕ → NumberOption
option name low high default = record { name = name; low = low; high = high; default = default }

-- the option `given`, but with `default` as its default
abbrev pub with_default : NumberOption → ℕ → NumberOption
with_default given default = option given.name given.low given.high (Some default)

-- the row of an option that takes a number, in the table of a command's options
abbrev pub number : NumberOption → Row
number option = record { name = option.name; takes = Number option.low option.high }

-- an option that takes a signed number: its name, the greatest magnitude of the number, and its default
pub record SignedOption : Type 0 where
  pub name : List ℕ
  pub most : ℕ
  pub default : ℤ

-- the row of an option that takes a signed number, in the table of a command's options
abbrev pub signed : SignedOption → Row
signed option = record { name = option.name; takes = Signed option.most }

-- show, check, listen, agree and gateway: the maximum number of bytes that are read from each capture
abbrev pub limit : NumberOption
limit = option (codes "--limit") 1 (2 ^ 40) (Some (2 ^ 40))

-- listen, agree and gateway: the maximum number of packets that are queued until their presentation time
abbrev pub buffer : NumberOption
buffer = option (codes "--buffer") 1 65536 (Some 4096)

-- listen, agree and gateway: the maximum number of bytes in the queued packets
abbrev pub room : NumberOption
room = option (codes "--room") 1 (2 ^ 30) (Some (2 ^ 26))

-- listen: the maximum number of items in the queue between the judging thread and the presenting thread
abbrev pub ring : NumberOption
ring = option (codes "--ring") 1 256 (Some 64)

-- listen, agree and gateway: how many later items are read before an item is judged
abbrev pub look : NumberOption
look = option (codes "--look") 0 64 (Some 0)

-- listen, agree and gateway: what is added to each timestamp of the media clock, in nanoseconds
abbrev pub crf_shift : SignedOption
crf_shift = record { name = codes "--crf-shift"; most = 10 ^ 9; default = pos 0 }

-- listen, agree and gateway: the max transit time in nanoseconds
abbrev pub listen_lead : NumberOption
listen_lead = option (codes "--lead") 0 (10 ^ 9) (Some 2000000)

-- talk: the max transit time in nanoseconds
abbrev pub talk_lead : NumberOption
talk_lead = option (codes "--lead") 1 (10 ^ 9) (Some 2000000)

-- talk: the sample rate in Hz, or for H.264 the access units per second. The default depends on the kind.
abbrev pub rate : NumberOption
rate = option (codes "--rate") 1 192000 None

-- talk: the default rate of each kind
abbrev pub default_rate : Kind → ℕ
default_rate (Aaf format sparse) = 48000
default_rate Am824 = 48000
default_rate (H264 last_stamp) = 30

-- talk: the number of channels of a sample frame
abbrev pub channels : NumberOption
channels = option (codes "--channels") 1 1023 (Some 2)

-- talk: the number of sample frames in a packet
abbrev pub count : NumberOption
count = option (codes "--count") 1 1476 (Some 6)

-- talk: when the first packet is sent, in nanoseconds of gPTP
abbrev pub start : NumberOption
start = option (codes "--start") 0 (4 * 10 ^ 18) (Some (10 ^ 9))

-- talk: the number of packets from one media clock restart to the next
abbrev pub restart : NumberOption
restart = option (codes "--restart") 8 (10 ^ 9) None

-- talk: how far a restart sets presentation times forward, in nanoseconds
abbrev pub jump : NumberOption
jump = option (codes "--jump") 4 (10 ^ 9) (Some 1000000)

-- talk: the number of events of the media clock from one timestamp to the next
abbrev pub crf_interval : NumberOption
crf_interval = option (codes "--crf-interval") 1 65535 (Some 96)

-- talk: the number of timestamps in a packet of the media clock
abbrev pub crf_points : NumberOption
crf_points = option (codes "--crf-points") 1 180 (Some 1)

-- talk: the base frequency of the media clock in Hz; the default is the stream's rate
abbrev pub crf_rate : NumberOption
crf_rate = option (codes "--crf-rate") 1 200000000 None

-- talk: the code of the factor by which the media clock's base frequency is multiplied
abbrev pub crf_pull : NumberOption
crf_pull = option (codes "--crf-pull") 0 5 (Some 0)

-- talk: the default stream ID
abbrev pub talk_id : ℕ
talk_id = 0x0200000000010001

-- the maximum number of sample bytes in an AAF packet
abbrev pub samples : ℕ
samples = 1476

-- the maximum number of data block bytes in an AM824 packet
abbrev pub blocks : ℕ
blocks = 1468

-- the maximum number of H.264 access units per second
abbrev pub access_units : ℕ
access_units = 240

-- the maximum number of quadlets in an AM824 data block, one for each channel
abbrev pub quadlets : ℕ
quadlets = 256
