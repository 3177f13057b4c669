-- The shortest command lines of `talk` and `listen`, and the requests that they make.
use Rattle.std.specs.Prelude.{ℕ, ◌^◌, pos, List, [], ◌∷◌, false, None, codes}
use Rattle.aaf_format.specs.declared.aaf.AafFormat.TheVariants.{Int16}
use Rattle.avtp_words.specs.declared.talk.Kind.TheVariants.{Aaf}
use Rattle.avtp_words.specs.Grammar.{Listening, Talking}

-- the words `listen STREAM FILE`
abbrev pub listen_words : List ℕ → List ℕ → List (List ℕ)
listen_words stream file = codes "listen" ∷ stream ∷ file ∷ []

-- the request of `listen` if only a stream and a file are given
abbrev pub listen_default : ℕ → List ℕ → Listening
listen_default stream file = record {
  listener = record { stream = stream; limit = 2 ^ 40; buffer = 4096; room = 67108864; look = 0; lead = 2000000; clock = None; shift = pos 0 };
  ring = 64;
  raw = None;
  annexb = None;
  files = file ∷ [];
}

-- the words `talk IN OUT`
abbrev pub talk_words : List ℕ → List ℕ → List (List ℕ)
talk_words input output = codes "talk" ∷ input ∷ output ∷ []

-- The request of `talk` if only its input and its output are given: dense 16-bit PCM, stereo, at 48 kHz, with 6 sample
-- frames in a packet. Sending begins at 1 s, and each packet is sent 2 ms before it is due.
abbrev pub talk_default : List ℕ → List ℕ → Talking
talk_default input output = record {
  kind = Aaf Int16 false;
  rate = 48000;
  channels = 2;
  count = 6;
  id = 0x0200000000010001;
  start = pos 1000000000;
  lead = 2000000;
  restart = None;
  jump = 1000000;
  crf = None;
  input = input;
  output = output;
}
