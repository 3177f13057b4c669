-- The devices that the words of `listen` ask for.
use Rattle.std.specs.Prelude.{List, ◌++◌, option_to_list}
use Rattle.std.specs.Option.{option_map}
use Rattle.avtp_words.specs.declared.device.Silence.{Silence as AskedSilence}
use Rattle.device_rack.specs.declared.silent_bytes.Silence.{Silence}
use Rattle.avtp_words.specs.Grammar.{NamedRaw, NamedFile, Listening}
use Rattle.avtp_words.specs.declared.device.Silence.TheVariants as asked_as
use Rattle.device_rack.specs.declared.silent_bytes.Silence.TheVariants as silence
use Rattle.avtp_tool.specs.declared.device_words.DeviceWord.{DeviceWord}
use Rattle.avtp_tool.specs.declared.device_words.DeviceWord.TheVariants.{Raw, AnnexB}

-- the silence that the words ask for, in the type of the devices
abbrev pub silence_as : AskedSilence → Silence
silence_as asked_as.Zero = silence.Zero
silence_as asked_as.Am824 = silence.Am824

-- the device that `--raw` asks for: the index of its file's name among the words, and its silence
abbrev pub raw_word : NamedRaw → DeviceWord
raw_word raw = Raw raw.file.place (silence_as raw.silence)

-- the device that `--annexb` asks for: the index of its file's name among the words
abbrev pub annexb_word : NamedFile → DeviceWord
annexb_word file = AnnexB file.place

-- the devices that are asked for, in order: raw audio, then a byte stream
abbrev pub devices_of : Listening → List DeviceWord
devices_of asked = option_to_list (option_map raw_word asked.raw) ++ option_to_list (option_map annexb_word asked.annexb)
