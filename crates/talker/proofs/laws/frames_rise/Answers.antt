use Rattle.std.proofs.Common.{◌++◌}
use Rattle.talker.specs.Frames.{clock_frames, stream_frames}
use Rattle.talker.proofs.LawLemmas.{all_rise}
use Rattle.talker.proofs.laws.frames_rise.Goals as goal

pub returns : goal.returns
returns c = λ plan input. all_rise (clock_frames plan input ++ stream_frames plan input)
