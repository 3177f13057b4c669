use Rattle.talker.proofs.TalkLemmas.{audio_plan}
use Rattle.talked_headline.proofs.Talked.{video_plan}
use Rattle.talked_presented.specs.Whole.{unit_ends}
use Rattle.run_laws.specs.Runs.{each_packet}
use Rattle.run_laws.proofs.Listened.{ends, gives_all}
use Rattle.run_laws.proofs.Sizes.{capture_short}
use Rattle.run_laws.proofs.laws.default_words_present_all.Goals as goal

pub returns-clause-given : goal.returns-clause-given
returns-clause-given g c = λ plan input word name files after old new failed h id named holds ran.
    gives_all plan input (each_packet plan input) word name files after _ _ failed id named (c.files_are_heard.ensures.audio plan input h)
    (c.capture_reads_back.ensures.refusal plan input (audio_plan plan h.talked) h.limit) (c.defaults_present_all.ensures.presented plan input h) holds ran

pub returns-clause-units : goal.returns-clause-units
returns-clause-units g c = λ plan input word name files after old new failed h id named holds ran.
    gives_all plan input (unit_ends plan input) word name files after _ _ failed id named (c.files_are_heard.ensures.h264 plan input h)
    (c.capture_reads_back.ensures.refusal plan input (video_plan plan h.last_stamp h.kind h.talked) h.limit) (c.defaults_present_all_units.ensures.presented plan input h) holds ran

pub returns-clause-ends : goal.returns-clause-ends
returns-clause-ends g c = λ plan input word name files after old new ended h id named holds ran memory written.
    ends plan input word name files after _ _ ended id named (c.capture_reads_back.ensures.refusal plan input (audio_plan plan h.talked) h.limit) (capture_short plan input h) holds ran memory written
