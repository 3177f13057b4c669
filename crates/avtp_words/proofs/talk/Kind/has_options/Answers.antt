use Rattle.avtp_words.proofs.talk.Kind.has_options.Goals as goal

pub returns-in-Aaf : goal.returns-in-Aaf
returns-in-Aaf c = rw c.in-Aaf.is c.lacks.ensures

pub returns-in-Am824 : goal.returns-in-Am824
returns-in-Am824 c = rw c.in-Am824.is c.lacks-in-Am824.ensures

pub returns-in-H264 : goal.returns-in-H264
returns-in-H264 c = rw c.in-H264.is c.lacks-in-H264.ensures
