use Rattle.test_listeners.proofs.records.feed.Goals as goal

pub returns : goal.returns
returns c = record { «open» = c.feed.ensures.«open»; bounded = c.feed.ensures.bounded; stopped = c.feed.ensures.stopped }
