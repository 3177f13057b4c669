use Rattle.pcap_frames.proofs.Held.{is_sure, refused_goes_on}
use Rattle.pcap_frames.proofs.Steps.{feeds, feeds_again}
use Rattle.pcap_frames.proofs.reader.Reader.feed.Goals as goal

pub returns-in-Some : goal.returns-in-Some
returns-in-Some c = rw (← c.self.view_is) (feeds_again _ _ _ _ c.in-Some.is (refused_goes_on _ _ _ _ _ c.args.piece.now c.in-Some.is) (is_sure _))

pub returns-in-None-style : goal.returns-in-None-style
returns-in-None-style c = feeds _ _ _ _ _ (rw (← c.self.view_is) c.in-None.is) c.feed_first.ensures (is_sure _)

pub returns-in-Some-style : goal.returns-in-Some-style
returns-in-Some-style c = feeds _ _ _ _ _ (rw (← c.self.view_is) c.in-None.is) c.feed_record.ensures (is_sure _)
