use Rattle.pcap_frames.proofs.Steps.{feeds, feeds_again}
use Rattle.pcapng_frames.proofs.Rest.{refused_goes_on, sure_refused}
use Rattle.pcapng_frames.proofs.reader.Ng.feed.Goals as goal

pub returns-in-Some : goal.returns-in-Some
returns-in-Some c = rw (← c.self.view_is) (feeds_again _ _ _ _ c.in-Some.is (refused_goes_on _ _ c.args.piece.now c.in-Some.is) (sure_refused _ _ c.in-Some.is))

pub returns-in-None : goal.returns-in-None
returns-in-None c =
    let fed = c.advance.ensures in
    feeds _ _ _ _ _ (rw (← c.self.view_is) c.in-None.is) fed.advances fed.sure
