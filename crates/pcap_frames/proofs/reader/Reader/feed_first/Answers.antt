use Rattle.std.proofs.lemmas.Result.{err_from_is_err_and}
use Rattle.pcap_frames.proofs.Filling.{advances_refused, header_only, header_then}
use Rattle.pcap_frames.proofs.reader.Reader.feed_first.Goals as goal

pub returns-in_err-header : goal.returns-in_err-header
returns-in_err-header c =
    let p = err_from_is_err_and c.from_residual.result c.from_residual.ensures.1 in
    rw (p.1, p.2) (advances_refused _ _ _ _ c.in_err-header.ensures.steps)

pub returns-in-None : goal.returns-in-None
returns-in-None c =
    header_only c.args.self.now c.feed_header.new.self _ _ c.requires.styled (rw (← c.self.view_is) c.in-None.is) c.in_ok-header.ensures.end c.in_ok-header.ensures.steps

pub returns-in_ok-record-in-Some : goal.returns-in_ok-record-in-Some
returns-in_ok-record-in-Some c =
    header_then _ _ _ _ _ _ c.requires.styled c.in_ok-header.ensures.some c.in_ok-header.ensures.steps c.in_ok-record-in-Some.ensures
