use Rattle.std.proofs.Common.{◌≡◌, ◌∙◌, take}
use Rattle.am824_gateway.proofs.HeaderLemmas.{put_all}
use Rattle.am824_gateway.proofs.packet.Stream.write_first.Goals as goal

pub returns-in-Some : goal.returns-in-Some
returns-in-Some c =
    let s = c.args.self.now in
    let room = rw c.in-Aaf.is at c.requires.room in
    let first : c.in-Some.headers.now ≡ take 42 s.headers = c.in-Some.ensures.cases.same in
    let headers = rw c.in-Aaf.is at c.requires.stream.headers in
    rw c.in-Aaf.is (put_all c.args.out.now c.put_bytes-in-Aaf.new.out c.in-Some.headers.now 42 room c.put_bytes-in-Aaf.ensures ∙ first ∙ headers)
