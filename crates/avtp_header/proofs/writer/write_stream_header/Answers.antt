use Rattle.std.proofs.Common.{ℕ, List, ◌++◌, rules}
use Rattle.avtp_base.specs.Layout.{Fits, spelling}
use Rattle.avtp_base.proofs.RowLemmas.{written_so}
use Rattle.avtp_header.specs.Header.{SpellsHeader, header_layout}
use Rattle.avtp_header.proofs.HeaderLemmas.{header_again}
use Rattle.avtp_header.proofs.writer.write_stream_header.Goals as goal

pub returns-clause-read_back : goal.returns-clause-read_back
returns-clause-read_back c =
    let h = c.args.header.now in
    let fits : Fits header_layout h = c.header_bytes-bytes.ensures.fits in
    written_so (spelling header_layout h) c.args.out.now c.write_front.new.out (λ bytes. (trail : List ℕ) → SpellsHeader (bytes ++ trail) h)
    c.write_front.result (search rules) (λ trail. header_again h trail fits)
