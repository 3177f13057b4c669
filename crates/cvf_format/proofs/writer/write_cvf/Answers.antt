use Rattle.std.proofs.Common.{ℕ, List, ◌++◌, ◌≡◌, take, subst}
use Rattle.avtp_base.specs.Layout.{spelling}
use Rattle.avtp_base.specs.Rows.{Writes}
use Rattle.avtp_base.proofs.RowLemmas.{written_so}
use Rattle.cvf_format.specs.Cvf.{Cvf, SpellsCvf, cvf_shape, cvf_spelling, layout_of, plain_cvf}
use Rattle.cvf_format.proofs.CvfLemmas.{cvf_again}
use Rattle.cvf_format.proofs.writer.write_cvf.Goals as goal

pub returns-clause-read_back : goal.returns-clause-read_back
returns-clause-read_back c =
    let v : Cvf = cvf_shape c.args.view.now in
    let head : take c.header_size.result c.packet_header-header.result ≡ spelling (layout_of v.part) v =
    rw c.header_size.ensures c.packet_header-header.ensures.spelled in
    let written : Writes (cvf_spelling v) c.args.out.now c.write_front.new.out c.write_front.result =
    subst (λ (xs : List ℕ). Writes (xs ++ v.body) c.args.out.now c.write_front.new.out c.write_front.result) head c.write_front.ensures in
    written_so (cvf_spelling v) c.args.out.now c.write_front.new.out (λ bytes. (trail : List ℕ) → SpellsCvf (bytes ++ trail) (plain_cvf v))
    c.write_front.result written (λ trail. cvf_again v trail c.requires c.packet_header-header.ensures.fits)
