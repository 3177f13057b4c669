use Rattle.std.proofs.Common.{ℕ, List, ◌++◌, subst}
use Rattle.avtp_base.specs.Rows.{Writes}
use Rattle.avtp_base.proofs.RowLemmas.{written_so}
use Rattle.crf_format.specs.Crf.{Crf, SpellsCrf, crf_shape, crf_spelling, plain_crf}
use Rattle.crf_format.proofs.CrfLemmas.{crf_again}
use Rattle.crf_format.proofs.writer.write_crf.Goals as goal

pub returns-clause-read_back : goal.returns-clause-read_back
returns-clause-read_back c =
    let v : Crf = crf_shape c.args.view.now in
    let written : Writes (crf_spelling v) c.args.out.now c.write_front.new.out c.write_front.result =
    subst (λ (xs : List ℕ). Writes (xs ++ v.payload) c.args.out.now c.write_front.new.out c.write_front.result) c.header_bytes-header.ensures.spelled c.write_front.ensures in
    written_so (crf_spelling v) c.args.out.now c.write_front.new.out (λ bytes. (trail : List ℕ) → SpellsCrf (bytes ++ trail) (plain_crf v))
    c.write_front.result written (λ trail. crf_again v trail c.requires c.header_bytes-header.ensures.fits)
