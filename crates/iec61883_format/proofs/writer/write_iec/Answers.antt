use Rattle.std.proofs.Common.{ℕ, List, ◌++◌, subst}
use Rattle.avtp_base.specs.Rows.{Writes}
use Rattle.avtp_base.proofs.RowLemmas.{written_so}
use Rattle.iec61883_format.specs.Iec.{Iec, SpellsIec, iec_shape, iec_spelling, plain_iec}
use Rattle.iec61883_format.proofs.IecLemmas.{iec_again}
use Rattle.iec61883_format.proofs.writer.write_iec.Goals as goal

pub returns-clause-read_back : goal.returns-clause-read_back
returns-clause-read_back c =
    let v : Iec = iec_shape c.args.view.now in
    let written : Writes (iec_spelling v) c.args.out.now c.write_front.new.out c.write_front.result =
    subst (λ (xs : List ℕ). Writes (xs ++ v.payload) c.args.out.now c.write_front.new.out c.write_front.result) c.whole_header-header.ensures.spelled c.write_front.ensures in
    written_so (iec_spelling v) c.args.out.now c.write_front.new.out (λ bytes. (trail : List ℕ) → SpellsIec (bytes ++ trail) (plain_iec v))
    c.write_front.result written (λ trail. iec_again v trail c.requires c.whole_header-header.ensures.fits)
