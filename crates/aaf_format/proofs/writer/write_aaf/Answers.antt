use Rattle.std.proofs.Common.{ℕ, List, ◌++◌, ◌≡◌, ◌∙◌, Result, subst}
use Rattle.avtp_base.specs.declared.refusal.Room.{Room}
use Rattle.avtp_base.specs.Layout.{Fits, spelling}
use Rattle.avtp_base.specs.Rows.{Writes}
use Rattle.avtp_base.proofs.RowLemmas.{written_so}
use Rattle.aaf_format.specs.Aaf.{Aaf, SpellsAaf, aaf_layout, aaf_shape, aaf_spelling, plain_aaf}
use Rattle.aaf_format.proofs.AafLemmas.{aaf_again, fits_whole, same_spelling}
use Rattle.aaf_format.proofs.writer.write_aaf.Goals as goal

-- If the header bytes that the code wrote are the header's spelling, these bytes and the payload are the packet's
-- spelling.
respelled : (head spelled payload old new : List ℕ) (r : Result ℕ Room) → head ≡ spelled
    → Writes (head ++ payload) old new r → Writes (spelled ++ payload) old new r
respelled head spelled payload old new r e written = subst (λ (xs : List ℕ). Writes (xs ++ payload) old new r) e written

pub returns-clause-written : goal.returns-clause-written
returns-clause-written c =
    let v : Aaf = aaf_shape c.args.view.now in
    let fits : Fits aaf_layout v = fits_whole v c.format_data-samples.result c.format_flags-flags.result c.requires c.header_bytes-header.ensures.fits in
    let same = same_spelling v c.format_data-samples.result c.format_flags-flags.result fits c.format_data-samples.ensures c.format_flags-flags.ensures in
    respelled c.header_bytes-header.result (spelling aaf_layout v) v.payload c.args.out.now c.write_front.new.out c.write_front.result
    (c.header_bytes-header.ensures.spelled ∙ same) c.write_front.ensures

pub returns-clause-read_back : goal.returns-clause-read_back
returns-clause-read_back c =
    let v : Aaf = aaf_shape c.args.view.now in
    let fits : Fits aaf_layout v = fits_whole v c.format_data-samples.result c.format_flags-flags.result c.requires c.header_bytes-header.ensures.fits in
    let same = same_spelling v c.format_data-samples.result c.format_flags-flags.result fits c.format_data-samples.ensures c.format_flags-flags.ensures in
    let written : Writes (aaf_spelling v) c.args.out.now c.write_front.new.out c.write_front.result =
    respelled c.header_bytes-header.result (spelling aaf_layout v) v.payload c.args.out.now c.write_front.new.out c.write_front.result
    (c.header_bytes-header.ensures.spelled ∙ same) c.write_front.ensures in
    written_so (aaf_spelling v) c.args.out.now c.write_front.new.out (λ bytes. (trail : List ℕ) → SpellsAaf (bytes ++ trail) (plain_aaf v))
    c.write_front.result written (λ trail. aaf_again v trail c.requires fits)
