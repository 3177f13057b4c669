use Rattle.std.proofs.Common.{arith}
use Rattle.avtp_base.proofs.BitLemmas.{flag-below}
use Rattle.avtp_header.proofs.writer.header_bytes.Goals as goal

pub returns-clause-fits : goal.returns-clause-fits
returns-clause-fits c =
    let h = c.args.header.now in (
      (omega arith, tt),
      (
        (flag-below h.sv, (omega arith, (flag-below h.mr, (omega arith, (flag-below h.tv, tt))))),
        (
          (omega arith, tt),
          (
            (omega arith, (flag-below h.tu, tt)),
            (
              (omega arith, tt),
              (
                (omega arith, tt),
                (
                  (omega arith, tt),
                  (
                    (omega arith, tt),
                    ((omega arith, tt), tt),
                  ),
                ),
              ),
            ),
          ),
        ),
      ),
    )
