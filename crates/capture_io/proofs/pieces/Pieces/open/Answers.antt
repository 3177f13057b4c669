use Rattle.std.proofs.Common.{refl}
use Rattle.capture_io.proofs.Taking.{begins, opened_live, opened_named}
use Rattle.capture_io.proofs.pieces.Pieces.open.Goals as goal

pub returns : goal.returns
returns g c =
    let did = c.in_ok-slot.ensures.does in
    let count = did.reading in
    record {
      begun = λ files told. begins c.args.limit _ _ _ files _ did.opened told refl refl refl;
      nothing = (refl, refl);
      tries = record {
        opened = record {
          free = did.fresh;
          files = did.files;
          live = opened_live _ _ _ did.opened;
          named = λ told. opened_named _ _ _ did.opened told;
          others = did.others;
          reading = count.never_falls;
          writing = did.writing;
          asked = did.asked;
        };
        refused = tt;
        missing = λ e. absurd cc;
        counted = record { never_falls = count.never_falls; ok = count.ok; missing = λ e. absurd cc; memory = λ e. absurd cc; failed = λ e. absurd cc };
      };
    }
