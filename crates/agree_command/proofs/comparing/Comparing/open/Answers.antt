use Rattle.std.proofs.Common.{refl, sym, subst, ◌∙◌, arith}
use Rattle.std.specs.Prelude.{IsSome}
use Rattle.run_report.proofs.Files.{shown_before, shown_still}
use Rattle.agree_command.specs.state.Comparing.RefusesTwo.{second}
use Rattle.agree_command.proofs.TwoFiles.{refused_around, second_refused, both_closed, closes_both, opens_both, refused_memory, two_begun, given_kept}
use Rattle.agree_command.proofs.comparing.Comparing.open.Goals as goal

pub returns-in-Err : goal.returns-in-Err
returns-in-Err g c =
    let a = c.in_ok-a.ensures in
    let b = c.in-Err.ensures in
    record {
      told = tt;
      begun = tt;
      opened = tt;
      refused = second (λ files told. let x = a.begun files told in subst IsSome (sym x.1) refl) (second_refused a.tries.opened b.tries.refused c.close.ensures)
          (refused_around (g.F.Shelf.state c.args.shelf.now) (g.F.Shelf.state c.open.new.shelf) (g.F.Shelf.state c.open-2.new.shelf) (g.F.Shelf.state c.close.new.shelf) a.tries.opened.files a.tries.counted.ok c.close.ensures.reading b.tries.missing b.tries.counted);
    }

pub returns-in_default : goal.returns-in_default
returns-in_default g c =
    let a = c.in_ok-a.ensures in
    let b = c.in-Ok.ensures in
    let opens = opens_both a.tries.opened b.tries.opened a.tries.counted.ok b.tries.counted.ok in
    record {
      told = tt;
      begun = tt;
      opened = tt;
      refused = second (λ files told. let x = a.begun files told in subst IsSome (sym x.1) refl)
          (both_closed opens (two_begun _ _ _ opens.live) (closes_both _ _ opens.live c.close-in_default.ensures c.close-in_default-2.ensures))
          (refused_memory (g.F.Shelf.state c.args.shelf.now) (g.F.Shelf.state c.close-in_default-2.new.shelf) (c.close-in_default-2.ensures.reading ∙ c.close-in_default.ensures.reading ∙ opens.reading));
    }

pub returns : goal.returns
returns g c =
    let a = c.in_ok-a.ensures in
    let b = c.in-Ok.ensures in
    let opens = opens_both a.tries.opened b.tries.opened a.tries.counted.ok b.tries.counted.ok in
    let begun = c.in-Ok-begin.ensures in
    record {
      told = λ files told still.
          let x = a.begun files told in
          let mid = shown_still _ _ files told a.tries.opened.files (shown_before _ _ b.tries.opened.files still) in
          let y = b.begun mid.0 mid.1 in
          record {
            bytes_a = x.0;
            bytes_b = y.0;
            is_a = x.1;
            is_b = sym (mid.2 _) ∙ y.1;
            unread = record {
              plans = rw c.plan.ensures at begun.plan;
              given_a = given_kept (g.F.Shelf.state c.open.new.shelf) (g.F.Shelf.state c.open-2.new.shelf) (b.tries.opened.others _ opens.live.apart) x.2;
              given_b = y.2;
            };
          };
      begun = record {
        a = record { going = a.going.0; unended = refl; bounded = omega (arith, a.going.1, c.requires.limit); none = begun.none_a; listens = begun.going.0 };
        b = record { going = b.going.0; unended = refl; bounded = omega (arith, b.going.1, c.requires.limit); none = begun.none_b; listens = begun.going.1 };
        stands = begun.stands;
      };
      opened = opens;
      refused = tt;
    }
