use Rattle.std.proofs.Common.{◌≡◌, true, false}
use Rattle.avtp_words.proofs.talk.Kind.fits_options.Goals as goal
use Rattle.avtp_words.proofs.talk.Kind.fits_options.Goals.{then-has_options, else-has_options}

pub returns-then-have_needed : goal.returns-then-have_needed
returns-then-have_needed c = elim c.if-has_options.branch [
  | then-has_options w ↦ (
      let second : w.have_needed.result ≡ true = cc in (
        (λ yes. record { kind_has = c.has_options.ensures.0 w.if-has_options.true; restart = w.have_needed.ensures.0 second; clock = c.have_needed-then-have_needed.ensures.0 yes }),
        λ fits. c.have_needed-then-have_needed.ensures.1 fits.clock,
      ))
  | else-has_options w ↦ absurd (let no : false ≡ true = cc in cc)
]
