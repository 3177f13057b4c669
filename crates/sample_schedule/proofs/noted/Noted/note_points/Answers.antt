use Rattle.std.proofs.Common.{refl, [], ◌∷◌, ◌++◌}
use Rattle.clock_track.specs.Views.{row_of as row_of_points}
use Rattle.sample_schedule.specs.declared.entry.Entry.TheVariants.{Clock as OfClock}
use Rattle.sample_schedule.proofs.NotedLemmas.{clock-none, clock-some, notes-none, notes-row}
use Rattle.sample_schedule.proofs.noted.Noted.note_points.Goals as goal

pub returns-in-Some : goal.returns-in-Some
returns-in-Some c plan entries arrival h = notes-none plan entries (OfClock arrival (row_of_points c.args.points.now)) _ _ h refl refl
    (notes-row plan entries (OfClock arrival (row_of_points c.args.points.now)) (row_of_points c.args.points.now) _ _ (clock-some plan entries _ _ h.clock c.in-Some.is) refl c.note.ensures.noted c.note.ensures.shift)

pub returns-in-None : goal.returns-in-None
returns-in-None c plan entries arrival h = notes-none plan entries (OfClock arrival (row_of_points c.args.points.now)) _ _ h refl refl (clock-none plan entries (entries ++ OfClock arrival (row_of_points c.args.points.now) ∷ []) _ h.clock c.in-None.is)
