use Rattle.std.proofs.Common.{refl, sym}
use Rattle.sample_schedule.specs.declared.entry.Entry.TheVariants.{Item as OfItem}
use Rattle.sample_schedule.proofs.NotedLemmas.{notes-stamp, notes-item}
use Rattle.sample_schedule.proofs.noted.Noted.note_item.Goals as goal

pub returns-in-Some : goal.returns-in-Some
returns-in-Some c plan entries h = notes-stamp plan entries (OfItem c.args.item.now) c.in-Some.stamp _ _ h refl (sym c.in-Some.ensures.value) c.note.ensures.noted c.note.ensures.room refl

pub returns-in-None : goal.returns-in-None
returns-in-None c plan entries h = notes-item plan entries (OfItem c.args.item.now) _ h refl (sym c.in-None.ensures.value)
