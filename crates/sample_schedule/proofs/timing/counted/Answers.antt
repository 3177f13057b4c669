-- The answer of the code's clock is the one that follows from all noted clock packets.
use Rattle.std.proofs.Common.{◌≡◌, ℕ, ◌*◌, ℤ, ◌+ℤ◌, ◌≤ℤ◌, ◌<ℤ◌, pos, neg_ℤ, List, Ok, ap, sym, subst, ◌∙◌, arith, w64, to_z, of_z}
use Rattle.std.proofs.lemmas.Int.{ints}
use Rattle.clock_track.specs.declared.clock_row.ClockRow.{ClockRow}
use Rattle.clock_track.specs.Limits.{IsClockLine}
use Rattle.clock_track.specs.Rows.{clock_spot}
use Rattle.sample_schedule.specs.Batches.{IsPresentable}
use Rattle.sample_schedule.specs.Verdicts.{samples_at}
use Rattle.sample_schedule.proofs.ClockLemmas.{by-clock, without-clock}
use Rattle.sample_schedule.proofs.Presentable.{counted_presentable, nominal-same, presentable-clock}
use Rattle.sample_schedule.proofs.timing.counted.Goals as goal

pub samples_on-requires : goal.samples_on-requires
samples_on-requires c =
    let base : to_z w64 (of_z w64 c.args.head.now.instant) ≡ c.args.head.now.instant = omega (arith, ints) in
    let first : to_z w64 (of_z w64 c.args.head.now.first) ≡ c.args.head.now.first = omega (arith, ints) in
    counted_presentable c.args.packet c.args.head.now _ _ _ base c.from.ensures first c.requires.samples c.requires.countable

pub returns-in-None : goal.returns-in-None
returns-in-None c clock plan prefix asks h =
    let base : to_z w64 (of_z w64 c.args.head.now.instant) ≡ c.args.head.now.instant = omega (arith, ints) in
    let first : to_z w64 (of_z w64 c.args.head.now.first) ≡ c.args.head.now.first = omega (arith, ints) in
    ap Ok (c.samples_on.ensures ∙ nominal-same c.args.packet c.args.head.now _ _ _ base c.from.ensures first)
    ∙ without-clock clock plan prefix _ c.args.packet c.args.head.now h c.in-None.is

-- the sum of `number` and `first` fits 64 bits
sum_is : (number : ℕ) (first : ℤ) → pos number <ℤ pos 65535 → neg_ℤ (pos 65535) ≤ℤ first → first ≤ℤ pos (7 * 65535) → to_z w64 (of_z w64 (to_z w64 number +ℤ to_z w64 (of_z w64 first))) ≡ pos number +ℤ first
sum_is number first to first_from first_to = omega (arith, ints)

pub samples_on-requires-in-OnLine : goal.samples_on-requires-in-OnLine
samples_on-requires-in-OnLine c =
    let instant : to_z w64 (of_z w64 c.args.head.now.instant) ≡ c.args.head.now.instant = omega (arith, ints) in
    let line : IsClockLine c.args.packet.rate c.args.head.now.instant (record { line = c.in-OnLine.line; from = pos c.in-OnLine.offset }) = rw instant at c.in-OnLine.ensures.line in
    let sum = sum_is c.in-OnLine.offset c.args.head.now.first line.to c.requires.countable.first_from c.requires.countable.first_to in
    subst (λ (z : ℤ). IsPresentable (samples_at c.args.packet (record { line = c.in-OnLine.line; from = z }))) (sym sum)
    (presentable-clock c.args.packet c.args.head.now _ c.requires.samples.packet c.requires.samples.some c.requires.countable line)

pub returns-in-OnLine : goal.returns-in-OnLine
returns-in-OnLine c clock plan prefix asks h =
    let instant : to_z w64 (of_z w64 c.args.head.now.instant) ≡ c.args.head.now.instant = omega (arith, ints) in
    let line : IsClockLine c.args.packet.rate c.args.head.now.instant (record { line = c.in-OnLine.line; from = pos c.in-OnLine.offset }) = rw instant at c.in-OnLine.ensures.line in
    let sum = sum_is c.in-OnLine.offset c.args.head.now.first line.to c.requires.countable.first_from c.requires.countable.first_to in
    ap Ok (c.samples_on-in-OnLine.ensures ∙ ap (λ (z : ℤ). samples_at c.args.packet (record { line = c.in-OnLine.line; from = z })) sum)
    ∙ by-clock clock plan prefix _ c.in-Some.clock c.args.packet c.args.head.now _ asks h c.in-Some.is
    (λ (rows : List ClockRow). λ noted. c.in-OnLine.ensures.value rows noted ∙ ap (λ (z : ℤ). clock_spot rows c.in-Some.clock.shift z c.args.packet.rate) instant)

pub returns-in-NoClock : goal.returns-in-NoClock
returns-in-NoClock c clock plan prefix asks h =
    let instant : to_z w64 (of_z w64 c.args.head.now.instant) ≡ c.args.head.now.instant = omega (arith, ints) in
    by-clock clock plan prefix _ c.in-Some.clock c.args.packet c.args.head.now _ asks h c.in-Some.is
    (λ (rows : List ClockRow). λ noted. c.in-NoClock.ensures.value rows noted ∙ ap (λ (z : ℤ). clock_spot rows c.in-Some.clock.shift z c.args.packet.rate) instant)
