use Rattle.std.proofs.Common.{◌≡◌, All, length}
use Rattle.time_unfold.specs.Limits.{IsStamp}
use Rattle.time_unfold.specs.Stamps.{find_last, fits}
use Rattle.time_unfold.proofs.head.last_fit.Given as goal

-- the result is found among the stamps `rest`
abbrev pub invariant-loop-last : goal.invariant-loop-last
invariant-loop-last l = record {
  stamps : All IsStamp l.rest;
  same : find_last (fits l.want) l.rest ≡ find_last (fits l.fn.want) l.fn.stamps;
}

abbrev pub decreases-loop-last : goal.decreases-loop-last
decreases-loop-last l = length l.rest
