-- Batches of the shape that a scan found.
use Rattle.std.specs.Prelude.{◌≡◌, true, Option, Some, None}
use Rattle.sample_schedule.specs.Batches.{Presented}
use Rattle.am824_gateway.specs.declared.scan.Shape.{Shape}
use Rattle.am824_gateway.specs.declared.scan.To.{To}
use Rattle.am824_gateway.specs.Pieces.{has_shape}

-- the batch has the shape of the stream; if the stream has no shape, there is no batch
abbrev pub IsShapedAs : To → Option Shape → Presented → Type 0
IsShapedAs to None batch = ⊥
IsShapedAs to (Some shape) batch = has_shape to shape batch ≡ true
