use Rattle.talked_presented.proofs.Examples.{blocks_fit, dense_fits, repeated_fits, sparse_fits, unit_fits, video_fits}
use Rattle.talked_presented.proofs.laws.examples_are_so.Goals as goal

pub returns-clause-dense : goal.returns-clause-dense
returns-clause-dense c = dense_fits

pub returns-clause-sparse : goal.returns-clause-sparse
returns-clause-sparse c = sparse_fits

pub returns-clause-am824 : goal.returns-clause-am824
returns-clause-am824 c = blocks_fit

pub returns-clause-h264 : goal.returns-clause-h264
returns-clause-h264 c = video_fits

pub returns-clause-repeated : goal.returns-clause-repeated
returns-clause-repeated c = repeated_fits

pub returns-clause-unit : goal.returns-clause-unit
returns-clause-unit c = unit_fits
