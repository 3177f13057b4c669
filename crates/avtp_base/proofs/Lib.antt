pub mod BitLemmas
pub mod Results
pub mod RowLemmas
pub mod LayoutLemmas
pub mod OnlySpelling
pub mod Told
mod Filling
pub mod Files
pub mod HoldLemmas
