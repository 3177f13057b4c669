pub mod ShownTo
pub mod HearingTo
