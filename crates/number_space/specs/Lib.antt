pub mod NumberedStates
pub mod GrowingLists
