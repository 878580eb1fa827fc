pub mod Stops
pub mod Choices
pub mod LoadedLists
pub mod SpaceAnswers
