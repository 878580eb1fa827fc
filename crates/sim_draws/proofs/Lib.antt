pub mod NumberLists
pub mod Rounds
pub mod Runs
pub mod Limits
pub mod UsedNumbers
pub mod OneDraw
pub mod SomeDraw
