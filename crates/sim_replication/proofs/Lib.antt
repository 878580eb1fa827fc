pub mod ListsLoaded
pub mod UnderWay
pub mod FirstOnes
pub mod OneJump
pub mod OneRun
pub mod SomeJump
pub mod SomeRun
