pub mod TransitionLists
pub mod OneList
pub mod ModelLaws
pub mod DistinctLeaves
pub mod LeafLookup
