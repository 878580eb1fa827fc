pub mod Cycles
pub mod Graphs
pub mod Marking
pub mod Ranks
pub mod RankLists
