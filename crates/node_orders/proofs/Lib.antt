pub mod Elements
pub mod Marks
pub mod Reaching
pub mod Falling
pub mod ByRank
pub mod EdgeLists
pub mod AlongOrders
