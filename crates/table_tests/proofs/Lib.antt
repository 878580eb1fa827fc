pub mod OneCall
pub mod LastPass
