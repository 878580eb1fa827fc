pub mod Watching
pub mod TableHearing
