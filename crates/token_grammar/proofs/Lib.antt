pub mod Spelled
pub mod Places
pub mod Runs
pub mod GoingOn
