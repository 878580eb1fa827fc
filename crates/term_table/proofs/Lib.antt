pub mod Calling
pub mod Legal
