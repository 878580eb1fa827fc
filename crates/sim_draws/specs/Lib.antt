pub mod Numbers
pub mod Streams
pub mod Listed
pub mod ExponentialDraw
pub mod FairDraw
