pub mod ModelText
pub mod KnownBodies
