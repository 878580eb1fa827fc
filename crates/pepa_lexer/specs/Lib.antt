pub mod Bytes
pub mod Signs
pub mod Lexemes
pub mod TokenLists
pub mod Faults
pub mod Scans
pub mod TokenTexts
pub mod AtMost
