-- The definitions.
pub mod OptionUses
pub mod OptionTable
pub mod CommandWords
pub mod OptionsApp
pub mod HyphenTest
