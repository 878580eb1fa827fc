pub mod RunLists
pub mod OneOutcome
pub mod SomeOutcome
pub mod FewPassages
