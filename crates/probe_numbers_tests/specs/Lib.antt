pub mod ListedNames
