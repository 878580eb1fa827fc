pub mod FirstTerms
pub mod SystemLeaves
