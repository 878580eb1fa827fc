pub mod RateText
pub mod ComponentText
pub mod SetText
pub mod SystemText
