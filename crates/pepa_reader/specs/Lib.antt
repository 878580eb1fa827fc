pub mod Grammar
pub mod Trees
pub mod FileAnswers
pub mod Machine
pub mod Reading
pub mod ItemReading
