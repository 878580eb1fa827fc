pub mod MadeModel
