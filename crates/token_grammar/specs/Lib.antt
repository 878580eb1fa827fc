pub mod Terminals
pub mod Languages
pub mod Cursors
pub mod SmallNames
pub mod Machines
