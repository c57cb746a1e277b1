pub mod Changing
pub mod Placed
