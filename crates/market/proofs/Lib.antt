pub mod Entered
pub mod Grounded
pub mod Kept
pub mod Law
pub mod Made
pub mod Rows
pub mod Striking
