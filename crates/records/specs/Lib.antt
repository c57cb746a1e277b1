pub mod Accounts
pub mod Codes
pub mod Orders
pub mod Ranges
pub mod Registers
pub mod Rows
