pub mod Accounts
pub mod Bounds
pub mod Entries
pub mod Known
pub mod Listed
pub mod Ledgers
pub mod Trying
pub mod Value
