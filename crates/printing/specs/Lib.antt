pub mod Faults
pub mod Replies
pub mod Texts
