pub mod Answers
pub mod Days
pub mod Joining
pub mod Lines
pub mod Settings
