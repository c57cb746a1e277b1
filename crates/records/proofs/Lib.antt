pub mod Deciding
pub mod Numbered
