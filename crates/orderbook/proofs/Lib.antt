pub mod Chosen
pub mod Deciding
pub mod Meaning
