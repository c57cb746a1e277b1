pub mod Best
pub mod Opposites
pub mod Sequence
pub mod Tests
