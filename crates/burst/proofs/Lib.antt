pub mod Back
pub mod Lowest
pub mod Tests
