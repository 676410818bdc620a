pub mod Agree
pub mod Calls
pub mod Map
pub mod Runs
pub mod LentRuns
