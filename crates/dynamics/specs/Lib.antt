pub mod Frames
pub mod Motions
pub mod Weights
pub mod Run
pub mod Figures
pub mod Runs
pub mod Output
pub mod Same
