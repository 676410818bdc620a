pub mod KernelLaws
pub mod OutwardLaws
