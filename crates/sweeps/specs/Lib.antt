pub mod Kernels
pub mod Swept
