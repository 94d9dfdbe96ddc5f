pub mod Codes
pub mod Kernels
