pub mod CodeLaws
pub mod KernelLaws
