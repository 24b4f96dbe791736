pub mod Masks
pub mod MaskLaws
pub mod Numbers
