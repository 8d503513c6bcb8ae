pub mod Taking
pub mod Zeros
pub mod Joined
pub mod BodyLeft
pub mod AdmittedFit
pub mod WholeCode
mod BlockCount
mod ItemBytes
pub mod Parts
mod Results
mod Sizing
mod RowLaws
pub mod DataWords
mod CodeBytes
mod Forms
pub mod LeanBytes
