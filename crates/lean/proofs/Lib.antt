pub mod Weave
mod BodySteps
mod Counting
mod Finding
mod Forms
mod Leaves
mod Pieces
mod Owned
