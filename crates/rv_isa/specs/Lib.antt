pub mod Field
pub mod Ins
pub mod Kind
pub mod Regs
pub mod Operation
