pub mod FieldLaws
pub mod RegsLaws
pub mod OperationLaws
