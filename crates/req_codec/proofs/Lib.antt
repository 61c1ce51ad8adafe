pub mod FieldLaws
pub mod OpLaws
pub mod Vectors
pub mod ReqLaws
