-- The laws and theorems of `packed`.
pub mod NibbleLaws
pub mod DigitLaws
pub mod FormLaws
pub mod FieldLaws
pub mod PartLaws
pub mod FieldTheorems
pub mod RecordTheorems
