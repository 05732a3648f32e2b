-- The laws of src/visit.rt.
pub mod StoreLaws
pub mod SpotLaws
pub mod ScanAtLaws
pub mod MoveLaws
pub mod SeekLaws
