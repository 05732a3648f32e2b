-- What the contracts of private functions cite.
pub mod Words
pub mod Walk
pub mod Bytes
pub mod Cursor
pub mod Header
pub mod Marks
pub mod Body
pub mod Parse
pub mod Form
