-- What the contracts of the private functions say.
pub mod Printing
