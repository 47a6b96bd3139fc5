-- The contracts of the code, of the C functions and of the lines of `trial` are tied to the demands, and ask nothing; the three forms of what `shelf` prints.
pub mod Ties
pub mod Free
pub mod Forms
