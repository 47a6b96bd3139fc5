-- What is laid into lent numbers: definitions only.
pub mod Codes
