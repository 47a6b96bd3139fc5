-- What is written for a call: definitions only.
pub mod Made
