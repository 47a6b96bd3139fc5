-- Laws of how a call is written.
mod Written
pub mod Apart
