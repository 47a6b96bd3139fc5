-- Laws of what is written for a call.
pub mod Made
