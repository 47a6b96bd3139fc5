-- Laws of the lines that calls get.
pub mod Chosen
