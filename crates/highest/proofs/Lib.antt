-- Laws of the highest species.
pub mod Bounds
