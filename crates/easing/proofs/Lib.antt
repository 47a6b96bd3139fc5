-- The laws of the turns of loosening.
pub mod Found
pub mod Going
pub mod Eased
