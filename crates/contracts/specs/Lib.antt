-- Contracts, as the kit has them of the source: definitions only.
pub mod AnyCall
