-- The laws of the walk over a node's children in house order.
pub mod Left
pub mod Ready
pub mod Walk
