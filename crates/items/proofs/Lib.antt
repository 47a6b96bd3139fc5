-- The laws of the items.
pub mod Items
