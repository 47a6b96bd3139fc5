-- The laws of putting a tree in house order.
pub mod InTurn
