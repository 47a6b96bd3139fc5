-- The laws of the operations' replies.
pub mod Counted
pub mod Apart
