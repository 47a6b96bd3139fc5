-- The laws of refusals and replies.
pub mod Numbers
pub mod Replying
