-- No function that C calls asks anything, and each keeps the contract of the function of `exports` that it calls.
pub mod Asks
pub mod Same
