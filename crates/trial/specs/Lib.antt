-- One step of `trial`: definitions only.
pub mod OneCall
