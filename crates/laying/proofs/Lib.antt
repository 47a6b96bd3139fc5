-- The laws of laying down.
pub mod Laying
