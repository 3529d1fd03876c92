pub mod Laying
pub mod Lawful
pub mod Refusals
pub mod Shapes
