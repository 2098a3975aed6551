pub mod FormedSet
pub mod Steps
