pub mod Firsts
pub mod Cuts
pub mod Steps
pub mod Heads
pub mod Finals
