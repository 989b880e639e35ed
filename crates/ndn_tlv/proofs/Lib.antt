pub mod Numbers
pub mod Fields
pub mod Integers
pub mod Singles
pub mod Lengths
pub mod Appending
