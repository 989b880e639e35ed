pub mod Show
pub mod Meaning
pub mod Dataset
pub mod Segment
pub mod TagCheck
pub mod Explain
pub mod Reply
pub mod Input
