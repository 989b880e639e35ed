mod Keeping
mod EmptyNodes
