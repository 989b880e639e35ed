mod Answering
mod Differences
mod Meanings
mod Reports
