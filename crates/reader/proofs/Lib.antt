mod Answers
mod Readers
mod Steps
