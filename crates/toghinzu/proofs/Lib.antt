mod Answers
mod Told
