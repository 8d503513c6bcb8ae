pub mod Tables
pub mod Words
pub mod Text
pub mod Seen
pub mod Sound
pub mod WordsError
