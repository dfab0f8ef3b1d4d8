pub mod HasWords
