pub mod HeadGrammar
pub mod HeadSpans
pub mod Answers
