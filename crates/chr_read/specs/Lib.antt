pub mod Automaton
pub mod SyntaxView
pub mod Reads
pub mod Parts
pub mod ErrorText
pub mod Refusals
