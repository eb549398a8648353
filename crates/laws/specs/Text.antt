-- Programs as text: the reader's steps, that it finds every reading and nothing else, that there is at most one, and what the calls promise.
pub mod Runs
pub mod AsProgram
