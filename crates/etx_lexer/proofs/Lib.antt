pub mod Bare
pub mod Classes
pub mod EndCharacters
pub mod Ends
pub mod FirstLines
pub mod Firsts
pub mod Laws
mod OneLine
pub mod Shorter
pub mod Texts
pub mod Walks
pub mod Words
