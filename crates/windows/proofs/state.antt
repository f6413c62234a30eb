pub mod Laws
pub mod StateWords
