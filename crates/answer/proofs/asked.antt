pub mod Laws
pub mod Numbers
