pub mod Naming
pub mod OfferLaws
