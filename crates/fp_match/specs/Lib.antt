pub mod Prices
pub mod PriceLaws
pub mod Owners
pub mod OwnerLaws
pub mod Clashes
pub mod Chosen
pub mod Search
pub mod Matchers
