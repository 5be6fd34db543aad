pub mod FrontLemmas
pub mod TokenLaws
pub mod Turns
pub mod NestLaws
pub mod Sizes
