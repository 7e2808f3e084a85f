pub mod DigitLaws
pub mod ExampleLaws
pub mod FeedLaws
pub mod LengthLaws
pub mod PlaceLaws
pub mod SignLaws
mod TextLaws
