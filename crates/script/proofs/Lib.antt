pub mod ExampleLaws
pub mod FeedLaws
mod LengthLaws
mod LineLaws
pub mod OpeningLaws
mod OwnerLaws
pub mod RecordLaws
pub mod RoomLaws
pub mod RunLaws
pub mod ScriptLaws
pub mod SetUpLaws
pub mod StepLaws
