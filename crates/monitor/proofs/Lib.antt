pub mod CertificateLaws
pub mod ChoiceLaws
mod EarliestLaws
pub mod ExampleRows
pub mod HalfwayLaws
pub mod NumberLaws
pub mod RefusalLaws
pub mod RefusedLaws
pub mod StrayLaws
mod TrackedLaws
mod WatchLaws
mod WatchingLaws
