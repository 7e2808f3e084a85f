pub mod AnnouncingLaws
pub mod AskedLaws
pub mod DecisionLaws
pub mod LentLaws
pub mod ListingLaws
pub mod PolicyLaws
