pub mod ReadingLaws
pub mod RefusalLaws
mod Steps
pub mod WritingLaws
