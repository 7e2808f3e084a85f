pub mod AnswerLaws
pub mod ChoiceLaws
pub mod FitLaws
pub mod FitRules
mod FitSteps
pub mod KeptLaws
pub mod NextLaws
mod OffsetSteps
pub mod OrderLaws
pub mod ReachLaws
mod SettledSteps
pub mod StateLaws
mod StateSteps
pub mod TallyLaws
pub mod TallySteps
