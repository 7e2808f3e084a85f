pub mod AnswerLaws
mod ByteLaws
mod DecisionSteps
pub mod ExampleLaws
mod HeldSteps
mod LengthLaws
pub mod MostLaws
mod ReachLaws
mod ReachingSteps
mod RecordSteps
mod RecordsBack
pub mod RestoredLaws
mod SoundCalls
mod TablingSteps
mod Templates
mod TypedCalls
pub mod UnreachedLaws
mod WritingSteps
