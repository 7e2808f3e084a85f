pub mod Edge
mod FieldsLaws
pub mod FirstFault
pub mod HeadLaws
pub mod Length
pub mod NumberLaws
pub mod OldLaws
pub mod OnlyForm
pub mod ReadBack
pub mod RecordCut
pub mod RecordOrder
pub mod Steps
pub mod WriteRules
pub mod WrittenLaws
