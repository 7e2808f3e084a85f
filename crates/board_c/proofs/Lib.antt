pub mod ExportLaws
pub mod FlatLaws
pub mod NumberLaws
