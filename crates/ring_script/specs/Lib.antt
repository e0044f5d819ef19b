pub mod Lines
pub mod LineForms
pub mod Grammar
pub mod Plans
pub mod Drafts
pub mod Scripts
pub mod TraceText
pub mod Steps
