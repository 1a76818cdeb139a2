pub mod ToolForms
pub mod HasForm
pub mod ToolCommand
pub mod ToolRequest
