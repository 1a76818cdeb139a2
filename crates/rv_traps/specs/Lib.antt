pub mod StatusFields
