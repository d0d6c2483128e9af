pub mod ShortForms
