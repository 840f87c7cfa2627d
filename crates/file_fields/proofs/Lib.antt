-- Laws of the code's answers.
pub mod LayoutLaws
