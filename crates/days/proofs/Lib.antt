-- Laws of days, of counting them, and of the choice between two lists.
pub mod DaysLaws
pub mod CountLaws
pub mod FewerDaysLaws
