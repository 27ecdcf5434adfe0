pub mod FurtherOrders
pub mod Marks
pub mod Scores
pub mod Choices
pub mod MovedQueries
pub mod KeptPlaces
