pub mod Answers
pub mod Clerks
pub mod Ends
pub mod Fronts
pub mod Courses
