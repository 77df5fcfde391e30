pub mod NullAnswers
