pub mod Framing
pub mod StepByStep
