pub mod Ends
pub mod HeavyLemmas
pub mod Held
pub mod SettledCauses
pub mod StartAnswers
