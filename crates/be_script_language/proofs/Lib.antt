pub mod ValueLemmas
pub mod WordLemmas
