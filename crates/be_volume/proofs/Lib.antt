pub mod FactLemmas
pub mod ItemLemmas
pub mod KeyLemmas
pub mod MapLemmas
pub mod RefusalLemmas
pub mod Soundness
pub mod StepLemmas
