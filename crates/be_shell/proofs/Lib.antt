pub mod BreakLemmas
pub mod EscapeLemmas
pub mod LineLemmas
pub mod SaveLemmas
pub mod ScreenLemmas
pub mod TalkLemmas
pub mod WholeLemmas
