pub mod Window
pub mod Same
