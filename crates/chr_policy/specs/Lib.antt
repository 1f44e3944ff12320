pub mod Standing
pub mod CoordinatorView
