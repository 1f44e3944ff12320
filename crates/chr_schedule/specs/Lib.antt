-- What the contracts cite.
pub mod EventView
pub mod ErrorView
pub mod LineView
pub mod Numbers
pub mod Parts
