-- What the contracts cite.
pub mod TokenView
pub mod Pieces
