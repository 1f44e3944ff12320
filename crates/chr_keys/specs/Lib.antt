pub mod SymbolKeys
pub mod IdSets
pub mod Keyed
pub mod Lists
pub mod Changes
pub mod KeyChangeView
pub mod PendingKeysView
pub mod PendingValue
