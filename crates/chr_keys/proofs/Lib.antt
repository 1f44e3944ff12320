pub mod IdLists
pub mod KeyedLists
pub mod Changes
pub mod KeyChanges
