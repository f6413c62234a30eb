pub mod Parts
pub mod search_parts
pub mod charged_search
