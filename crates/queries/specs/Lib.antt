pub mod Query
