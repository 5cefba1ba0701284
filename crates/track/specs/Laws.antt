pub mod Track
