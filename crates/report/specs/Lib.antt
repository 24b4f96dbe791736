pub mod Listing
pub mod Chunks
pub mod ChunkLaws
pub mod OutputLaws
