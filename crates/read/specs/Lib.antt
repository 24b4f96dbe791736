pub mod Paper
pub mod Mirror
pub mod Refuses
pub mod Laws
pub mod Answering
pub mod Promises
