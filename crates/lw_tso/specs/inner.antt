-- Definitions for the code's own processors and store buffers. No public call cites them.
pub mod Buffers
pub mod Views
pub mod BufferCapacity
