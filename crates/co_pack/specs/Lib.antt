-- The definitions that the contracts of the crate cite.
pub mod Packing
pub mod Rooms
pub mod Records
pub mod RecordFaults
