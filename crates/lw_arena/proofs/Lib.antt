mod ByHand
mod Classes
mod Rooms
mod Taken
