mod PageSets
mod FreePages
mod Pools
mod Rooms
mod Marks
