-- How many pages trees with a given number of pairs have, and how many pages a write holds.
pub mod Trees
pub mod InHand
pub mod Refusals
pub mod Paths
