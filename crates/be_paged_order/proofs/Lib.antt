mod Orders
mod WalkedKeys
mod WayKeys
