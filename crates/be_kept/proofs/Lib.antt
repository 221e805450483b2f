mod Rows
mod Scanning
mod Opened
mod Histories
