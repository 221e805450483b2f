mod Made
mod Runs
mod Later
