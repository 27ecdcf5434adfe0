mod Entries
mod Standing
