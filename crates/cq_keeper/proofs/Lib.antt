mod Acceptors
mod Leveling
mod Writing
