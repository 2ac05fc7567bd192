mod Renumbered
mod Deciding
mod Taking
mod Easing
mod Writing
mod Shorter
mod Ending
