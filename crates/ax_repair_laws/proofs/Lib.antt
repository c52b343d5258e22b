mod Changing
mod Layers
mod Passing
mod Staying
mod Unchanged
mod Writable
