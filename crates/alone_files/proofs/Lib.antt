mod Blocks
mod Given
