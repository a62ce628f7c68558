mod Apart
mod Fills
mod Sizes
mod Values
