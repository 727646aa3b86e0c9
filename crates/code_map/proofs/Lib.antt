mod Unrecognised
mod Named
