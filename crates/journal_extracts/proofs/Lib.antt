mod Later
mod Seen
