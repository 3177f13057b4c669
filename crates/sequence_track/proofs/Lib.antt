mod Streams
mod Noted
