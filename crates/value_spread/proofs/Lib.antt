mod Buckets
mod Widening
mod Counting
mod Spreads
