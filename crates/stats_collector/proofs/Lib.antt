mod Multiples
mod Counting
