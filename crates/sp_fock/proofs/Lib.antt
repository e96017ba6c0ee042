mod Search
mod Adding
mod Growing
mod Tallies
mod Rows
