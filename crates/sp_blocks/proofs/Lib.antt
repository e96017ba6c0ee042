pub mod Same
pub mod Firsts
pub mod OneMore
pub mod Finding
pub mod Placed
