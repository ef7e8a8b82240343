pub mod Converse
pub mod Fronts
pub mod Immediate
mod Left
mod Lists
pub mod Once
pub mod Parts
