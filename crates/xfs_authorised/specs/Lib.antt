pub mod Authorised
