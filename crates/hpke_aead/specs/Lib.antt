pub mod Aeads
