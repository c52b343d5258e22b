pub mod Shifter
