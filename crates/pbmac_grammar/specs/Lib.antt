pub mod Pbmac1
