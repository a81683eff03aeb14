pub mod Confusions
