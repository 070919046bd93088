pub mod Strata
