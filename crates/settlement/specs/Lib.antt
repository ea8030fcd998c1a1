pub mod Awards
