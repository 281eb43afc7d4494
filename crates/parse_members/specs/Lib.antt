pub mod Into
