pub mod Basics
pub mod Texts
pub mod Items
pub mod Sound
pub mod Complete
pub mod Facts
