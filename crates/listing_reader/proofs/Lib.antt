mod Ending
mod Heading
mod Drafting
mod Refusing
mod Lining
