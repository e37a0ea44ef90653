mod Layer
mod Places
