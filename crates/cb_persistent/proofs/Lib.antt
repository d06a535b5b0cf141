mod Balance
mod Places
