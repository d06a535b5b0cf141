mod Empty
mod OneSite
mod Words
