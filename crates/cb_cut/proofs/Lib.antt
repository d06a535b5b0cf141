mod Faulty
mod Gained
