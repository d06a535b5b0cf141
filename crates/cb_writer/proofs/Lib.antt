mod Blocks
mod Bodies
mod Classes
mod Finding
mod FrameParts
mod Members
mod Once
mod Spelling
