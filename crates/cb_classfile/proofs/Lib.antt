pub mod Answering
pub mod Blocks
pub mod Bodies
pub mod BodyParts
pub mod ClassParts
pub mod Classes
mod Distinct
mod Facts
pub mod Failing
pub mod Finding
mod First
pub mod Framing
pub mod Fronts
mod Indices
pub mod HandlerParts
pub mod MemberParts
pub mod Members
mod Numbering
pub mod OneBody
pub mod OneClass
pub mod OneFrame
pub mod OneItem
pub mod OneMember
pub mod Pairs
pub mod Sequence
pub mod Tabling
pub mod Words
pub mod Canonical
pub mod CanonicalClass
pub mod CanonicalFrames
pub mod CanonicalMembers
pub mod Laws
pub mod LeastIndex
pub mod OneAttribute
pub mod FormedTables
pub mod FormedBodies
pub mod FormedMembers
pub mod FormedClasses
