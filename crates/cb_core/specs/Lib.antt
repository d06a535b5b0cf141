pub mod Built
pub mod Entered
pub mod Recorded
pub mod Rowed
pub mod Sound
-- what the public clauses cite of the crates below
pub use Rattle.cb_classfile.specs.Library
pub use Rattle.cb_library.specs.CoreClasses
