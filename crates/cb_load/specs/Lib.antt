pub mod Closure
pub mod Examples
pub mod Files
pub mod Inner
pub mod InnerEntering
pub mod InnerTurns
pub mod InnerUses
pub mod Linking
pub mod Loading
pub mod Names
-- what the public clauses cite of the crates below
pub use Rattle.cb_classfile.specs.Library
pub use Rattle.cb_io.specs.Faults
pub use Rattle.cb_io.specs.Folder
