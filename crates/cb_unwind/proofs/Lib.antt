pub mod BegunLaws
pub mod InitLaws
pub mod Laws
mod NumberLaws
mod OwnSlots
mod Places
mod StringLaws
pub mod UnwoundSteps
mod WrapLaws
