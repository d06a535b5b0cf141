mod Calls
mod Frames
mod Goes
mod Going
mod Initial
pub mod Laws
mod Making
mod NativesAnswers
mod NativesArrays
mod NativesBasics
mod NativesBoxes
mod NativesBuilders
mod NativesGo
mod NativesOutside
mod NativesTexts
mod Objects
mod StepsGo
mod Unwinding
