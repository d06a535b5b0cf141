pub mod EnteredTexts
pub mod FirstPlaceLaws
pub mod Laws
pub mod NumberedItems
pub mod NumberedTexts
pub mod SignPlaces
pub mod SpelledTypes
pub mod TextKeys
