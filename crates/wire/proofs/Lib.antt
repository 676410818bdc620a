pub mod PlacedLaws
pub mod BytesLaws
pub mod StandsLaws
