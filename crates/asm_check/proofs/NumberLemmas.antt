-- Free. The numbers of what is declared, and the signature.
pub mod BodyIndices
pub mod Domains
pub mod ElementNumbers
pub mod IndicesWhere
pub mod NameNumbers
pub mod NamesNumbered
pub mod Numbered
pub mod NumberedBodies
pub mod ShapeFits
pub mod SignatureNumbers
pub mod SoundShapes
pub mod UniversePositions
