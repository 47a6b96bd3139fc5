-- Where a text is refused: definitions only. What is proved of them stands in `proofs/`.
pub mod Causes
pub mod LineColumns
pub mod NodePlaces
