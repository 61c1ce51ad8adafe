-- how promotions begin and ask for chunks
pub mod Begins
-- how promotions gather chunks
pub mod Gathers
