-- What a reader must believe.
pub mod Text  -- the listing's lines, and what it is to put one into a buffer
