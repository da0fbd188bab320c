-- What a reader must believe.
pub mod Writing  -- rounds written from a matrix
