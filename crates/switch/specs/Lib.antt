-- What a reader must believe.
pub mod Switch  -- the two entries
