-- What a reader must believe.
pub mod Setup  -- the setup as the judge holds it, and the paper's setup that it is
