-- What a reader must believe.
pub mod Sheet  -- the bench sheet's cases, and the test of what is answered to them
