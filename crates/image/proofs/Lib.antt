-- Laws about the definitions of specs/.
pub mod Blocks  -- blocks one behind the other
pub mod Images  -- saving and loading, as the code goes
pub mod Loaded  -- the run of an accepted image
pub mod Saved  -- a sound run's image, loaded again
pub mod Spelled  -- one image byte by byte
