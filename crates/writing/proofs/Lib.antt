-- Laws about the definitions of specs/.
pub mod Writings  -- the checks and the bytes of a round that is written
pub mod Rounds  -- rounds there and back
