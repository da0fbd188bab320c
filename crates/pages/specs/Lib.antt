-- What a reader must believe.
pub mod Listing  -- what is printed for a tape, as one definition over its bytes
-- How the code works it out.
pub mod Pages  -- the listing line by line, as the calls put it, and what a call promises
