-- What a reader must believe: the bytes, the run and its rules, and openings.
pub mod Number  -- numbers in bytes
pub mod Bytes  -- what a slice of bytes holds
pub mod Kinds  -- the kinds of records
pub mod Record  -- records of 8 bytes
pub mod Written  -- records one after another
pub mod First  -- the lowest place at fault
pub mod Filled  -- arrays filled from their start
pub mod Reply  -- the replies, and checks in a stated order
pub mod Run  -- the run and its rules, as tests
pub mod Keeps  -- the same rules, clause by clause
pub mod Machine  -- a run as the code holds it
pub mod Block  -- blocks of records
pub mod Opening  -- openings, read and written
pub mod Opens  -- which openings are accepted, and the run that they give
pub mod Tape  -- a tape's two parts
-- How the code works it out: nothing to believe, each is proved to be one of the above.
pub mod Putting  -- records put into bytes one by one
