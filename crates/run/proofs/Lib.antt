-- Laws about the definitions of specs/.
pub mod Bytes  -- lists of bytes, joined and cut
pub mod Number  -- a number and its bytes
pub mod Records  -- a record, read and written
pub mod Written  -- records one after another
pub mod First  -- the lowest place at which a test is true
pub mod Filled  -- arrays filled from their start
pub mod Places  -- a test of every place, as a search for one that fails it
pub mod Replies  -- checks in a stated order
pub mod Unique  -- promises leave one answer
pub mod Blocks  -- blocks of records
pub mod Asked  -- what a branch taken tells of a definition
pub mod Heads  -- the two records that openings and images begin with
pub mod Starts  -- the starts end at n
pub mod Sound  -- the rules as tests and clause by clause
pub mod Built  -- runs as they are built
pub mod Openings  -- openings, accepted, read and written
pub mod Machines  -- runs read from bytes fit their types
pub mod Tapes  -- a tape's two parts
