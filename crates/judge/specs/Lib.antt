-- What a reader must believe.
pub mod Step  -- taking one round
-- How the code works it out: nothing to believe, each is proved to be one of the above.
pub mod Rows  -- the rows of a round, each read once
pub mod Taking  -- the checks made of masks, and the stations told one by one
