-- What a reader must believe.
pub mod Outcome  -- what the paper's rules make of a station
-- How the code works it out: nothing to believe, each is proved to be one of the above.
pub mod Told  -- the same told from the count of the station's row
