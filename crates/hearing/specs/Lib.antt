-- What a reader must believe.
pub mod Masks  -- a set as a number, a station to a bit
pub mod Survey  -- HO and SHO of every receiver
pub mod Tally  -- how often values came in a row
-- How the code works it out: nothing to believe, each is proved to be one of the above.
pub mod Surveying  -- rows and what was to be sent, as arrays
pub mod Counting  -- a row counted value by value
