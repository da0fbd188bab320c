-- Laws about the definitions of specs/.
pub mod Masks  -- masks and sets, over the number of stations
pub mod Downward  -- masks and arrays that are filled from the highest place down
pub mod Hearing  -- HO, SHO and AHO as masks, and what was to be sent as arrays
pub mod Counts  -- a row counted value by value
pub mod Leads  -- the most frequent value, and the smallest that came often enough, with one more value
pub mod Tallies  -- what a tally tells of the rules' answers
pub mod Surveyed  -- the sets of rows are the survey's
