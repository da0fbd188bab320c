-- What a reader must believe.
pub mod Cells  -- cells and their records
pub mod Reading  -- rounds read
pub mod Bridge  -- what the judge holds, as the paper has it
-- How the code works it out: nothing to believe, each is proved to be one of the above.
pub mod ByRow  -- rows read one by one
