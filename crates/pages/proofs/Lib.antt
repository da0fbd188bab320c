-- Laws about the definitions of specs/.
pub mod Paged  -- a page, by what the code tells of it, and the run that goes on
pub mod Cutting  -- no piece of a tape is empty or left out
pub mod Whole  -- a tape's pages are the lines of its listing
pub mod Buffered  -- the calls in one buffer: what then stands there is the listing
pub mod Listings  -- refused and empty tapes, and how many lines there are
pub mod Printed  -- the example of rule 14.7, computed
