-- Laws about the definitions of specs/.
pub mod Stations  -- what the run after a round holds of each station
pub mod After  -- the run after a round keeps the rules
pub mod Machines  -- and fits its machine types
pub mod Steps  -- what an accepted step says, and what a step leaves
pub mod Checks  -- the checks as the code makes them
pub mod Countings  -- the rows of a round, counted
pub mod Advances  -- the stations told one by one
