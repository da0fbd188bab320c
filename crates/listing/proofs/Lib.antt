-- Laws about what the program holds.
pub mod Runs  -- rounds fit their buffer, and those that may still be offered grow fewer
