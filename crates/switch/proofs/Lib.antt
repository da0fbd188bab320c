-- Laws about the definitions of specs/.
pub mod Calls  -- the two calls, as the code goes
pub mod Switch  -- answers as one number, and images that load again
