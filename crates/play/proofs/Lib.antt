-- Laws about the definitions of specs/.
pub mod Cuts  -- a tape cut into rounds
pub mod Folds  -- rounds taken in order
pub mod Awaited  -- the kind of the round that a run waits for
pub mod Tapes  -- a tape taken round by round
pub mod Parts  -- a tape taken some rounds at a time
pub mod Plays  -- what playing answers, and two parts joined
