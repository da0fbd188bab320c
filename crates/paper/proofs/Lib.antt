-- Laws about the definitions of specs/, and the paper's safety.

-- ---- counting, whatever the thresholds
-- what holds at each station holds of the sizes of sets
pub mod Counting
-- HO, SHO, AHO, R and Q against one another (Lemmas 1, 2, 3, 4 and 6)
pub mod Sets
-- what `smallest` finds
pub mod Smallest
-- how often values come, and which came most often
pub mod MostOften
-- ---- setups and thresholds: no other file looks at the inequalities, or at T and E as numbers
-- acceptable setups
pub mod Setups
-- counts that pass T, E, the bound, alpha
pub mod Thresholds
-- the values whose counts pass; one at most passes T, or E (Lemmas 2, 7 and 8)
pub mod Passing
-- ---- what the rules do
-- the station after a round, field by field
pub mod After
-- each rule told from outside
pub mod Pins
-- and by the number of the round
pub mod AtRounds
-- ---- safety
-- what a row with few altered cells tells its receiver
pub mod Receives
-- what one round of each kind leaves to the next (Lemmas 3, 4, 8 and 9)
pub mod OneRound
-- the numbers of a run's rounds
pub mod Rounds
-- agreement, the lock and integrity (Propositions 1, 2, 5 and 6), Lemmas 5, 8 and 9
pub mod Safety
-- the decision that is kept is the first firing's
pub mod Decisions
-- ---- what is stated of all runs is stated of something
-- there are runs of every length, and lawful ones
pub mod GoesOn
-- there are lawful runs in which all decide
pub mod Fires
-- the lock of A is as strong as it can be
pub mod Tight
