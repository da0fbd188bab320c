-- What a reader must believe: the 2007 paper as definitions, in the order in which it is read.
pub mod Stations  -- sets of stations and their sizes
pub mod Heard  -- messages, cells, HO, SHO, AHO, R and Q
pub mod Setup  -- T, E and alpha, and the inequalities
pub mod Rules  -- the two algorithms, line by line
pub mod Run  -- runs and the safety predicates
pub mod Safety  -- what is proved of runs
