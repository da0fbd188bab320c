-- Laws about the definitions of specs/.
pub mod Turns  -- checks made in turn
pub mod Rows  -- a row read record by record
pub mod Matrices  -- the matrix, and the records that fill it
pub mod Readings  -- the checks of a round that is read, and what each outcome gives
pub mod Places  -- a record's number, receiver and sender
pub mod Spelling  -- a cell and its record spell each other
