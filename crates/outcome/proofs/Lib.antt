-- Laws about the definitions of specs/.
pub mod Outcomes  -- an outcome told from a count is the one of the paper's rules
