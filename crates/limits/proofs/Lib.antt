-- Laws about the definitions of specs/.
pub mod Parts  -- the parts of an acceptable setup are below n
pub mod Unique  -- the enum's case is told by the paper's algorithm
