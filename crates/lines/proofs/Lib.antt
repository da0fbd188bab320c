-- Laws about the definitions of specs/.
pub mod Putting  -- texts put one after the other, and how long they are
pub mod Decimal  -- numbers are decimal, without leading zeros
