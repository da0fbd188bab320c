-- What a reader must believe.
pub mod Play  -- a tape cut into rounds, and rounds taken in order
