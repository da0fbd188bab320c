-- The bench sheet, computed.
pub mod Sheet  -- every case is as the table has it
