-- Document 01's [P] cases: read Cases; the theorem is `every_case` of proofs/Table. A grid's refusals: Grids, and `every_grid` of proofs/Grids.
-- Document 02's equal grids: Equal, and `every_equal` of proofs/Equal; its lengths: Lengths, and `every_length` of proofs/Lengths.
pub mod Cases
pub mod Grids
pub mod Equal
pub mod Lengths
