-- The definitions that the contracts of `stand_ins` cite.
pub mod StandIns
