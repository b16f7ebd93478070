-- What the display shows of a card whose cells are whole multiples of 2 ^ -s. The theorem is `display` of proofs/Theorem.
pub mod Display
