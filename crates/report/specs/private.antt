-- What the private functions of `report` go by.
pub mod Steps
