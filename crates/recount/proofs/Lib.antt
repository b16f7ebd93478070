-- The lemmas of `recount`.
mod Name
