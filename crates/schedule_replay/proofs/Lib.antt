mod BoundLemmas
mod Line
mod ScheduleLemmas
mod NumberLemmas
mod TextLemmas
