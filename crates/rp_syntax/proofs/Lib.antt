mod MadeLemmas
mod NumberLemmas
mod ManyLemmas
mod ReadLemmas
mod WordLemmas
