mod OperandLemmas
mod SpellLemmas
