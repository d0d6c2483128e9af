-- Commands that are questions about forms.
use Rattle.std.proofs.Common.{List}
use Rattle.rp_language.specs.Expression.{Kind}
use Rattle.rp_model.specs.commands.Definition.{Entry, about_form, about_forms, own}

-- the command is a question about one expression or about two
abbrev pub IsAboutForms : {ks : List Kind} → Entry ks → Type 0
IsAboutForms (about_form q) = Unit {0}
IsAboutForms (about_forms q) = Unit {0}
IsAboutForms (own d) = ⊥
