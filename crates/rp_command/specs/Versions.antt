-- The versions of the code as those of the grammar.
use Rattle.rp_language.specs.Grammar.{Version as ModelVersion, one, two}
use Rattle.rp_command.specs.declared.version.Version.{Version}
use Rattle.rp_command.specs.declared.version.Version.TheVariants.{One, Two}

-- the version of the grammar
abbrev pub version_of : Version → ModelVersion
version_of One = one
version_of Two = two
