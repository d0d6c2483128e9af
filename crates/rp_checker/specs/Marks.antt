-- The mark with which a report of version 2 begins.
use Rattle.rp_language.specs.Grammar.{Version, one, two}
use Rattle.rp_reports.specs.Check.{Trail, taken}

-- the trail after the mark of a version; version 1 has no mark
abbrev pub behind_mark : Version → Trail → Trail
behind_mark one t = t
behind_mark two t = taken t
