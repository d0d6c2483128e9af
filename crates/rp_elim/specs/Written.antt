-- The terms that a search has stored.
use Rattle.std.specs.Prelude.{Bool, true, false, List, Option, Some, None}
use Rattle.rp_geometry.specs.searches.Certificate.{Multiple}

-- the terms, if the search has found some
abbrev pub if_found : Bool → List Multiple → Option (List Multiple)
if_found true terms = Some terms
if_found false terms = None
