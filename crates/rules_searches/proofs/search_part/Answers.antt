-- `rules_searches::search_part` meets its contract: the parts of the buffers that are lent are
-- those after the rules before. Assumes nothing.
use Rattle.rules_searches.proofs.Parts.{searched_part}
use Rattle.rules_searches.proofs.search_part.Goals as goal

pub returns : goal.returns
returns c = searched_part _ _ _ _ _ c.search_within.ensures
