use Rattle.site_reader.proofs.Whole.{nothing}
use Rattle.site_reader.proofs.no_site.Goals as goal

pub returns : goal.returns
returns c = nothing _ _ c.rdfs_words.ensures c.blank_query-queries.ensures
