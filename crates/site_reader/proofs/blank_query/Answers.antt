use lib.ListN.{replicate}
use Rattle.site_form.specs.Reading.{query_of}
use Rattle.site_reader.proofs.blank_query.Goals as goal

pub returns : goal.returns
unfolding query_of
returns c = λ i. record { patterns = replicate 8 (c.blank_pattern-patterns.ensures i); count = 0 }
