use Rattle.std.proofs.Common.{refl}
use Rattle.site_reader.proofs.Whole.{words_or}
use Rattle.site_reader.proofs.some_words.Goals as goal

pub returns : goal.returns
returns c = rw c.unwrap_or.ensures (words_or _ _ _ c.rdfs_words.ensures refl _ c.words_line.ensures)
