use Rattle.roster_values.proofs.Bytes.{word_test}
use Rattle.roster_values.proofs.word_over_three.Goals as goal

pub returns : goal.returns
returns c = word_test _
