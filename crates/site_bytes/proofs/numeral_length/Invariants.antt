use Rattle.site_bytes.proofs.Numerals.{Counting}
use Rattle.site_bytes.proofs.numeral_length.Given as goal

abbrev pub invariant-loop-rest : goal.invariant-loop-rest
invariant-loop-rest l = Counting l.v l.count l.rest

abbrev pub decreases-loop-rest : goal.decreases-loop-rest
decreases-loop-rest l = l.rest
