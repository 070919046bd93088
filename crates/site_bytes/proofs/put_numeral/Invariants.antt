use Rattle.site_bytes.proofs.Numerals.{Numbering}
use Rattle.site_bytes.proofs.put_numeral.Given as goal

abbrev pub invariant-loop-rest : goal.invariant-loop-rest
invariant-loop-rest l = Numbering l.initial.out l.at l.initial.rest l.out l.rest l.i

abbrev pub decreases-loop-rest : goal.decreases-loop-rest
decreases-loop-rest l = l.rest
