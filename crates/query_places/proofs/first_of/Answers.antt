use Rattle.query_places.proofs.Fits.{first-here, first-other, first_past}
use Rattle.query_places.proofs.first_of.Goals as goal
use Rattle.query_places.proofs.first_of.Goals.{else-i-to-via-then-i-to+else-has_front, else-i-to-via-else-i-to}

pub returns-then-has_front : goal.returns-then-has_front
returns-then-has_front c = first-here _ _ _ _ _ _ (c.lower_bound-i.ensures.bound c.requires.2) c.has_front.ensures c.if-has_front.true

pub returns : goal.returns
returns c = let bound = c.lower_bound-i.ensures.bound c.requires.2 in
    elim c.else-i-to.branch [
      | else-i-to-via-then-i-to+else-has_front w ↦ first-other _ _ _ _ _ _ bound c.requires.2 w.if-i-to.true
          w.has_front.ensures w.if-has_front.false
      | else-i-to-via-else-i-to w ↦ first_past _ _ _ _ _ _ bound w.if-i-to.false
    ]
