use mathlib.Core.Path.{sym, ap, ◌∙◌}
use Rattle.model.specs.Triples.{same}
use Rattle.lists.proofs.Derived.{eq_same}
use Rattle.query_places.proofs.Fits.{same-other, same-past}
use Rattle.query_places.proofs.place_of.Goals as goal
use Rattle.query_places.proofs.place_of.Goals.{else-i-to-via-then-i-to+else-eq, else-i-to-via-else-i-to}

pub returns : goal.returns
returns c = let bound = c.lower_bound-i.ensures.bound c.requires.2 in
    elim c.else-i-to.branch [
      | else-i-to-via-then-i-to+else-eq w ↦ same-other _ _ _ _ _ c.requires.2 bound
          (sym (ap (same c.args.t) w.triple_at.ensures) ∙ sym (w.eq.ensures ∙ eq_same _ _) ∙ w.if-eq.false)
      | else-i-to-via-else-i-to w ↦ same-past _ _ _ _ _ c.requires.2 bound w.if-i-to.false
    ]
