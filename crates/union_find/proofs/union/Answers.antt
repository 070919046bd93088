use mathlib.Core.Bool.{Bool, true}
use mathlib.Core.Path.{◌≡◌}
use Prim.Native.Nat.{ℕ}
use native.Mathlib.Omega.{arith}
use Rattle.union_find.specs.Roots.{Forest}
use Rattle.union_find.proofs.Steps.{Both, both, both-bounds, link, link-flip, link-none}
use Rattle.union_find.proofs.union.Goals as goal
use Rattle.union_find.proofs.union.Goals.{After-find-y}

-- after the two calls, for a test A
abbrev Roots : After-find-y → (ℕ → Bool) → Type 0
Roots c A = Both A c.args.parent.now c.find-y.new.parent c.args.a c.args.b c.find-x.result c.find-y.result

-- for every A
found : (c : After-find-y) (A : ℕ → Bool) → Forest A c.args.parent.now → A c.args.a ≡ true → A c.args.b ≡ true → Roots c A
found c A f p q = both A _ c.find-x.new.parent _ _ _ _ _ f p q c.find-x.ensures c.find-y.ensures

-- for the A of the call
here : (c : After-find-y) → Roots c c.requires.A
here c = let s = c.requires in found c s.A s.forest s.left s.right

pub find-y-requires : goal.find-y-requires
find-y-requires c = let s = c.requires in
    record { A = s.A; forest = (c.find-x.ensures.keeps s.A s.forest s.left).forest; active = s.right }

pub narrow-requires : goal.narrow-requires
narrow-requires c = omega (arith, both-bounds _ _ _ _ _ _ _ (here (goal.at.narrow-requires c).After-find-y))

pub offset_bounds-parent-y : goal.offset_bounds-parent-y
offset_bounds-parent-y c = omega (arith, both-bounds _ _ _ _ _ _ _ (here (goal.at.offset_bounds-parent-y c).After-find-y))

pub bounds-parent-y : goal.bounds-parent-y
bounds-parent-y c = omega (arith, both-bounds _ _ _ _ _ _ _ (here (goal.at.bounds-parent-y c).After-find-y))

pub narrow-requires-then-y-x : goal.narrow-requires-then-y-x
narrow-requires-then-y-x c = omega (arith, both-bounds _ _ _ _ _ _ _ (here (goal.at.narrow-requires-then-y-x c).After-find-y))

pub offset_bounds-parent-x : goal.offset_bounds-parent-x
offset_bounds-parent-x c = omega (arith, both-bounds _ _ _ _ _ _ _ (here (goal.at.offset_bounds-parent-x c).After-find-y))

pub bounds-parent-x : goal.bounds-parent-x
bounds-parent-x c = omega (arith, both-bounds _ _ _ _ _ _ _ (here (goal.at.bounds-parent-x c).After-find-y))

pub returns-then-x-y : goal.returns-then-x-y
returns-then-x-y c = record { keeps = λ A f p q. link A _ _ _ _ _ _ (found (goal.at.returns-then-x-y c).After-find-y A f p q) _ c.narrow.ensures c.if-x-y.true }

pub returns-then-y-x : goal.returns-then-y-x
returns-then-y-x c = record { keeps = λ A f p q. link-flip A _ _ _ _ _ _ (found (goal.at.returns-then-y-x c).After-find-y A f p q) _ c.narrow-then-y-x.ensures c.if-y-x.true }

pub returns-else-y-x : goal.returns-else-y-x
returns-else-y-x c = record { keeps = λ A f p q. link-none A _ _ _ _ _ _ (found (goal.at.returns-else-y-x c).After-find-y A f p q) (omega arith) }
