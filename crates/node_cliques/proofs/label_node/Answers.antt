use mathlib.Core.Path.{sym, ◌∙◌}
use native.Mathlib.Omega.{arith}
use borrow.Author.Tests.{eqb-true, eqb-false}
use Rattle.node_cliques.proofs.Fills.{is_plain, is-marked}
use Rattle.node_cliques.proofs.Labelling.{label-marked, label-none, find_ready, root-small, label-root}
use Rattle.node_cliques.proofs.label_node.Goals as goal

pub returns-then-roster-i-ne0 : goal.returns-then-roster-i-ne0
returns-then-roster-i-ne0 c = λ A b L. label-marked A _ _ b _ _ L c.requires.1 (is-marked c.args.roster.now c.args.i (λ z. omega arith))

pub returns-then-is_absent : goal.returns-then-is_absent
returns-then-is_absent c = λ A b L. label-none A _ _ b _ _ L c.requires.1 (is_plain c.args.roster.now c.args.i (omega arith))
    (eqb-true _ _ (sym c.is_absent.ensures ∙ c.if-is_absent.true))

pub find-root-requires : goal.find-root-requires
find-root-requires c = let K = c.requires.0 in
    find_ready K.A _ _ K.before _ _ K.labelling c.requires.1 (is_plain c.args.roster.now c.args.i (omega arith))
    (eqb-false _ _ (sym c.is_absent.ensures ∙ c.if-is_absent.false)) _ c.wide.ensures

pub narrow-requires : goal.narrow-requires
narrow-requires c = let K = c.requires.0 in
    omega (
      arith,
      root-small K.A _ _ K.before _ _ K.labelling c.requires.1 (is_plain c.args.roster.now c.args.i (omega arith))
          (eqb-false _ _ (sym c.is_absent.ensures ∙ c.if-is_absent.false)) _ c.wide.ensures _ _ c.find-root.ensures,
    )

pub returns : goal.returns
returns c = λ A b L. label-root A _ _ b _ _ L c.requires.1 (is_plain c.args.roster.now c.args.i (omega arith))
    (eqb-false _ _ (sym c.is_absent.ensures ∙ c.if-is_absent.false)) _ c.wide.ensures _ _ c.find-root.ensures _
    c.narrow.ensures
