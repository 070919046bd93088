use mathlib.Core.Path.{sym, ◌∙◌, ap}
use native.Mathlib.Omega.{arith}
use lib.ListN.{length, get_or, length-map}
use Rattle.std.proofs.lemmas.List.{get_or-map}
use Rattle.model.specs.Rules.{numbered}
use Rattle.rule_premises.specs.Premises.{no_rule}
use Rattle.rule_premises.proofs.rule_at.Goals as goal

pub returns : goal.returns
returns c =
    let lines = ap length c.rule_table.ensures in
    sym (get_or-map numbered c.rule_table.result c.args.k _ no_rule (omega (arith, c.requires, lines, length-map c.rule_table.result numbered)))
    ∙ ap (λ l. get_or l c.args.k no_rule) c.rule_table.ensures
