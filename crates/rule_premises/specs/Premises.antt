-- The rules by place, and the two premises of a rule: one drives, and its partner is looked for.
-- Assumes nothing.
use Rattle.std.specs.Prelude.{ℕ, Bool, cond, ◌||◌, eqb, length}
use Rattle.model.specs.Rules.{Rule}
use Rattle.model.specs.declared.Triple.{Triple}
use Rattle.model.specs.declared.Vocabulary.{Vocabulary}
use Rattle.model.specs.Codes.{kind, code_of}
use Rattle.model.specs.Triples.{triple}
use Rattle.model.specs.Rules.{rule, rules, place}

-- what stands past the table's end
abbrev pub no_rule : Rule
no_rule = rule 0 0 0 0 0 0 0

-- the number of rules
abbrev pub rule_count : ℕ
rule_count = length rules

-- the two premises in the rule's order
unfoldable pub first_of : Rule → Triple → Triple → Triple
first_of r driver partner = cond (eqb r.left 0) partner driver

unfoldable pub second_of : Rule → Triple → Triple → Triple
second_of r driver partner = cond (eqb r.left 0) driver partner

module _ (v : Vocabulary) where
  -- the least triple that can be the partner of a driving premise
  unfoldable pub partner_key : Rule → Triple → Triple
  partner_key r d = cond (eqb r.left 0) (triple (place v d d r.right) (code_of v r.first) 0) (triple (place v d d r.left) (code_of v r.second) 0)

  -- a triple's property is of the kind of the driving premise
  unfoldable pub drives : Rule → Triple → Bool
  drives r d = cond (eqb r.left 0) (eqb r.second 5 || eqb (kind v d.property) r.second) (eqb (kind v d.property) r.first)
