-- Retired are the queries with subclass, subproperty, domain or range as a counted pattern's property.
-- Assumes nothing.
use Prim.Native.Nat.{ℕ, zero, suc, ◌<◌}
use native.Mathlib.Omega.{arith}
use mathlib.Core.Path.{◌≡◌, refl, sym, ap, subst, ◌∙◌}
use mathlib.Core.Bool.{true, false, not}
use mathlib.Core.List.{Memᴰ as Mem}
use lib.Dec.{eqb}
use borrow.Author.Tests.{eqb-false, not-true, ltb-true, lt-ltb, ne_eqb}
use Rattle.model.specs.declared.Vocabulary.{Vocabulary}
use Rattle.model.specs.Codes.{kind, reserved, schema_property, code_of, wrong_words}
use Rattle.theory.proofs.Tests.{and_true, and_both}
use Rattle.theory.proofs.Lists.{any_found, any-holds, mem_get_d, mem-place, tabulate-mem, mem-tabulate}
use Rattle.theory.proofs.Covered.{code_of_kind, kind_of_code}
use Rattle.query.specs.Ask.{pattern_at, counted_patterns, asks_schema, retired}
use Rattle.query.specs.Match.{schema_words, RetiredExact}

module _ (v : Vocabulary) (p : ℕ) where
  -- a schema property is one of the four
  schema-one : schema_property v p ≡ true → Mem p (schema_words v)
  unfolding schema_property reserved code_of
  schema-one h =
      let w = and_true (not (eqb (kind v p) 0)) _ h in
      go (kind v p) refl (eqb-false _ _ (not-true _ w.0)) (ltb-true _ _ w.1)
    where
      go : (k : ℕ) → kind v p ≡ k → (k ≡ 0 → ⊥) → k < 5 → Mem p (schema_words v)
      go zero e n l = absurd (n refl)
      go (suc k) e n l = subst (λ (c : ℕ). Mem c (schema_words v)) (sym (code_of_kind v p (suc k) e l)) (mem_get_d (schema_words v) v.instance k (omega arith))

  -- and the four are, where no two words are equal
  one-schema : (n : ℕ) → wrong_words v n ≡ false → Mem p (schema_words v) → schema_property v p ≡ true
  unfolding schema_property reserved code_of
  one-schema n h m =
      let w = mem-place (schema_words v) v.instance m in
      let k : kind v p ≡ suc w.0 = ap (kind v) w.2 ∙ kind_of_code v n h (suc w.0) (omega (arith, w.1)) in
      and_both (not (eqb (kind v p) 0)) _ (ap not (ne_eqb (kind v p) 0 (λ z. omega arith))) (lt-ltb (kind v p) 5 (omega (arith, w.1)))

pub retired-exact : RetiredExact
unfolding retired counted_patterns
retired-exact v n q h = (
  λ r.
      let w = any_found (asks_schema v) _ r in
      let z = tabulate-mem (pattern_at q) 0 q.count w.1 in
      record {
        place = z.0;
        counted = omega (arith, z.2);
        property = schema-one v _ (ap (asks_schema v) (sym z.3) ∙ w.2);
      },
  λ a.
      any-holds (asks_schema v) _ (pattern_at q a.place)
      (mem-tabulate (pattern_at q) 0 q.count a.place (omega arith) (omega (arith, a.counted))) (one-schema v _ n h a.property),
)
