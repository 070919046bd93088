-- The strata of a table: its schema triples closed, its other triples, then one pass with each group of rules.
-- Assumes nothing.
use Prim.Native.Nat.{ℕ, ◌/◌, ◌<◌, ◌-◌}
use mathlib.Core.Path.{◌≡◌, sym, ◌∙◌, subst}
use mathlib.Core.Logic.{◌⊎◌, inl, inr, ⊎_elim}
use mathlib.Core.Bool.{true}
use mathlib.Core.List.Memᴰ.{not-nil as no-mem}
use mathlib.Core.List.{List, Memᴰ as Mem}
use native.Mathlib.Omega.{arith}
use lib.ListN.{length, get_or}
use Rattle.model.specs.Rules.{Rule}
use Rattle.model.specs.declared.Triple.{Triple}
use Rattle.model.specs.declared.Vocabulary.{Vocabulary}
use Rattle.model.specs.Lists.{tabulate}
use Rattle.model.specs.Triples.{sorted}
use Rattle.model.specs.Rules.{rules, fits, gives, Derives, given}
use Rattle.model.specs.Saturation.{round}
use Rattle.theory.proofs.Order.{sorted-mem, mem-sorted, rising-length}
use Rattle.theory.specs.Tables.{In}
use Rattle.theory.proofs.Saturated.{round-rising, round-derived, derives_cut, derives_map}
use Rattle.theory.proofs.Strata.{strata}
use Rattle.sorting.specs.Sorting.{Distinct}
use Rattle.builder.specs.declared.Builder.{Builder}
use Rattle.builder.specs.declared.Full.{Full}
use Rattle.std.specs.declared.result.Result.{Result}
use Rattle.std.specs.declared.result.Result.TheVariants.{Ok, Err}
use Rattle.builder.specs.Builder.{first}
use Rattle.rule_premises.specs.Premises.{no_rule}
use Rattle.schema_load.specs.declared.Share.{Share}
use Rattle.schema_load.specs.declared.Share.TheVariants.{Schema, Other}
use Rattle.schema_load.specs.Loading.{part, Added}
use Rattle.rule_walk.specs.Rounds.{Draws, Rounded}
use Rattle.strata.specs.Strata.{Closed, Swept, FreeEnds, Grounded, Stratified, retyping, typing, renaming}
use Rattle.strata.proofs.Closing.{front-sorted}
use Rattle.schema_load.proofs.Loading.{kind-schema, chosen-schema, part-mem, mem-part, parts}
use Rattle.theory.proofs.Lists.{tabulate-mem}

module _ (v : Vocabulary) where
  -- ── behind a front that is sorted first ──
  module _ (l m : List ℕ) (filled count : ℕ) (D : Distinct l m 0 filled count) where
    is : first m count ≡ sorted (first l filled)
    is = front-sorted l m filled count D

    back : (u : Triple) → Mem u (first m count) → Mem u (first l filled)
    back u x = sorted-mem u _ (subst (Mem u) is x)

    forth : (u : Triple) → Mem u (first l filled) → Mem u (first m count)
    forth u x = subst (Mem u) (sym is) (mem-sorted u _ x)

    all-derived : (u : Triple) → Mem u (round v (first m count)) → Derives v (In (first l filled)) u
    all-derived u k = derives_map v (λ t x. back t x) (round-derived v (first m count) u k)

    -- a pass is a sort and a round
    pub swept : (n : List ℕ) (low high : ℕ) (x : Result Builder Full) → Rounded v m n count low high x → Swept v l n filled low high x
    swept n low high (Ok c) R =
        let W = R.walked in
        record {
          size = R.size ∙ D.size;
          room = W.built.room;
          keeps = λ u k. W.keeps u (forth u k);
          drawn = λ k x y a b p q. W.drawn k x y a b (forth a p) (forth b q);
          derived = λ u k. all-derived u (W.inside u k);
          over = tt;
        }
    swept n low high (Err y) R =
        record {
          size = R.size ∙ D.size;
          room = tt;
          keeps = tt;
          drawn = tt;
          derived = tt;
          over = λ out h.
              let few = rising-length (round v (first m count)) out (round-rising v _) (λ u k. h u (all-derived u k)) in
              let long = subst (λ (k : ℕ). k / 3 < length (round v (first m count))) D.size R.over in
              omega (arith, few, long);
        }

    pub added-sorted : (w : Share) (ts : List Triple) (n : List ℕ) (x : Result Builder Full) → Added v w ts m n count x → Added v w ts l n filled x
    added-sorted w ts n (Ok c) A =
        record {
          size = A.size ∙ D.size;
          room = A.room;
          members = λ u. (λ k. ⊎_elim (λ x. inl x) (λ x. inr (back u x)) ((A.members u).0 k), λ k. (A.members u).1 (⊎_elim (λ x. inl x) (λ x. inr (forth u x)) k));
          over = tt;
        }
    added-sorted w ts n (Err y) A =
        record {
          size = A.size ∙ D.size;
          room = tt;
          members = tt;
          over = λ out h. subst (λ (k : ℕ). k / 3 < length out) D.size (A.over out (λ u k. h u (⊎_elim (λ x. inl x) (λ x. inr (back u x)) k)));
        }

  -- ── three passes ──
  -- the rules of a pass stand at its places of the table
  abbrev rules_of : ℕ × ℕ → List Rule
  rules_of s = tabulate (λ k. get_or rules k no_rule) s.0 (s.1 - s.0)

  draws_of : (s : ℕ × ℕ) (X Y : List Triple) → Draws v s.0 s.1 X Y → (r : Rule) → Mem r (rules_of s) → (a b : Triple) → Mem a X → Mem b X → fits v r a b ≡ true → Mem (gives v r a b) Y
  draws_of s X Y D r m a b x y =
      let z = tabulate-mem (λ k. get_or rules k no_rule) s.0 (s.1 - s.0) m in
      subst (λ (q : Rule). fits v q a b ≡ true → Mem (gives v q a b) Y) (sym z.3) (D z.0 z.1 (omega (arith, z.2)) a b x y)

  pub strata-first : (l m : List ℕ) (filled : ℕ) (y : Full) → Swept v l m filled retyping.0 retyping.1 (Err y) → Stratified v l m filled (Err y)
  strata-first l m filled y P = record { size = P.size; room = tt; exact = tt; over = P.over }

  module _ (l m : List ℕ) (filled : ℕ) (b : Builder) (P : Swept v l m filled retyping.0 retyping.1 (Ok b)) where
    pub strata-second : (n : List ℕ) (y : Full) → Swept v m n b.filled typing.0 typing.1 (Err y) → Stratified v l n filled (Err y)
    strata-second n y Q =
        record {
          size = Q.size ∙ P.size;
          room = tt;
          exact = tt;
          over = λ out h. subst (λ (z : ℕ). z / 3 < length out) P.size (Q.over out (λ u d. h u (derives_cut v P.derived d)));
        }

    module _ (n : List ℕ) (c : Builder) (Q : Swept v m n b.filled typing.0 typing.1 (Ok c)) where
      pub strata-third : (o : List ℕ) (x : Result Builder Full) → Swept v n o c.filled renaming.0 renaming.1 x → Stratified v l o filled x
      unfolding tabulate
      strata-third o (Ok d) R =
          record {
            size = R.size ∙ Q.size ∙ P.size;
            room = R.room;
            exact = λ ts B u.
                strata v (In ts) B.free (In (first l filled)) (In (first m b.filled)) (In (first n c.filled)) (In (first o d.filled))
                (λ t z. B.schema_in t (derives_map v (λ w x. mem-part v Schema ts w x.0 (chosen-schema v w (kind-schema v w x.1.0 x.1.1))) z))
                B.all_in B.derived
                (record { keeps = P.keeps; draws = draws_of retyping _ _ P.drawn; derived = P.derived })
                (record { keeps = Q.keeps; draws = draws_of typing _ _ Q.drawn; derived = Q.derived })
                (record { keeps = R.keeps; draws = draws_of renaming _ _ R.drawn; derived = R.derived }) u;
            over = tt;
          }
      strata-third o (Err y) R =
          record {
            size = R.size ∙ Q.size ∙ P.size;
            room = tt;
            exact = tt;
            over = λ out h.
                subst (λ (z : ℕ). z / 3 < length out) (Q.size ∙ P.size)
                (R.over out (λ u x. h u (derives_cut v (λ t y. derives_cut v P.derived (Q.derived t y)) x)));
          }

  -- ── the schema triples closed ──
  module _ (ts : List Triple) (l m : List ℕ) where
    -- the list was empty before
    only : (u : Triple) → Mem u (part v Schema ts) ⊎ Mem u (first l 0) → Mem u (part v Schema ts)
    unfolding tabulate
    only u (inl x) = x
    only u (inr x) = absurd (no-mem x)

    pub schema-full : (y : Full) → Added v Schema ts l m 0 (Err y) → Closed v (In (part v Schema ts)) l m (Err y)
    schema-full y A = record { size = A.size; room = tt; exact = tt; over = λ out h. A.over out (λ u k. h u (given (only u k))) }

    module _ (b : Builder) (A : Added v Schema ts l m 0 (Ok b)) where
      from : {u : Triple} → Derives v (In (first m b.filled)) u → Derives v (In (part v Schema ts)) u
      from d = derives_map v (λ t x. only t ((A.members t).0 x)) d

      to : {u : Triple} → Derives v (In (part v Schema ts)) u → Derives v (In (first m b.filled)) u
      to d = derives_map v (λ t x. (A.members t).1 (inl x)) d

      pub schema-loaded : (n : List ℕ) (x : Result Builder Full) → Closed v (In (first m b.filled)) m n x → Closed v (In (part v Schema ts)) l n x
      schema-loaded n (Ok c) C =
          record { size = C.size ∙ A.size; room = C.room; exact = λ u. (λ k. from ((C.exact u).0 k), λ d. (C.exact u).1 (to d)); over = tt }
      schema-loaded n (Err y) C =
          record {
            size = C.size ∙ A.size;
            room = tt;
            exact = tt;
            over = λ out h. subst (λ (k : ℕ). k / 3 < length out) A.size (C.over out (λ u d. h u (from d)));
          }

  -- ── all together ──
  module _ (ts : List Triple) (free : FreeEnds v ts) (l m : List ℕ) where
    wider : {u : Triple} → Derives v (In (part v Schema ts)) u → Derives v (In ts) u
    wider d = derives_map v (λ t x. (part-mem v Schema ts t x).0) d

    pub derived-schema-full : (y : Full) → Closed v (In (part v Schema ts)) l m (Err y) → Closed v (In ts) l m (Err y)
    derived-schema-full y C = record { size = C.size; room = tt; exact = tt; over = λ out h. C.over out (λ u d. h u (wider d)) }

    module _ (b : Builder) (C : Closed v (In (part v Schema ts)) l m (Ok b)) (n : List ℕ) where
      held : (u : Triple) → Mem u (part v Other ts) ⊎ Mem u (first m b.filled) → Derives v (In ts) u
      held u (inl x) = given (part-mem v Other ts u x).0
      held u (inr x) = wider ((C.exact u).0 x)

      pub derived-others-full : (y : Full) → Added v Other ts m n b.filled (Err y) → Closed v (In ts) l n (Err y)
      derived-others-full y A =
          record {
            size = A.size ∙ C.size;
            room = tt;
            exact = tt;
            over = λ out h. subst (λ (z : ℕ). z / 3 < length out) C.size (A.over out (λ u x. h u (held u x)));
          }

      module _ (c : Builder) (A : Added v Other ts m n b.filled (Ok c)) where
        grounded : Grounded v ts (first n c.filled)
        grounded =
            record {
              free = free;
              schema_in = λ u d. (A.members u).1 (inr ((C.exact u).1 d));
              all_in = λ u x. (A.members u).1 (⊎_elim (λ y. inr ((C.exact u).1 (given y))) (λ y. inl y) (parts v ts u x));
              derived = λ u x. held u ((A.members u).0 x);
            }

        pub derived-all : (o : List ℕ) (x : Result Builder Full) → Stratified v n o c.filled x → Closed v (In ts) l o x
        derived-all o (Ok d) S = record { size = S.size ∙ A.size ∙ C.size; room = S.room; exact = λ u. S.exact ts grounded u; over = tt }
        derived-all o (Err y) S =
            record {
              size = S.size ∙ A.size ∙ C.size;
              room = tt;
              exact = tt;
              over = λ out h. subst (λ (z : ℕ). z / 3 < length out) (A.size ∙ C.size) (S.over out (λ u x. h u (derives_cut v grounded.derived x)));
            }
