-- Ask answers maybe exactly if some choice of nodes for the variables puts every counted pattern in the table, else none.
-- Assumes nothing.
use Prim.Native.Nat.{ℕ, zero, suc, ◌+◌, ◌<◌, ◌≤◌}
use native.Mathlib.Nat.{eq-or-lt_of_le}
use native.Mathlib.Omega.{arith}
use mathlib.Core.Path.{◌≡◌, refl, sym, ap, subst, ◌∙◌}
use mathlib.Core.Logic.{⊎_elim}
use mathlib.Core.List.Memᴰ
use mathlib.Core.List.{List, Memᴰ as Mem}
use mathlib.Core.Bool.{Bool, true, false, cond, ◌||◌, true≢false}
use lib.ListN.{length, get_or, length-replicate, get_or-replicate}
use lib.Dec.{eqb, leb, ltb}
use borrow.Author.Tests.{ne_eqb, eqb-false, ltb-false, leb-false}
use Rattle.model.specs.declared.Triple.{Triple}
use Rattle.model.specs.declared.Vocabulary.{Vocabulary}
use Rattle.model.specs.Codes.{wrong_words, absent}
use Rattle.model.specs.Triples.{triples}
use Rattle.model.specs.Roster.{wrong_codes, wrong_triple, wrong_end}
use Rattle.model.specs.Partition.{label}
use Rattle.model.specs.declared.Side.{Side}
use Rattle.model.specs.declared.Side.TheVariants.{Source as source, Target as target}
use Rattle.model.specs.Cliques.{end}
use Rattle.model.specs.Outcomes.{Outcome, accepted, decided, wrong_size, wrong_length}
use Rattle.query.specs.declared.Pattern.{Pattern}
use Rattle.query.specs.declared.Query.{Query}
use Rattle.theory.proofs.Checks.{passes-first}
use Rattle.query.specs.Ask.{Fit, blank, pattern_at, unbound, fit_triple, tried, search, wrong_query, retired, ask_checks, ask_outcome}
use Rattle.query.specs.Match.{NodeOf, pattern_triple, Choice, AskAccepted, Exact, AskExact}
use Rattle.query.specs.Choices.{Agrees, Puts, CanPut, Present}
use Rattle.theory.proofs.Tests.{and_left, and_right, neither_left, neither_right, not_true_false}
use Rattle.theory.proofs.Lists.{any-holds, any_found, any_none}
use Rattle.query.proofs.Steps.{GoodQuery, good-query, agrees-unbound, Bound, Fitting, triple-complete, Tried, triple-sound}

-- ── the search ──
-- one step of it: the k-th pattern tried with one triple, `left` patterns coming after
abbrev step_of : List Triple → List ℕ → List Pattern → ℕ → ℕ → List ℕ → Triple → Bool
step_of ts map ps left k b = tried map (get_or ps k blank) b (λ b'. search ts map ps left (k + 1) b')

module _ (ts : List Triple) (map : List ℕ) (q : Query) (g : GoodQuery (length map) q) where
  At : (ℕ → ℕ) → ℕ → Type 0
  At σ k = Mem (pattern_triple (label map) σ (pattern_at q k)) ts

  search-complete : (σ : ℕ → ℕ) (left k : ℕ) (b : List ℕ) → k + left ≡ q.count → ((j : ℕ) → j < q.count → At σ j) → length b ≡ 8 → Agrees σ b
      → search ts map q.patterns left k b ≡ true
  unfolding search tried At
  search-complete σ zero k b n m l h = refl
  search-complete σ (suc left) k b n m l h =
      let lk : k < q.count = omega arith in
      let f : Fitting ts map σ (fit_triple map (pattern_at q k) (pattern_triple (label map) σ (pattern_at q k)) b) = triple-complete ts map σ (pattern_at q k) b (g.subject k lk) (g.object k lk) l h in
      any-holds (step_of ts map q.patterns left k b) ts _ (m k lk)
      (rw f.fits (search-complete σ left (k + 1) _ (omega arith) m f.long f.extends))

  -- a choice for the patterns from the k-th on that agrees with the bindings
  record Found (k : ℕ) (b : List ℕ) : Type 0 where
    pub chosen : ℕ → ℕ
    pub extends : Agrees chosen b
    pub nodes : (v : ℕ) → v < 8 → NodeOf ts (chosen v)
    pub there : (j : ℕ) → k ≤ j → j < q.count → At chosen j

  -- no end of a triple is the absent mark, and z is a node
  module _ (present : Present ts) (z : ℕ) (nz : NodeOf ts z) where
    -- a variable that is left without a node takes z
    search-sound : (left k : ℕ) (b : List ℕ) → k + left ≡ q.count → search ts map q.patterns left k b ≡ true → length b ≡ 8 → Bound ts b → Found k b
    unfolding search tried At
    search-sound zero k b n y l h = record {
      chosen = λ v. cond (eqb (get_or b v 0) absent) z (get_or b v 0);
      extends = λ v lv m. rw (ne_eqb _ _ m);
      nodes = λ v lv. at_v v lv (eqb (get_or b v 0) absent) refl;
      there = λ j l₁ l₂. let o : ⊥ = omega arith in absurd o;
    }
      where
        at_v : (v : ℕ) → v < 8 → (t : Bool) → eqb (get_or b v 0) absent ≡ t → NodeOf ts (cond t z (get_or b v 0))
        at_v v lv true e = nz
        at_v v lv false e = h v lv (eqb-false _ _ e)
    search-sound (suc left) k b n y l h =
        let lk : k < q.count = omega arith in
        let p : Pattern = pattern_at q k in
        let w = any_found (step_of ts map q.patterns left k b) ts y in
        let t : Triple = w.0 in
        let e : Fit = fit_triple map p t b in
        let f : Tried ts map p t b e = triple-sound ts map p t b w.1 (and_left e.fits _ w.2) (present t w.1).0 (present t w.1).1 (g.subject k lk) (g.object k lk) l in
        let r : Found (k + 1) e.bindings = search-sound left (k + 1) e.bindings (omega arith) (and_right e.fits _ w.2) f.long (f.bound h) in
        let σ : ℕ → ℕ = r.chosen in
        let here : At σ k = Memᴰ.cast {a = pattern_triple (label map) σ p} (f.there σ r.extends) w.1 in
        record {
          chosen = σ;
          extends = f.back σ r.extends;
          nodes = r.nodes;
          there = λ j l₁ l₂. ⊎_elim {C = At σ j} (λ i. subst (At σ) i here) (λ l₃. r.there j (omega arith) l₂) (eq-or-lt_of_le l₁);
        }

-- where a pattern is put in the triples, there is a triple
some-triple : (ts : List Triple) (map : List ℕ) (ps : List Pattern) (left k : ℕ) (b : List ℕ) → 0 < left → search ts map ps left k b ≡ true
    → (t : Triple) × Mem t ts
unfolding search
some-triple ts map ps zero k b l y = let o : ⊥ = omega arith in absurd o
some-triple ts map ps (suc left) k b l y = let w = any_found (step_of ts map ps left k b) ts y in (w.0, w.1)

-- ── the whole search ──
module _ (ts : List Triple) (map : List ℕ) (q : Query) (right : wrong_query (length map) q ≡ false) where
  answer : Bool
  answer = search ts map q.patterns q.count 0 unbound

  good : GoodQuery (length map) q
  good = good-query (length map) q right

  finds : CanPut ts map q 0 unbound → answer ≡ true
  unfolding answer At
  finds c =
      search-complete ts map q good c.0 q.count 0 unbound (omega arith) (λ j l. c.1.puts j (omega arith) l)
      (length-replicate 8 absent) (agrees-unbound c.0)

  found : Present ts → answer ≡ true → Choice ts map q
  unfolding answer At
  found present y =
      let w = some-triple ts map q.patterns q.count 0 unbound good.some y in
      let r = search-sound ts map q good present w.0.subject (record { by = w.0; held = w.1; side = source; is_end = refl }) q.count 0 unbound
      (omega arith) y (length-replicate 8 absent) (λ w l m. absurd (m (get_or-replicate 8 w absent 0 l))) in
      record { chosen = r.chosen; nodes = r.nodes; puts = λ j l. r.there j (omega arith) l }

  -- an answer that is true exactly if there is a choice is the search's
  pub search-exact : Present ts → {r : Bool} → (r ≡ true → CanPut ts map q 0 unbound)
      → ((σ : ℕ → ℕ) → Puts ts map q 0 unbound σ → ((v : ℕ) → v < 8 → NodeOf ts (σ v)) → r ≡ true)
      → r ≡ search ts map q.patterns q.count 0 unbound
  unfolding answer
  search-exact present {r} sound complete = go r refl
    where
      go : (t : Bool) → r ≡ t → r ≡ answer
      go true e = e ∙ sym (finds (sound e))
      go false e = e ∙ sym (not_true_false answer (λ y.
          let c = found present y in
          true≢false (sym (complete c.chosen (record { agrees = agrees-unbound c.chosen; puts = λ j l m. c.puts j m }) c.nodes) ∙ e)))

-- ── the checks ──
-- no check of ask fails
record Passed (v : Vocabulary) (table map : List ℕ) (q : Query) : Type 0 where
  pub lengths : (wrong_size (length map) || wrong_length (length table)) ≡ false
  pub words : wrong_words v (length map) ≡ false
  pub codes : wrong_codes v (length map) (triples table) ≡ false
  pub query : wrong_query (length map) q ≡ false
  pub answered : retired v q ≡ false

passed : (v : Vocabulary) (table map : List ℕ) (q : Query) → AskAccepted v table map q → Passed v table map q
unfolding ask_checks
passed v table map q a =
    let w = passes-first _ _ a in
    let x = passes-first _ _ w.1 in
    let y = passes-first _ _ x.1 in
    let z = passes-first _ _ y.1 in
    record { lengths = w.0; words = x.0; codes = y.0; query = z.0; answered = (passes-first _ _ z.1).0 }

below : (v : Vocabulary) (n c : ℕ) → wrong_end v n c ≡ false → c < n
unfolding wrong_end
below v n c e = leb-false n c (neither_left (leb n c) _ e)

-- where every node is below N, none is the absent mark
pub nodes-present : (ts : List Triple) (n : ℕ) → ((x : ℕ) → NodeOf ts x → x < n) → n ≤ 65536 → Present ts
nodes-present ts n nodes small t m = (
  λ z. omega (arith, nodes t.subject (record { by = t; held = m; side = source; is_end = refl })),
  λ z. omega (arith, nodes t.object (record { by = t; held = m; side = target; is_end = refl })),
)

-- what check 3 gives: every node is below N
module _ (v : Vocabulary) (n : ℕ) (ts : List Triple) (right : wrong_codes v n ts ≡ false) where
  ends-below : (t : Triple) → Mem t ts → (t.subject < n) × (t.object < n)
  unfolding wrong_codes wrong_triple
  ends-below t m =
      let e : wrong_triple v n t ≡ false = any_none (wrong_triple v n) ts right t m in (
        below v n t.subject (neither_left (wrong_end v n t.subject) _ e),
        below v n t.object (neither_right (leb n t.property) _ (neither_right (wrong_end v n t.subject) _ e)),
      )

  pub node-below : (x : ℕ) → NodeOf ts x → x < n
  node-below x h = go h.side h.is_end
    where
      go : (s : Side) → end s h.by ≡ x → x < n
      go source e = subst (λ (y : ℕ). y < n) e (ends-below h.by h.held).0
      go target e = subst (λ (y : ℕ). y < n) e (ends-below h.by h.held).1

module _ (v : Vocabulary) (table map : List ℕ) (q : Query) (a : Passed v table map q) where
  ts : List Triple
  ts = triples table

  small : length map ≤ 65536
  unfolding wrong_size
  small = ltb-false 65536 (length map) (neither_right (ltb (length map) 5) _ (neither_left (wrong_size (length map)) _ a.lengths))

  outcome : ask_outcome v table map q ≡ accepted (answer ts map q a.query)
  unfolding ask_outcome ask_checks decided answer ts
  outcome = simp (a.lengths, a.words, a.codes, a.query, a.answered)

  maybe_choice : answer ts map q a.query ≡ true → Choice ts map q
  unfolding ts
  maybe_choice y = found ts map q a.query (nodes-present ts (length map) (node-below v (length map) ts a.codes) small) y

  choice_maybe : Choice ts map q → answer ts map q a.query ≡ true
  choice_maybe c = finds ts map q a.query (c.chosen, record { agrees = agrees-unbound c.chosen; puts = λ j l m. c.puts j m })

  exact : Exact v table map q
  unfolding ts
  exact = record {
    maybe = (λ e. maybe_choice (told true e), λ c. outcome ∙ ap (λ (t : Bool). accepted t) (choice_maybe c));
    none = (
      λ e c. true≢false (sym (choice_maybe c) ∙ told false e),
      λ h. outcome ∙ ap (λ (t : Bool). accepted t) (not_true_false (answer ts map q a.query) (λ y. h (maybe_choice y))),
    );
  }
    where
      told : (t : Bool) → ask_outcome v table map q ≡ accepted t → answer ts map q a.query ≡ t
      told t e = let e' : ◌≡◌ {A = Outcome Bool} (accepted (answer ts map q a.query)) (accepted t) = sym outcome ∙ e in cc

pub ask-exact : AskExact
ask-exact v table map q a = exact v table map q (passed v table map q a)
