-- The thorough search, branch by branch.
-- Assumes nothing.
use Prim.Native.Nat.{ℕ, ◌+◌, ◌-◌, ◌*◌, ◌<◌, ◌≤◌}
use native.Mathlib.Nat.{eq-or-lt_of_le}
use native.Mathlib.Omega.{arith}
use mathlib.Core.Path.{◌≡◌, refl, sym, ◌∙◌}
use mathlib.Core.Bool.{Bool, true, false, true≢false}
use mathlib.Core.List.{List}
use mathlib.Core.Logic.{⊎_elim}
use lib.ListN.{length, get_or, set}
use Rattle.std.specs.Prelude.{Option, Some, None, Ok, IfSome}
use Rattle.model.specs.Codes.{absent}
use Rattle.model.specs.Lists.{First}
use Rattle.model.specs.Triples.{triples}
use Rattle.lists.proofs.Compare.{Cmp, lt, eq, gt, cmp}
use Rattle.query.specs.declared.Query.{Query}
use Rattle.query.specs.Ask.{unbound, search, wrong_query}
use Rattle.query.specs.Choices.{Puts, CanPut, CodesBelow, Present}
use Rattle.query.proofs.Steps.{set_agrees}
use Rattle.query.proofs.Exact.{search-exact, nodes-present}
use Rattle.query_rows.specs.Rows.{in_row, Within, RowCopied}
use Rattle.query_rows.proofs.Rows.{sized_as, allows-row, allows-short}
use Rattle.query_domains.specs.Domains.{SweptAll}
use Rattle.query_order.specs.Order.{first_patterns, Arranged}
use Rattle.query_order.proofs.Arranged.{to_arranged, from_arranged, arranged_right, first-right}
use Rattle.query_components.specs.Parts.{Apart, PartEnd}
use Rattle.query_components.proofs.TwoParts.{parts-joined}
use Rattle.query_search.specs.Search.{Sought}
use Rattle.query_settling.specs.Settling.{Searchable, SettleNeeds, Settled, RowsKept, KeptFor, MaySettle, NextFixed}

-- ── what the search needs ──
pub ends-present : (table map : List ℕ) (q : Query) (rising : Bool) → Searchable table map q rising → Present (triples table)
ends-present table map q rising f = nodes-present (triples table) (length map) f.nodes f.small

module _ (table map d : List ℕ) (q : Query) (k : ℕ) (b : List ℕ) (rising : Bool) (f : SettleNeeds table map d q k b rising) where
  pub needs_rows : (d' : List ℕ) → length d' ≡ length d → SettleNeeds table map d' q k b rising
  needs_rows d' e = record { whole = f.whole; counted = f.counted; sized = sized_as _ _ e f.sized; bound = f.bound }

  pub needs_part : (d' : List ℕ) → length d' ≡ length d → (r : Query) → Arranged k q r → (j z : ℕ) → PartEnd b r k j z
      → SettleNeeds table map d' (first_patterns r z) j b rising
  needs_part d' e r a j z p = record {
    whole = record {
      right = first-right (length map) r z (arranged_right (length map) k q r a f.whole.right) (omega (arith, p.more)) p.most;
      order = f.whole.order;
      nodes = f.whole.nodes;
      small = f.whole.small;
      short = f.whole.short;
    };
    counted = p.more;
    sized = sized_as _ _ e f.sized;
    bound = f.bound;
  }

-- ── the falling number: variables that may still be fixed, and how far the step for one has come ──
pub settle_falls : (n : ℕ) {t : ℕ} → 3 * (3 - n) + 2 ≡ t → 3 * (3 - n) + 1 < t
settle_falls n e = omega arith

pub each-falls : (n : ℕ) {t : ℕ} → 3 * (3 - n) + 1 ≡ t → 3 * (3 - n) < t
each-falls n e = omega arith

-- ── the variable to fix ──
-- its row is one of the thirteen
pub fixed_row : (b : List ℕ) (depth : ℕ) (o : Option ℕ) → IfSome o (λ v. NextFixed b depth v) → IfSome o (λ v. v < 13)
fixed_row b depth None h = h
fixed_row b depth (Some v) h = omega (arith, h.free.below)

-- ── rows ──
rows_same : (d : List ℕ) (z : ℕ) → RowsKept d d z
rows_same d z = record { size = refl; kept = λ v x l m y. y }

pub rows_more : (d d' d'' : List ℕ) (y z : ℕ) → y ≤ z → RowsKept d d' y → RowsKept d' d'' z → RowsKept d d'' y
rows_more d d' d'' y z l a b = record { size = b.size ∙ a.size; kept = λ v x l₁ l₂ h. b.kept v x l₁ (omega arith) (a.kept v x l₁ l₂ h) }

pub rows-fewer : (d d' : List ℕ) (y z : ℕ) → y ≤ z → RowsKept d d' z → RowsKept d d' y
rows-fewer d d' y z l a = record { size = a.size; kept = λ v x l₁ l₂ h. a.kept v x l₁ (omega arith) h }

-- ── the answers ──
-- false is right where there is no choice
settled-none : (table map : List ℕ) (q : Query) (k : ℕ) (b : List ℕ)
    → ((σ : ℕ → ℕ) → Puts (triples table) map q k b σ → CodesBelow (length map) σ → ⊥) → Settled table map q k b false
settled-none table map q k b none = record { sound = λ z. absurd (true≢false (sym z)); complete = λ σ p l. absurd (none σ p l) }

-- and true where there is one
settled-some : (table map : List ℕ) (q : Query) (k : ℕ) (b : List ℕ) → CanPut (triples table) map q k b → Settled table map q k b true
settled-some table map q k b some = record { sound = λ z. some; complete = λ σ p l. refl }

-- ── within the domains ──
module _ (table map d d' : List ℕ) (q : Query) (k : ℕ) (b : List ℕ) {x : Bool} (w : SweptAll table map d d' q k b x) where
  pub swept-rows : (z : ℕ) → RowsKept d d' z
  swept-rows z = record { size = w.size; kept = λ v y l m h. w.later v y l h }

  pub unsupported : x ≡ false → Settled table map q k b false
  unsupported n = settled-none table map q k b (λ σ p l. true≢false (sym (w.some σ p) ∙ n))

  module _ (before steps : Option ℕ) {y : Bool} (t : Sought table map d' q k b before steps (Ok y)) where
    pub answered : Settled table map q k b y
    answered = go y t
      where
        go : (z : Bool) → Sought table map d' q k b before steps (Ok z) → Settled table map q k b z
        go true u = settled-some table map q k b (u.sound refl)
        go false u = settled-none table map q k b (λ σ p l. u.complete refl σ p (w.within σ p))

  -- the row of the variable to be fixed, copied to row u
  module _ (d'' : List ℕ) (u fixed : ℕ) (long : 13 ≤ length d') (few : fixed < 8) (c : RowCopied d' d'' u fixed) where
    pub fixed_kept : KeptFor table map d'' q k b u fixed
    fixed_kept σ p = c.row (σ fixed) ∙ allows-row d' _ (σ fixed) fixed refl long ∙ w.within σ p fixed few

-- ── one variable fixed to each node in turn ──
-- no choice has for `fixed` a node below x
pub record NoneFixed (table map d₀ : List ℕ) (q : Query) (k : ℕ) (b : List ℕ) (u fixed : ℕ) (d : List ℕ) (x : ℕ) : Type 0 where
  pub rows : RowsKept d₀ d (u + 1)
  pub none : (σ : ℕ → ℕ) → Puts (triples table) map q k b σ → CodesBelow (length map) σ → σ fixed < x → ⊥

module _ (table map d₀ : List ℕ) (q : Query) (k : ℕ) (b : List ℕ) (u fixed : ℕ) where
  module _ (few : fixed < 8) (d : List ℕ) (x : ℕ) (h : NoneFixed table map d₀ q k b u fixed d x) where
    module _ (l : 10 ≤ u) (kept : KeptFor table map d₀ q k b u fixed) (y : ℕ) (w : First (in_row d u) x (length map) y) where
      -- no choice has a node before y
      skip : (σ : ℕ → ℕ) → Puts (triples table) map q k b σ → CodesBelow (length map) σ → σ fixed < y → ⊥
      skip σ p m o = go (cmp (σ fixed) x)
        where
          outside : x ≤ σ fixed → ⊥
          outside n = true≢false (sym (h.rows.kept u (σ fixed) l (omega arith) (kept σ p)) ∙ w.others (σ fixed) n o)

          go : Cmp (σ fixed) x → ⊥
          go (lt n) = h.none σ p m n
          go (eq n) = outside (omega arith)
          go (gt n) = outside (omega arith)

      pub none_left : y ≡ length map → Settled table map q k b false
      none_left e = settled-none table map q k b (λ σ p m. skip σ p m (omega (arith, m fixed few)))

      module _ (long : length b ≡ 8) (free : get_or b fixed 0 ≡ absent) {r : Bool} (s : Settled table map q k (set b fixed y) r) where
        pub fix_step : (d' : List ℕ) → RowsKept d d' (u + 1) → r ≡ false → NoneFixed table map d₀ q k b u fixed d' (y + 1)
        fix_step d' t n = record {
          rows = rows_more d₀ d d' (u + 1) (u + 1) (omega arith) h.rows t;
          none = λ σ p m o. ⊎_elim
              (λ (e : σ fixed ≡ y).
              let p' : Puts (triples table) map q k (set b fixed y) σ = record { agrees = set_agrees σ b fixed y (omega arith) e p.agrees; puts = p.puts } in
              true≢false (sym (s.complete σ p' m) ∙ n))
              (λ e. skip σ p m e)
              (eq-or-lt_of_le {n = σ fixed} {m = y} (omega arith));
        }

-- ── all patterns first ──
module _ (table map d d' : List ℕ) (q : Query) (k : ℕ) (b : List ℕ) {x : Bool} (w : MaySettle table map d d' q k b x) where
  pub may_rows : (z : ℕ) → RowsKept d d' z
  may_rows z = record { size = w.size; kept = λ v y l m h. w.later v y l h }

  pub cannot_settle : x ≡ false → Settled table map q k b false
  cannot_settle n = settled-none table map q k b (λ σ p l. true≢false (sym (w.some σ p) ∙ n))

-- ── one part after the other ──
-- the patterns from the k-th to before the j-th are put, and share no variable without a node with the others
pub record PartsPut (table map d₀ : List ℕ) (r : Query) (k : ℕ) (b : List ℕ) (u : ℕ) (d : List ℕ) (j : ℕ) : Type 0 where
  pub rows : RowsKept d₀ d u
  pub low : k ≤ j
  pub high : j ≤ r.count
  pub apart : j < r.count → Apart b r k j
  pub put : CanPut (triples table) map (first_patterns r j) k b

module _ (table map d₀ : List ℕ) (q r : Query) (k : ℕ) (b : List ℕ) (a : Arranged k q r) (u : ℕ) where
  pub parts-start : k < q.count → PartsPut table map d₀ r k b u d₀ k
  parts-start l = record {
    rows = rows_same d₀ u;
    low = omega arith;
    high = omega (arith, a.count);
    apart = λ m i j v x y z n. let o : ⊥ = omega arith in absurd o;
    put = (λ v. get_or b v 0, record { agrees = λ v m n. refl; puts = λ j m n. let o : ⊥ = omega arith in absurd o });
  }

  pub parts-end : (d : List ℕ) (j : ℕ) → PartsPut table map d₀ r k b u d j → r.count ≤ j → Settled table map q k b true
  parts-end d j h l =
      let f = h.put in
      let p : Puts (triples table) map r k b f.0 = record { agrees = f.1.agrees; puts = λ i m n. f.1.puts i m (omega arith) } in
      settled-some table map q k b (f.0, from_arranged (triples table) map k q r b f.0 a p)

  module _ (right : wrong_query (length map) q ≡ false) (d : List ℕ) (j : ℕ) (h : PartsPut table map d₀ r k b u d j) (l : j < r.count)
      (z : ℕ) (e : PartEnd b r k j z) {y : Bool} (s : Settled table map (first_patterns r z) j b y) where
    pub part-missing : y ≡ false → Settled table map q k b false
    part-missing n = settled-none table map q k b (λ σ p m.
        let p' = to_arranged (triples table) map k q r b σ a p in
        let p'' : Puts (triples table) map (first_patterns r z) j b σ =
        record { agrees = p'.agrees; puts = λ i x o. p'.puts i (omega (arith, h.low)) (omega (arith, e.most)) } in
        true≢false (sym (s.complete σ p'' m) ∙ n))

    pub part-put : (d' : List ℕ) → RowsKept d d' u → y ≡ true → PartsPut table map d₀ r k b u d' z
    part-put d' t n = record {
      rows = rows_more d₀ d d' u u (omega arith) h.rows t;
      low = omega (arith, h.low, e.more);
      high = e.most;
      apart = e.apart;
      put = parts-joined (triples table) map (length map) r b k j z (arranged_right (length map) k q r a right) (h.apart l) e.most h.put (s.sound n);
    }

-- ── the whole query ──
module _ (table map : List ℕ) (q : Query) (rising : Bool) (f : Searchable table map q rising) where
  abbrev Exactly : Bool → Type 0
  Exactly r = r ≡ search (triples table) map q.patterns q.count 0 unbound

  -- a list too short for rows holds every choice
  within-short : (d : List ℕ) → length d < 13 → (σ : ℕ → ℕ) → Within d σ
  within-short d l σ v m = sym (allows-short d _ (σ v) v refl l)

  pub quick-exact : (d : List ℕ) → length d < 13 → (before steps : Option ℕ) {r : Bool} → Sought table map d q 0 unbound before steps (Ok r) → Exactly r
  quick-exact d short before steps {r} t = go r t
    where
      go : (z : Bool) → Sought table map d q 0 unbound before steps (Ok z) → Exactly z
      go true u = search-exact (triples table) map q f.right (ends-present table map q rising f) (λ e. u.sound refl) (λ σ p n. refl)
      go false u = search-exact (triples table) map q f.right (ends-present table map q rising f) (λ e. absurd (true≢false (sym e)))
          (λ σ p n. absurd (u.complete refl σ p (within-short d short σ)))

  pub settled-exact : {r : Bool} → Settled table map q 0 unbound r → Exactly r
  settled-exact s = search-exact (triples table) map q f.right (ends-present table map q rising f) s.sound
      (λ σ p n. s.complete σ p (λ v l. f.nodes (σ v) (n v l)))
