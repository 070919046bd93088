-- Weighing a summary, one triple after the other.
-- Assumes nothing.
use Rattle.std.proofs.Common.{◌≡◌, ℕ, ◌+◌, ◌<◌, ◌≤◌, Bool, true, cond, List, map, length, get_or, set, sym, refl, ap, ◌∙◌, subst, add-zero, zero-add, arith, length-set, get_or-set_other, get_or-set_same}
use mathlib.Core.List.{Memᴰ as Mem}
use lib.ListN.{length-map}
use Rattle.model.specs.declared.Triple.{Triple}
use Rattle.model.specs.Codes.{most_triples}
use Rattle.model.specs.Lists.{how_many, tabulate, padded}
use Rattle.model.specs.Triples.{before, same}
use Rattle.model.specs.Order.{Lt}
use Rattle.model.specs.Partition.{label}
use Rattle.model.specs.Summary.{moved, weight, weights_of}
use Rattle.theory.specs.Tables.{Below}
use Rattle.theory.proofs.Tests.{not_true_false}
use Rattle.theory.proofs.Lists.{length-tabulate, tabulate-at, tabulate-mem, many-le}
use Rattle.theory.proofs.Runs.{many-one, many-parts}
use Rattle.theory.proofs.Flat.{padded-by}
use Rattle.theory.proofs.Order.{lt_trans, lt_irrefl, before-lt, same-eq, same_refl}
use Rattle.lists.specs.Flat.{at, RisingPart, Place, Cleared}
use Rattle.lists.proofs.Compare.{Cmp, lt, eq, gt, cmp}
use Rattle.lists.proofs.Search.{at_bound}
use Rattle.theory.proofs.Weights.{map_at}
use Rattle.builder.specs.Builder.{first}
use Rattle.intake_insertion.specs.Places.{StandsAt}
use Rattle.intake_weighing.specs.Weighing.{Weighable}

-- ── where a member stands ──
-- a place where the triple is found parts rising places
pub place_here : (l : List ℕ) (n i : ℕ) (t : Triple) (r : Bool) → StandsAt l n i t r → r ≡ true → Place (at l) 0 n t i
place_here l n i t r s e =
    let w = s.here e in
    record {
      low = omega arith;
      high = omega (arith, w.0);
      bound = λ up. record {
        low = omega arith;
        high = omega (arith, w.0);
        below = λ x a b. subst (Lt (at l x)) w.1 (up x i a b w.0);
        above = λ x a b. not_true_false (before (at l x) t) (λ q. back up x a b (before-lt (at l x) t q) (cmp i x));
      };
    }
  where
    back : RisingPart (at l) 0 n → (x : ℕ) → i ≤ x → x < n → Lt (at l x) t → Cmp i x → ⊥
    back up x a b q (lt z) = lt_irrefl (lt_trans q (subst (λ (u : Triple). Lt u (at l x)) (s.here e).1 (up i x (omega arith) z b)))
    back up x a b q (eq z) = lt_irrefl (subst (λ (u : Triple). Lt u t) (ap (at l) (sym z) ∙ (s.here e).1) q)
    back up x a b q (gt z) = absurd (omega arith)

record ImageStands (f : ℕ → Triple) (k : ℕ) (u : Triple) (j : ℕ) : Type 0 where
  inside : j < k
  is : u ≡ f j

stands : (f : ℕ → Triple) (k : ℕ) (u : Triple) (j : ℕ) → RisingPart f 0 k → Place f 0 k u j → Mem u (tabulate f 0 k) → ImageStands f k u j
stands f k u j r p m =
    let z = tabulate-mem f 0 k m in
    let e = at_bound f 0 k u j r (p.bound r) z.0 z.1 (omega (arith, z.2)) z.3 in
    record { inside = omega (arith, z.2, e); is = z.3 ∙ ap f e }

module _ (triples m summary : List ℕ) where
  -- how many of the first i triples have the summary's triple at place j as their image
  abbrev weight_at : ℕ → ℕ → ℕ
  weight_at i j = weight (label m) (first triples i) (at summary j)

  no-weight : (j : ℕ) → weight_at 0 j ≡ 0
  unfolding weight how_many tabulate
  no-weight j = refl

  -- one triple more
  weight-more : (i j : ℕ) → weight_at (i + 1) j ≡ weight_at i j + cond (same (at summary j) (moved (label m) (at triples i))) 1 0
  unfolding weight
  weight-more i j =
      let test : Triple → Bool = λ t. same (at summary j) (moved (label m) t) in
      many-parts test (at triples) 0 i 1
      ∙ ap (λ (n : ℕ). how_many test (tabulate (at triples) 0 i) + n)
      (many-one test (at triples) (0 + i) ∙ ap (λ (k : ℕ). cond (test (at triples k)) 1 0) (zero-add i))

  weight-few : (i j : ℕ) → weight_at i j ≤ i
  unfolding weight
  weight-few i j = omega (arith, many-le (λ t. same (at summary j) (moved (label m) t)) (first triples i), length-tabulate (at triples) 0 i)

  -- the weights of the first i triples
  pub record WeighedTo (k : ℕ) (w₀ w : List ℕ) (i : ℕ) : Type 0 where
    pub size : length w ≡ length w₀
    pub counted : (j : ℕ) → j < k → get_or w j 0 ≡ weight_at i j
    pub past : (j : ℕ) → k ≤ j → j < length w → get_or w j 0 ≡ 0

  pub weighed-start : (k : ℕ) (w₀ w : List ℕ) → k ≤ length w₀ → Cleared w₀ w 0 (length w₀) → WeighedTo k w w 0
  weighed-start k w₀ w h c =
      record {
        size = refl;
        counted = λ j x. c.zeros j (omega arith) (omega arith) ∙ sym (no-weight j);
        past = λ j x y. c.zeros j (omega arith) (omega (arith, c.size));
      }

  weighed-few : (k : ℕ) (w₀ w : List ℕ) (i j : ℕ) → WeighedTo k w₀ w i → j < k → get_or w j 0 ≤ i
  weighed-few k w₀ w i j W h = omega (arith, W.counted j h, weight-few i j)

  weighed-step : (k : ℕ) (w₀ w : List ℕ) (i j : ℕ) (u : Triple) → WeighedTo k w₀ w i → k ≤ length w₀ → RisingPart (at summary) 0 k
      → u ≡ moved (label m) (at triples i) → ImageStands (at summary) k u j → WeighedTo k w₀ (set w j (get_or w j 0 + 1)) (i + 1)
  weighed-step k w₀ w i j u W room r e s =
      record {
        size = length-set w j _ ∙ W.size;
        counted = λ x h. go x h (cmp x j);
        past = λ x a b. get_or-set_other w j x _ 0 (λ q. let z = s.inside in absurd (omega arith)) ∙ W.past x a (omega (arith, length-set w j (get_or w j 0 + 1)));
      }
    where
      y : Triple
      y = moved (label m) (at triples i)

      -- the weight of a place that holds another triple is as before
      other : (x : ℕ) → x < k → (at summary x ≡ at summary j → ⊥) → get_or w x 0 ≡ weight_at (i + 1) x
      other x h n =
          W.counted x h ∙ sym (add-zero (weight_at i x))
          ∙ sym (weight-more i x ∙ ap (λ (b : Bool). weight_at i x + cond b 1 0) (not_true_false (same (at summary x) y) (λ q. n (same-eq (at summary x) y q ∙ sym e ∙ s.is))))

      go : (x : ℕ) → x < k → Cmp x j → get_or (set w j (get_or w j 0 + 1)) x 0 ≡ weight_at (i + 1) x
      go x h (lt z) =
          get_or-set_other w j x _ 0 (omega arith)
          ∙ other x h (λ q. lt_irrefl (subst (Lt (at summary x)) (sym q) (r x j (omega arith) z s.inside)))
      go x h (eq z) =
          ap (λ (n : ℕ). get_or (set w j (get_or w j 0 + 1)) n 0) z ∙ get_or-set_same w j _ 0 (omega (arith, W.size, s.inside))
          ∙ ap (λ (n : ℕ). n + 1) (W.counted j s.inside)
          ∙ ap (λ (b : Bool). weight_at i j + cond b 1 0) (sym (same_refl (at summary j) y (sym s.is ∙ e)))
          ∙ sym (weight-more i j) ∙ ap (weight_at (i + 1)) (sym z)
      go x h (gt z) =
          get_or-set_other w j x _ 0 (omega arith)
          ∙ other x h (λ q. lt_irrefl (subst (λ (a : Triple). Lt a (at summary x)) (sym q) (r j x (omega arith) z h)))

  pub weighed-end : (k : ℕ) (v w₀ w : List ℕ) (i count : ℕ) → WeighedTo k w₀ w i → length w₀ ≡ length v → k ≤ length v → i ≡ count
      → w ≡ padded (length v) (weights_of m (first triples count) (first summary k))
  weighed-end k v w₀ w i count W e h q =
      padded-by w _ (length v) (W.size ∙ e) (omega (arith, long))
      (λ j x.
      let z : j < k = omega (arith, long) in
      W.counted j z ∙ ap (λ (n : ℕ). weight_at n j) q ∙ sym (weight-at j x z))
      (λ j x y. W.past j (omega (arith, long)) (omega (arith, W.size)))
    where
      f : Triple → ℕ
      f = weight (label m) (first triples count)

      long : length (map f (first summary k)) ≡ k
      long = length-map (first summary k) f ∙ length-tabulate (at summary) 0 k

      weight-at : (j : ℕ) → j < length (map f (first summary k)) → j < k → get_or (map f (first summary k)) j 0 ≡ weight_at count j
      weight-at j x z =
          map_at f (first summary k) j (at summary 0) (omega (arith, length-tabulate (at summary) 0 k))
          ∙ ap f (tabulate-at (at summary) (at summary 0) 0 k j z ∙ ap (at summary) (zero-add j))

-- ── the image of a triple stands in the summary ──
module _ {triples m summary : List ℕ} {count k slots notes : ℕ} (W : Weighable triples count m summary k slots notes) where
  -- a triple's property has its place among the notes
  pub weigh_noted : (work : List ℕ) (i : ℕ) (t : Triple) (p : ℕ) → i < count → t ≡ at triples i → p ≡ t.property → length work ≡ notes → p < length work
  weigh_noted work i t p h e q l = omega (arith, (subst (Below (length m)) (sym e) (W.below i h)).property, W.noted)

  stands_at : (i : ℕ) (t u : Triple) (j : ℕ) → i < count → t ≡ at triples i → u ≡ moved (label m) t → Place (at summary) 0 k u j → ImageStands (at summary) k u j
  stands_at i t u j h e q p =
      stands (at summary) k u j W.rising p (subst (λ (z : Triple). Mem z (first summary k)) (sym (q ∙ ap (moved (label m)) e)) (W.images i h))

  module _ (w₀ w : List ℕ) (i : ℕ) (t u : Triple) (j : ℕ) (h : i < count) (e : t ≡ at triples i) (q : u ≡ moved (label m) t)
      (p : Place (at summary) 0 k u j) (l : length w₀ ≡ slots) (D : WeighedTo triples m summary k w₀ w i) where
    pub weigh_inside : j < length w
    weigh_inside = let s = stands_at i t u j h e q p in omega (arith, s.inside, W.room, D.size)

    pub weigh_narrow : j < 4294967296
    weigh_narrow = let s = stands_at i t u j h e q p in omega (arith, s.inside, W.few)

    pub weigh_small : get_or w j 0 < most_triples
    weigh_small = let s = stands_at i t u j h e q p in omega (arith, weighed-few triples m summary k w₀ w i j D s.inside, W.most)

    pub weigh_step : WeighedTo triples m summary k w₀ (set w j (get_or w j 0 + 1)) (i + 1)
    weigh_step =
        weighed-step triples m summary k w₀ w i j u D (omega (arith, W.room)) W.rising (q ∙ ap (moved (label m)) e) (stands_at i t u j h e q p)
