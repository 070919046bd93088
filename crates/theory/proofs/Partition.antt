-- Joining classes in a list of labels: one law for the cliques and for weak equivalence.
-- Assumes nothing.
use Prim.Native.Nat.{ℕ, zero, suc, ◌≤◌, ◌<◌, min, max}
use mathlib.Core.Path.{◌≡◌, refl, sym, subst, ◌∙◌, ap}
use mathlib.Core.Logic.{⊎_elim}
use mathlib.Core.Bool.{Bool, true, false, cond}
use mathlib.Core.List.Memᴰ.{cases_cons as mem-cases}
use mathlib.Core.List.Memᴰ.{head as here}
use mathlib.Core.List.Memᴰ.{not-nil as no-mem}
use mathlib.Core.List.Memᴰ.{tail as there}
use mathlib.Core.List.{List, [], ◌∷◌, map, Memᴰ as Mem}
use native.Mathlib.Omega.{arith}
use lib.Dec.{eqb, leb}
use lib.ListN.{length, length-map}
use borrow.Author.Tests.{eqb-true, eq-eqb, ne_eqb, leb-true, leb-false}
use Rattle.model.specs.Codes.{absent}
use Rattle.model.specs.Lists.{collect, when, tabulate}
use Rattle.model.specs.Partition.{label, Pair, union, merged, pairs}
use Rattle.theory.proofs.Tests.{cond_cases, bool_cases}
use Rattle.theory.proofs.Lists.{tabulate-at, tabulate-out, when-mem, mem-when, collect-mem, mem-collect}

-- The labels agree with a relation W on the active codes: each has a label that is active, related to it and no larger; the others have none.
pub record Labels (Active : ℕ → Type 0) (W : ℕ → ℕ → Type 0) (m : List ℕ) : Type 0 where
  pub active : (x : ℕ) → Active x → Active (label m x)
  pub related : (x : ℕ) → Active x → W x (label m x)
  pub low : (x : ℕ) → Active x → label m x ≤ x
  pub silent : (x : ℕ) → (Active x → ⊥) → label m x ≡ absent

-- a relation between active codes that can be turned and chained
pub record Joining (Active : ℕ → Type 0) (W : ℕ → ℕ → Type 0) : Type 0 where
  pub small : (x : ℕ) → Active x → x < absent
  pub flip : (x y : ℕ) → W x y → W y x
  pub through : (x y z : ℕ) → W x y → W y z → W x z

-- what joining does: the labels stay right, and what had one label keeps one
pub record Joined (Active : ℕ → Type 0) (W : ℕ → ℕ → Type 0) (m next : List ℕ) : Type 0 where
  pub right : Labels Active W next
  pub keeps : (x y : ℕ) → label m x ≡ label m y → label next x ≡ label next y

-- two codes that may be joined
pub record Joins (Active : ℕ → Type 0) (W : ℕ → ℕ → Type 0) (p : Pair) : Type 0 where
  pub one : Active p.one
  pub two : Active p.two
  pub related : W p.one p.two

-- what joining two classes does to a label
abbrev replaced : ℕ → ℕ → ℕ → ℕ
replaced hi lo l = cond (eqb l hi) lo l

abbrev relabel : ℕ → ℕ → List ℕ → List ℕ
relabel hi lo m = map (replaced hi lo) m

relabel-at : (hi lo : ℕ) (m : List ℕ) (x : ℕ) → (absent ≡ hi → ⊥) → label (relabel hi lo m) x ≡ replaced hi lo (label m x)
relabel-at hi lo [] x h = ap (λ (b : Bool). cond b lo absent) (sym (ne_eqb absent hi h))
relabel-at hi lo (y ∷ ys) zero h = refl
relabel-at hi lo (y ∷ ys) (suc x) h = relabel-at hi lo ys x h

module _ (Active : ℕ → Type 0) (W : ℕ → ℕ → Type 0) (J : Joining Active W) where
  -- the class of a is put under the label of b
  module _ (a b : ℕ) (m : List ℕ) (act : Active a) (bct : Active b) (w : W a b) (L : Labels Active W m) (le : label m b ≤ label m a) where
    under-named : absent ≡ label m a → ⊥
    under-named e = omega (arith, J.small (label m a) (L.active a act))

    under : (x : ℕ) → label (relabel (label m a) (label m b) m) x ≡ replaced (label m a) (label m b) (label m x)
    under x = relabel-at (label m a) (label m b) m x under-named

    under-case : (P : ℕ → Type 0) (x : ℕ) → (label m x ≡ label m a → P (label m b)) → P (label m x) → P (label (relabel (label m a) (label m b) m) x)
    under-case P x f g = subst P (sym (under x)) (cond_cases P (eqb (label m x) (label m a)) (λ e. f (eqb-true _ _ e)) (λ e. g))

    under-joined : Joined Active W m (relabel (label m a) (label m b) m)
    under-joined = record {
      right = record {
        active = λ x h. under-case Active x (λ e. L.active b bct) (L.active x h);
        related = λ x h. under-case (W x) x
            (λ e. J.through x (label m a) (label m b) (subst (W x) e (L.related x h))
            (J.through (label m a) a (label m b) (J.flip a (label m a) (L.related a act)) (J.through a b (label m b) w (L.related b bct))))
            (L.related x h);
        low = λ x h. under-case (λ (l : ℕ). l ≤ x) x (λ e. omega (arith, L.low x h)) (L.low x h);
        silent = λ x h. under-case (λ (l : ℕ). l ≡ absent) x (λ e. absurd (under-named (sym (L.silent x h) ∙ e))) (L.silent x h);
      };
      keeps = λ x y e. under x ∙ ap (replaced (label m a) (label m b)) e ∙ sym (under y);
    }

    under-agree : label (relabel (label m a) (label m b) m) a ≡ label (relabel (label m a) (label m b) m) b
    under-agree =
        under a ∙ ap (λ (t : Bool). cond t (label m b) (label m a)) (eq-eqb (label m a) (label m a) refl)
        ∙ sym (under b ∙ cond_cases (λ (l : ℕ). l ≡ label m b) (eqb (label m b) (label m a)) (λ e. refl) (λ e. refl))

  abbrev One : Pair → List ℕ → List ℕ → Type 0
  One p m next = Joined Active W m next × (label next p.one ≡ label next p.two)

  union-joined : (p : Pair) (m : List ℕ) → Joins Active W p → Labels Active W m → One p m (union p m)
  unfolding union
  union-joined p m j L = ⊎_elim (λ e. down (leb-true _ _ e)) (λ e. up (omega (arith, leb-false (label m p.two) (label m p.one) e))) (bool_cases (leb (label m p.two) (label m p.one)))
    where
      down : label m p.two ≤ label m p.one → One p m (union p m)
      down h =
          let x : max (label m p.one) (label m p.two) ≡ label m p.one = omega arith in
          let y : min (label m p.one) (label m p.two) ≡ label m p.two = omega arith in
          let e : union p m ≡ relabel (label m p.one) (label m p.two) m = λ i. relabel (x i) (y i) m in
          subst (One p m) (sym e) (under-joined p.one p.two m j.one j.two j.related L h, under-agree p.one p.two m j.one j.two j.related L h)

      up : label m p.one ≤ label m p.two → One p m (union p m)
      up h =
          let x : max (label m p.one) (label m p.two) ≡ label m p.two = omega arith in
          let y : min (label m p.one) (label m p.two) ≡ label m p.one = omega arith in
          let e : union p m ≡ relabel (label m p.two) (label m p.one) m = λ i. relabel (x i) (y i) m in
          let r = J.flip p.one p.two j.related in
          subst (One p m) (sym e) (under-joined p.two p.one m j.two j.one r L h, sym (under-agree p.two p.one m j.two j.one r L h))

  -- ── a list of pairs ──
  pub record Merged (ps : List Pair) (m next : List ℕ) : Type 0 where
    pub joined : Joined Active W m next
    pub agree : (p : Pair) → Mem p ps → label next p.one ≡ label next p.two

  pub merged-all : (ps : List Pair) (m : List ℕ) → ((p : Pair) → Mem p ps → Joins Active W p) → Labels Active W m → Merged ps m (merged ps m)
  unfolding merged
  merged-all [] m h L = record { joined = record { right = L; keeps = λ x y e. e }; agree = λ p k. absurd (no-mem k) }
  merged-all (q ∷ ps) m h L =
      let rest = merged-all ps m (λ p k. h p (there k)) L in
      let u = union-joined q (merged ps m) (h q (here refl)) rest.joined.right in
      record {
        joined = record { right = u.0.right; keeps = λ x y e. u.0.keeps x y (rest.joined.keeps x y e) };
        agree = λ p k. ⊎_elim
            (λ (e : p ≡ q). subst (λ (z : Pair). label (union q (merged ps m)) z.one ≡ label (union q (merged ps m)) z.two) (sym e) u.1)
            (λ n. u.0.keeps p.one p.two (rest.agree p n)) (mem-cases k);
      }

-- ── the pairs of a test ──
module _ {A : Type 0} (test : A → A → Bool) (code : A → ℕ) (xs : List A) where
  abbrev pair_of : A → A → Pair
  pair_of a b = record { one = code a; two = code b }

  pub record Tested (p : Pair) : Type 0 where
    pub first : A
    pub second : A
    pub first_in : Mem first xs
    pub second_in : Mem second xs
    pub passes : test first second ≡ true
    pub is_pair : p ≡ record { one = code first; two = code second }

  pub pairs-mem : (p : Pair) → Mem p (pairs test code xs) → Tested p
  unfolding pairs
  pairs-mem p m =
      let a = collect-mem (λ a. collect (λ b. when (test a b) (pair_of a b)) xs) xs m in
      let b = collect-mem (λ b. when (test a.0 b) (pair_of a.0 b)) xs a.2 in
      let w = when-mem b.2 in
      record { first = a.0; second = b.0; first_in = a.1; second_in = b.1; passes = w.0; is_pair = w.1 }

  pub mem-pairs : (a b : A) → Mem a xs → Mem b xs → test a b ≡ true → Mem (pair_of a b) (pairs test code xs)
  unfolding pairs
  mem-pairs a b k l h =
      mem-collect (λ a. collect (λ b. when (test a b) (pair_of a b)) xs) xs a k (mem-collect (λ b. when (test a b) (pair_of a b)) xs b l (mem-when h))

-- ── the list to start with ──
pub start-labels : (Active : ℕ → Type 0) (W : ℕ → ℕ → Type 0) (f : ℕ → Bool) (n : ℕ)
    → ((x : ℕ) → Active x → (x < n) × (f x ≡ true) × W x x) → ((x : ℕ) → f x ≡ true → Active x) → Labels Active W (tabulate (λ c. cond (f c) c absent) 0 n)
start-labels Active W f n h g =
    record {
      active = λ x a. subst Active (sym (own x a)) a;
      related = λ x a. subst (W x) (sym (own x a)) (h x a).2;
      low = λ x a. omega (arith, own x a);
      silent = λ x a. ⊎_elim (λ (e : leb n x ≡ true). tabulate-out _ absent 0 n x (leb-true _ _ e))
          (λ (e : leb n x ≡ false). at-start x (leb-false _ _ e) ∙ cond_cases (λ (l : ℕ). l ≡ absent) (f x) (λ t. absurd (a (g x t))) (λ t. refl))
          (bool_cases (leb n x));
    }
  where
    at-start : (x : ℕ) → x < n → label (tabulate (λ c. cond (f c) c absent) 0 n) x ≡ cond (f x) x absent
    at-start x l = tabulate-at (λ c. cond (f c) c absent) absent 0 n x l ∙ ap (λ (z : ℕ). cond (f z) z absent) (omega arith)

    own : (x : ℕ) → Active x → label (tabulate (λ c. cond (f c) c absent) 0 n) x ≡ x
    own x a = at-start x (h x a).0 ∙ ap (λ (t : Bool). cond t x absent) (h x a).1

-- ── lengths ──
pub length_merged : (ps : List Pair) (m : List ℕ) → length (merged ps m) ≡ length m
unfolding merged union
length_merged [] m = refl
length_merged (p ∷ ps) m = length-map (merged ps m) _ ∙ length_merged ps m
