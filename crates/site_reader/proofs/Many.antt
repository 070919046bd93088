-- Forms that follow one another: what they give, form by form.
-- Assumes nothing.
use Prim.Native.Nat.{ℕ, zero, suc, ◌+◌, ◌≤◌, ◌-◌}
use mathlib.Core.Path.{◌≡◌, refl, ◌∙◌, ap}
use mathlib.Core.List.{List, [], ◌∷◌, ◌++◌}
use native.Mathlib.Omega.{arith}
use lib.ListN.{length, drop, replicate, length-replicate}
use lib.Seq.{sets, sets-eq}
use Rattle.site_form.specs.Reading.{Step, bad, got, Reader, and_then, many}
use Rattle.site_form.proofs.Readers.{many_stop, many-on}
use Rattle.site_tokens.specs.Steps.{mapped, items, after}

module _ {A : Type 0} (r : Reader A) (text : List ℕ) where
  -- they always give a list
  pub many-got : (k at : ℕ) → many k r text at ≡ got (items (many k r text at)) (after (many k r text at))
  unfolding many
  many-got zero at = refl
  many-got (suc k) at = go (r text at) refl (many-got k)
    where
      go : (s : Step A) → r text at ≡ s → ((i : ℕ) → many k r text i ≡ got (items (many k r text i)) (after (many k r text i)))
          → many (suc k) r text at ≡ got (items (many (suc k) r text at)) (after (many (suc k) r text at))
      go bad e ih = rw e
      go (got x i) e ih = rw (e, ih i)

  pub items-none : (at : ℕ) → items (many 0 r text at) ≡ []
  unfolding many
  items-none at = refl

  pub after_none : (at : ℕ) → after (many 0 r text at) ≡ at
  unfolding many
  after_none at = refl

  module _ (at : ℕ) (e : r text at ≡ bad) where
    pub items_stop : (k : ℕ) → items (many k r text at) ≡ []
    items_stop zero = items-none at
    items_stop (suc k) = ap items (many_stop r text k at e)

    pub after_stop : (k : ℕ) → after (many k r text at) ≡ at
    after_stop zero = after_none at
    after_stop (suc k) = ap after (many_stop r text k at e)

  module _ (k j at i : ℕ) (x : A) (e : r text at ≡ got x i) (l : j ≡ suc k) where
    on : many j r text at ≡ got (x ∷ items (many k r text i)) (after (many k r text i))
    on = ap (λ (n : ℕ). many n r text at) l ∙ many-on r text k at x i e ∙ ap (λ (m : Step (List A)). and_then m (λ xs n. got (x ∷ xs) n)) (many-got k i)

    pub items-on : items (many j r text at) ≡ x ∷ items (many k r text i)
    items-on = ap items on

    pub after_on : after (many j r text at) ≡ after (many k r text i)
    after_on = ap after on

  pub items-few : (k at : ℕ) → length (items (many k r text at)) ≤ k
  items-few zero at = let e : length (items (many 0 r text at)) ≡ 0 = ap length (items-none at) in omega arith
  items-few (suc k) at = go (r text at) refl (items-few k)
    where
      go : (s : Step A) → r text at ≡ s → ((i : ℕ) → length (items (many k r text i)) ≤ k) → length (items (many (suc k) r text at)) ≤ suc k
      go bad e ih = let f : length (items (many (suc k) r text at)) ≡ 0 = ap length (items_stop at e (suc k)) in omega arith
      go (got x i) e ih =
          let f : length (items (many (suc k) r text at)) ≡ suc (length (items (many k r text i))) = ap length (items-on k (suc k) at i x e refl) in
          omega (arith, ih i)

-- ── steps put through a function ──
module _ {A B : Type 0} (f : A → B) where
  pub mapped-bad : (s : Step A) → bad ≡ mapped f s → s ≡ bad
  mapped-bad bad e = refl
  mapped-bad (got x i) e = let z : ◌≡◌ {A = ℕ} 0 1 = cc in absurd (omega arith)

  pub mapped-got : (s : Step A) (y : B) (j : ℕ) → got y j ≡ mapped f s → (x : A) × (s ≡ got x j) × (y ≡ f x)
  mapped-got bad y j e = let z : ◌≡◌ {A = ℕ} 0 1 = cc in absurd (omega arith)
  mapped-got (got x i) y j e = (x, let n : i ≡ j = cc in ap (got x) n, cc)

-- ── values stored in front of equal ones ──
module _ {A : Type 0} (b : A) where
  drop_replicate : (k n : ℕ) → drop k (replicate n b) ≡ replicate (n - k) b
  drop_replicate zero n = let e : n ≡ n - 0 = omega arith in ap (λ (m : ℕ). replicate m b) e
  drop_replicate (suc k) zero = let e : 0 ≡ 0 - suc k = omega arith in ap (λ (m : ℕ). replicate m b) e
  drop_replicate (suc k) (suc n) = let e : n - k ≡ suc n - suc k = omega arith in drop_replicate k n ∙ ap (λ (m : ℕ). replicate m b) e

  pub sets_front : (n : ℕ) (xs : List A) → length xs ≤ n → sets (replicate n b) 0 xs ≡ xs ++ replicate (n - length xs) b
  sets_front n xs h =
      let e : 0 + length xs ≡ length xs = omega arith in
      sets-eq xs (replicate n b) 0 (omega (arith, length-replicate n b))
      ∙ ap (λ (l : List A). xs ++ l) (ap (λ (k : ℕ). drop k (replicate n b)) e ∙ drop_replicate (length xs) n)
