-- Numerals, digit by digit from the last.
-- Assumes nothing.
use Prim.Native.Nat.{ℕ, zero, suc, ◌+◌, ◌-◌, ◌*◌, ◌/◌, ◌%◌, ◌<◌, ◌≤◌}
use mathlib.Core.Path.{◌≡◌, sym, ◌∙◌, ap}
use mathlib.Core.List.{List, [], ◌∷◌, ◌++◌}
use native.Mathlib.Omega.{arith}
use lib.ListN.{length, set, length-append}
use lib.Seq.{sets}
use Rattle.lists.proofs.Compare.{Cmp, lt, eq, gt, cmp}
use Rattle.site_form.specs.Text.{numeral}
use Rattle.site_form.proofs.Decimal.{digits-small, numeral-longer}
use Rattle.site_bytes.specs.Calls.{Put}
use Rattle.site_bytes.proofs.Stores.{set-size, sets_last}

one-digit : (n : ℕ) → n < 10 → numeral n ≡ (48 + n) ∷ []
unfolding numeral
one-digit n h = digits-small n n h

last-digit : (n : ℕ) → 10 ≤ n → numeral n ≡ numeral (n / 10) ++ ((48 + n % 10) ∷ [])
last-digit n h =
    let e : n ≡ n / 10 * 10 + n % 10 = omega arith in
    ap numeral e ∙ numeral-longer (n / 10) (n % 10) (omega arith) (omega arith)

one-long : (n : ℕ) → n < 10 → length (numeral n) ≡ 1
one-long n h = ap length (one-digit n h)

one-longer : (n : ℕ) → 10 ≤ n → length (numeral n) ≡ length (numeral (n / 10)) + 1
one-longer n h = ap length (last-digit n h) ∙ length-append (numeral (n / 10)) ((48 + n % 10) ∷ [])

-- ── their length ──
pub record Counting (v count rest : ℕ) : Type 0 where
  pub counts : count + length (numeral rest) ≡ length (numeral v) + 1
  pub small : count + rest ≤ v + 1

pub count-step : (v count rest : ℕ) → Counting v count rest → 10 ≤ rest → Counting v (count + 1) (rest / 10)
count-step v count rest h g = record { counts = omega (arith, h.counts, one-longer rest g); small = omega (arith, h.small) }

pub count-end : (v count rest : ℕ) → Counting v count rest → rest < 10 → count ≡ length (numeral v)
count-end v count rest h g = omega (arith, h.counts, one-long rest g)

-- numbers below a power of ten
power : ℕ → ℕ
power zero = 1
power (suc k) = 10 * power k

short : (k n : ℕ) → n < 10 * power k → length (numeral n) ≤ suc k
unfolding power
short zero n h = omega (arith, one-long n (omega arith))
short (suc k) n h = go (cmp n 10) (short k (n / 10))
  where
    go : Cmp n 10 → (n / 10 < 10 * power k → length (numeral (n / 10)) ≤ suc k) → length (numeral n) ≤ suc (suc k)
    go (lt x) ih = omega (arith, one-long n x)
    go (eq x) ih = omega (arith, one-longer n (omega arith), ih (omega arith))
    go (gt x) ih = omega (arith, one-longer n (omega arith), ih (omega arith))

pub three_digits : (n : ℕ) → n < 1000 → length (numeral n) ≤ 3
unfolding power
three_digits n h = short 2 n h

pub five-digits : (n : ℕ) → n < 100000 → length (numeral n) ≤ 5
unfolding power
five-digits n h = short 4 n h

-- ── storing them ──
-- the digits of `rest` are left to store
pub record Numbering (l₀ : List ℕ) (at v : ℕ) (l : List ℕ) (rest i : ℕ) : Type 0 where
  pub place : i ≡ at + length (numeral rest)
  pub gives : sets l at (numeral rest) ≡ sets l₀ at (numeral v)
  pub size : length l ≡ length l₀

module _ (l₀ : List ℕ) (at v : ℕ) where
  module _ (l : List ℕ) (rest i : ℕ) (h : Numbering l₀ at v l rest i) where
    pub some_left : 10 ≤ rest → 1 ≤ i
    some_left g = omega (arith, h.place, one-longer rest g)

    pub numeral-step : 10 ≤ rest → (m : List ℕ) → m ≡ set l (i - 1) (48 + rest % 10) → Numbering l₀ at v m (rest / 10) (i - 1)
    numeral-step g m e =
        let p : i - 1 ≡ at + length (numeral (rest / 10)) = omega (arith, h.place, one-longer rest g) in
        record {
          place = p;
          gives =
              ap (λ (x : List ℕ). sets x at (numeral (rest / 10))) (e ∙ ap (λ (k : ℕ). set l k (48 + rest % 10)) p)
              ∙ sets_last l at (numeral (rest / 10)) (48 + rest % 10)
              ∙ ap (sets l at) (sym (last-digit rest g))
              ∙ h.gives;
          size = set-size l m (i - 1) (48 + rest % 10) e ∙ h.size;
        }

    pub numeral-end : rest < 10 → (m : List ℕ) → m ≡ set l at (48 + rest) → (next k : ℕ) → k ≡ length (numeral v) → next ≡ at + k → Put l₀ at (numeral v) m next
    numeral-end g m e next k ek en = record {
      list = e ∙ ap (sets l at) (sym (one-digit rest g)) ∙ h.gives;
      next = omega arith;
    }
