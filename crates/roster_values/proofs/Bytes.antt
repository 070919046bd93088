-- The bytes of a word that is made of bytes, and the test of a word.
-- Assumes nothing.
use Prim.Native.Nat.{ℕ, zero, suc, ◌+◌, ◌*◌, ◌/◌, ◌%◌, ◌^◌, ◌<◌, ◌≤◌}
use mathlib.Core.Path.{◌≡◌, sym, ◌∙◌, ap, subst}
use mathlib.Core.Logic.{◌⊎◌, inl, inr, ⊎_elim}
use mathlib.Core.Bool.{true, false, not}
use mathlib.Core.List.{List, [], ◌∷◌}
use native.Mathlib.Omega.{arith}
use native.Mathlib.Nat.{mod-lt, mod-eq_of_lt, div-one, div-div-eq-div-mul, mul_comm, pow-suc}
use lib.Dec.{eqb, ltb, lit<}
use lib.ListN.{length, get_or, take, drop, length-drop, get_or-eq_default}
use lib.Seq.{ext_get_or, length-take-le}
use lib.Pow.{pow_pos, split}
use lib.Bits.{bit_and, and_block, and_high, and_zero_r}
use borrow.Author.Tests.{eq-eqb, ne_eqb, ltb-true, ltb-false}
use Rattle.model.specs.Lists.{tabulate}
use Rattle.model.specs.Roster.{mark}
use Rattle.theory.proofs.Tests.{bool_cases}
use Rattle.theory.proofs.Lists.{tabulate-at, length-tabulate}
use Rattle.std.specs.Int.{w64, to_le_bytes, from_le_bytes}
use Rattle.std.proofs.lemmas.Nat.{le_bytes_8}
use Rattle.std.proofs.lemmas.List.{get_or-take, get_or-drop}
use Rattle.theory.proofs.Runs.{run-found, run-each}
use Rattle.roster_values.specs.Bytes.{over_three, values, byte_of, bytes_of, upper_bits, WordTest}

-- ── one byte after the other ──
byte_low : (w : ℕ) → byte_of w 0 ≡ w % 256
unfolding byte_of
byte_low w = ap (λ (x : ℕ). x % 256) (div-one w)

byte_up : (w k : ℕ) → byte_of w (suc k) ≡ byte_of (w / 256) k
unfolding byte_of
byte_up w k =
    let p : 256 ^ suc k ≡ 256 * 256 ^ k = pow-suc 256 k ∙ mul_comm (256 ^ k) 256 in
    ap (λ (x : ℕ). w / x % 256) p ∙ ap (λ (x : ℕ). x % 256) (sym (div-div-eq-div-mul w 256 (256 ^ k)))

-- ── a word read from eight bytes ──
bytes_low : (w : ℕ) → bytes_of w ≡ to_le_bytes w64 w
unfolding tabulate byte_of
bytes_low w = λ j. byte_low w j ∷ byte_of w 1 ∷ byte_of w 2 ∷ byte_of w 3 ∷ byte_of w 4 ∷ byte_of w 5 ∷ byte_of w 6 ∷ byte_of w 7 ∷ []

-- eight values of a roster are a part of it
values-part : (l : List ℕ) (i n : ℕ) → i + n ≤ length l → values l i n ≡ take n (drop i l)
values-part l i n h =
    let t : length (take n (drop i l)) ≡ n = length-take-le n (drop i l) (omega (arith, h, length-drop i l)) in
    ext_get_or 0 (values l i n) (take n (drop i l)) (length-tabulate (mark l) i n ∙ sym t)
    (λ k x.
    let y : k < n = omega (arith, x, length-tabulate (mark l) i n) in
    tabulate-at (mark l) 0 i n k y ∙ sym (get_or-take n (drop i l) k 0 y ∙ get_or-drop i l k 0))

pub word-is : (l bs : List ℕ) (i n w : ℕ) → i + 8 ≤ length l → ((k : ℕ) → get_or l k 0 < 256) → bs ≡ take n (drop i l) → n ≡ 8 → w ≡ from_le_bytes w64 bs → bytes_of w ≡ values l i 8
word-is l bs i n w h small e q is = bytes_low w ∙ le_bytes_8 bs w (ap length p ∙ length-tabulate (mark l) i 8) each is ∙ p
  where
    p : bs ≡ values l i 8
    p = e ∙ ap (λ (m : ℕ). take m (drop i l)) q ∙ sym (values-part l i 8 h)

    value : (k : ℕ) → (ltb k 8 ≡ true) ⊎ (ltb k 8 ≡ false) → get_or (values l i 8) k 0 < 256
    value k (inl x) = omega (arith, tabulate-at (mark l) 0 i 8 k (ltb-true k 8 x), small (i + k))
    value k (inr x) = omega (arith, get_or-eq_default (values l i 8) 0 {n = k} (omega (arith, ltb-false k 8 x, length-tabulate (mark l) i 8)))

    each : (k : ℕ) → get_or bs k 0 < 256
    each k = subst (λ (x : List ℕ). get_or x k 0 < 256) (sym p) (value k (bool_cases (ltb k 8)))

-- ── the test ──
-- the six upper bits of each of n bytes
unfoldable overs : ℕ → ℕ
overs zero = 0
overs (suc n) = overs n * 2 ^ 8 + 252

low_and : (w e : ℕ) → bit_and w (e * 2 ^ 8 + 252) ≡ bit_and (w / 2 ^ 8) e * 2 ^ 8 + (w % 2 ^ 8 / 2 ^ 2 % 2 ^ 6) * 2 ^ 2
low_and w e =
    ap (λ (x : ℕ). bit_and x (e * 2 ^ 8 + 252)) (sym (split w 8))
    ∙ and_block 8 (w / 2 ^ 8) e (w % 2 ^ 8) 252 (mod-lt w (pow_pos 8)) (lit< tt)
    ∙ ap (λ (x : ℕ). bit_and (w / 2 ^ 8) e * 2 ^ 8 + x) (and_high (w % 2 ^ 8) 6 2)

-- one byte: its upper bits are zero exactly if it is at most 3
byte_zero : (r : ℕ) → r ≤ 3 → (r / 4 % 64) * 4 ≡ 0
byte_zero r h = omega arith

byte_over : (r : ℕ) → r < 256 → (r / 4 % 64) * 4 ≡ 0 → r ≤ 3
byte_over r h k =
    let small : r / 4 < 64 = omega arith in
    let q : r / 4 % 64 ≡ r / 4 = mod-eq_of_lt small in
    omega (arith, q, k)

-- for every number of bytes: the test passes exactly if none is over 3
passed : (n w : ℕ) → bit_and w (overs n) ≡ 0 → (k : ℕ) → k < n → byte_of w k ≤ 3
unfolding overs
passed zero w e k h = absurd (omega arith)
passed (suc n) w e zero h =
    let s = sym (low_and w (overs n)) ∙ e in
    let b : w % 256 ≤ 3 = byte_over (w % 256) (mod-lt w (lit< tt)) (omega (arith, s)) in
    omega (arith, b, byte_low w)
passed (suc n) w e (suc k) h =
    let s = sym (low_and w (overs n)) ∙ e in
    let q : bit_and (w / 256) (overs n) ≡ 0 = omega (arith, s) in
    let b = passed n (w / 256) q k (omega arith) in
    omega (arith, b, byte_up w k)

passes : (n w : ℕ) → ((k : ℕ) → k < n → byte_of w k ≤ 3) → bit_and w (overs n) ≡ 0
unfolding overs
passes zero w h = and_zero_r w
passes (suc n) w h =
    let q = passes n (w / 256) (λ k x. let b = h (suc k) (omega arith) in omega (arith, b, byte_up w k)) in
    let b = h 0 (omega arith) in
    let z = byte_zero (w % 256) (omega (arith, b, byte_low w)) in
    low_and w (overs n) ∙ omega (arith, q, z)

pub word_test_exact : WordTest
unfolding overs
word_test_exact w h = (passed 8 w, passes 8 w)

-- the test as the code has it
pub word_test : (w : ℕ) → not (eqb (bit_and w upper_bits) 0) ≡ over_three (bytes_of w)
unfolding overs over_three
word_test w =
    ⊎_elim
    (λ o.
    let f = run-found (ltb 3) (byte_of w) 0 8 o in
    let x = ltb-true 3 (byte_of w f.0) f.3 in
    ap not (ne_eqb _ 0 (λ z. let b = passed 8 w z f.0 (omega (arith, f.2)) in omega (arith, b, x))) ∙ sym o)
    (λ o.
    ap not (eq-eqb _ 0 (passes 8 w (λ k x. ltb-false 3 (byte_of w k) (run-each (ltb 3) (byte_of w) 0 8 o k (omega arith) (omega arith))))) ∙ sym o)
    (bool_cases (over_three (bytes_of w)))
