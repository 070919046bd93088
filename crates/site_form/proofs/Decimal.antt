-- The reader of a number gives n exactly where the text holds the numeral of n.
-- Assumes nothing.
use Prim.Native.Nat.{ℕ, zero, suc, ◌+◌, ◌-◌, ◌*◌, ◌/◌, ◌%◌, ◌≤◌, ◌<◌}
use mathlib.Core.Path.{◌≡◌, refl, sym, ◌∙◌, ap, ap₂, subst}
use mathlib.Core.Bool.{Bool, true, false, ◌&&◌}
use mathlib.Core.List.{List, [], ◌∷◌, ◌++◌, append_assoc}
use lib.Dec.{eqb, leb, ltb}
use lib.ListN.{length, drop, length-append}
use lib.Seq.{drop-drop, drop-append_seam}
use borrow.Author.Tests.{ltb-true, ltb-false, leb-true, lt-ltb, le-ltb, le-leb, eqb-true, eqb-false, ne_eqb}
use native.Mathlib.Numerals.{add-one}
use native.Mathlib.Omega.{arith}
use Rattle.site_form.specs.Text.{largest, U32, digits, numeral}
use Rattle.site_form.specs.Reading.{bad, got, digit, digit_first, more_of, number_of, number}
use Rattle.site_form.proofs.Readers.{not_bad, got-value, got-next, Takes, Says}

-- ── numerals ──
pub digits-small : (k n : ℕ) → n < 10 → digits (suc k) n ≡ (48 + n) ∷ []
unfolding digits
digits-small k n h = rw (lt-ltb n 10 h)

digits-large : (k n : ℕ) → 10 ≤ n → digits (suc k) n ≡ digits k (n / 10) ++ ((48 + n % 10) ∷ [])
unfolding digits
digits-large k n h = rw (le-ltb n 10 h)

-- small or large
size_cases : {P : Type 0} (n : ℕ) → (n < 10 → P) → (10 ≤ n → P) → P
size_cases {P} n f g = go (ltb n 10) refl
  where
    go : (t : Bool) → ltb n 10 ≡ t → P
    go true e = f (ltb-true n 10 e)
    go false e = g (ltb-false n 10 e)

-- any bound that is large enough gives the same digits
digits_same : (j k n : ℕ) → n < j → n < k → digits j n ≡ digits k n
digits_same zero k n p q = absurd (omega arith)
digits_same (suc j) zero n p q = absurd (omega arith)
digits_same (suc j) (suc k) n p q =
    size_cases n
    (λ h. digits-small j n h ∙ sym (digits-small k n h))
    (λ h. digits-large j n h ∙ ap (λ l. l ++ ((48 + n % 10) ∷ [])) (digits_same j k (n / 10) (omega arith) (omega arith)) ∙ sym (digits-large k n h))

-- one digit more
pub numeral-longer : (v d : ℕ) → 1 ≤ v → d < 10 → numeral (v * 10 + d) ≡ numeral v ++ ((48 + d) ∷ [])
unfolding numeral
numeral-longer v d h g =
    let n = v * 10 + d in
    let e : n / 10 ≡ v = omega arith in
    let f : n % 10 ≡ d = omega arith in
    digits-large n n (omega arith) ∙ rw (e, f) (ap (λ l. l ++ ((48 + d) ∷ [])) (digits_same n (suc v) v (omega arith) (omega arith)))

-- ── the steps of the reader ──
pub digit-range : (b : ℕ) → digit b ≡ true → (48 ≤ b) × (b < 58)
unfolding digit
digit-range b e = go (leb 48 b) refl e
  where
    go : (t : Bool) → leb 48 b ≡ t → (t && ltb b 58) ≡ true → (48 ≤ b) × (b < 58)
    go true p q = (leb-true 48 b p, ltb-true b 58 q)
    go false p q = let z : ◌≡◌ {A = ℕ} 0 1 = cc in absurd (omega arith)

digit_of : (d : ℕ) → d < 10 → digit (48 + d) ≡ true
unfolding digit
digit_of d h = rw (le-leb 48 (48 + d) (omega arith), lt-ltb (48 + d) 58 (omega arith))

module _ (v at b : ℕ) (bs : List ℕ) where
  pub more_stop : digit b ≡ false → more_of v at (b ∷ bs) ≡ got v at
  unfolding more_of
  more_stop e = rw e

  pub more-over : digit b ≡ true → largest < v * 10 + (b - 48) → more_of v at (b ∷ bs) ≡ bad
  unfolding more_of
  more-over e h = rw (e, lt-ltb _ _ h)

  pub more-on : digit b ≡ true → v * 10 + (b - 48) ≤ largest → more_of v at (b ∷ bs) ≡ more_of (v * 10 + (b - 48)) (suc at) bs
  unfolding more_of
  more-on e h = rw (e, le-ltb _ _ h)

module _ (at b : ℕ) (bs : List ℕ) where
  pub number_not : digit b ≡ false → number_of at (b ∷ bs) ≡ bad
  unfolding number_of
  number_not e = rw e

  pub number_more : digit b ≡ true → (b ≡ 48 → ⊥) → number_of at (b ∷ bs) ≡ more_of (b - 48) (suc at) bs
  unfolding number_of
  number_more e n = rw (e, ne_eqb b 48 n)

pub number-end : (at : ℕ) → number_of at [] ≡ bad
unfolding number_of
number-end at = refl

pub zero-leads : (at : ℕ) (bs : List ℕ) → digit_first bs ≡ true → number_of at (48 ∷ bs) ≡ bad
unfolding number_of digit
zero-leads at bs e = rw e

pub zero-alone : (at : ℕ) (bs : List ℕ) → digit_first bs ≡ false → number_of at (48 ∷ bs) ≡ got 0 (suc at)
unfolding number_of digit
zero-alone at bs e = rw e

more-ends : (v at : ℕ) (s : List ℕ) → digit_first s ≡ false → more_of v at s ≡ got v at
unfolding more_of digit_first
more-ends v at [] e = refl
more-ends v at (b ∷ bs) e = more_stop v at b bs e

-- ── a numeral is read ──
-- the digits of v are read as v, whatever follows
digits-read : (k v at : ℕ) (s : List ℕ) → v < k → 1 ≤ v → U32 v → number_of at (digits k v ++ s) ≡ more_of v (at + length (digits k v)) s
digits-read zero v at s h p u = absurd (omega arith)
digits-read (suc k) v at s h p u =
    size_cases v
    (λ g.
    let a : 48 + v - 48 ≡ v = omega arith in
    let b : suc at ≡ at + 1 = omega arith in
    let n : 48 + v ≡ 48 → ⊥ = λ q. omega arith in
    rw (digits-small k v g) (number_more at (48 + v) s (digit_of v g) n ∙ ap₂ (λ x y. more_of x y s) a b))
    (λ g.
    let w = v / 10 in
    let d = v % 10 in
    let ih = digits-read k w at ((48 + d) ∷ s) (omega arith) (omega arith) (omega arith) in
    let on = more-on w (at + length (digits k w)) (48 + d) s (digit_of d (omega arith)) (omega arith) in
    let a : w * 10 + (48 + d - 48) ≡ v = omega arith in
    let b : suc (at + length (digits k w)) ≡ at + length (digits k w ++ ((48 + d) ∷ [])) = omega (arith, length-append (digits k w) ((48 + d) ∷ [])) in
    rw (digits-large k v g, append_assoc (digits k w) ((48 + d) ∷ []) s) (ih ∙ on ∙ ap₂ (λ x y. more_of x y s) a b))

numeral-zero : numeral 0 ≡ 48 ∷ []
unfolding numeral digits
numeral-zero = refl

pub drop-next : (text : List ℕ) (at b : ℕ) (s : List ℕ) → drop at text ≡ b ∷ s → drop (suc at) text ≡ s
drop-next text at b s e = rw (← (add-one at), ← (drop-drop 1 at text), e)

-- the numeral of n is read as n, where no digit follows
pub number-takes : (text : List ℕ) (at n : ℕ) (s : List ℕ) → U32 n → digit_first s ≡ false → drop at text ≡ numeral n ++ s → Takes number text at n s
unfolding number numeral
number-takes text at zero s u f e =
    let e' : drop at text ≡ 48 ∷ s = e ∙ ap (λ l. l ++ s) numeral-zero in
    record { next = suc at; gives = rw e' (zero-alone at s f); rest = drop-next text at 48 s e' }
number-takes text at (suc m) s u f e =
    let n = suc m in
    let g = digits-read (suc n) n at s (omega arith) (omega arith) u ∙ more-ends n (at + length (numeral n)) s f in
    record { next = at + length (numeral n); gives = rw e g; rest = sym (drop-drop (length (numeral n)) at text) ∙ ap (drop (length (numeral n))) e ∙ drop-append_seam (numeral n) s }

-- ── what is read is a numeral ──
-- the numeral of v with the bytes bs behind it is the numeral of w with what is left behind it
Grows : (text : List ℕ) (v : ℕ) (bs : List ℕ) (w j : ℕ) → Type 0
Grows text v bs w j = U32 w × (numeral v ++ bs ≡ numeral w ++ drop j text)

stop_says : (text bs : List ℕ) (v at w j : ℕ) → drop at text ≡ bs → U32 v → got v at ≡ got w j → Grows text v bs w j
unfolding Grows
stop_says text bs v at w j e u q =
    let a = got-value q in
    let b = got-next q in
    (subst U32 a u, ap₂ (λ x y. numeral x ++ y) a (sym e ∙ ap (λ i. drop i text) b))

on-says : (text bs : List ℕ) (v b w j : ℕ) → 1 ≤ v → digit b ≡ true → Grows text (v * 10 + (b - 48)) bs w j → Grows text v (b ∷ bs) w j
unfolding Grows
on-says text bs v b w j p d g =
    let r = digit-range b d in
    let f : 48 + (b - 48) ≡ b = omega arith in
    let l = numeral-longer v (b - 48) p (omega arith) in
    (g.0, sym (append_assoc (numeral v) (b ∷ []) bs) ∙ ap (λ x. x ++ bs) (ap (λ x. numeral v ++ (x ∷ [])) (sym f) ∙ sym l) ∙ g.1)

more-says : (text bs : List ℕ) (v at w j : ℕ) → drop at text ≡ bs → 1 ≤ v → U32 v → more_of v at bs ≡ got w j → Grows text v bs w j
unfolding more_of
more-says text [] v at w j e p u q = stop_says text [] v at w j e u q
more-says text (b ∷ bs) v at w j e p u q =
    go (digit b) (ltb largest (v * 10 + (b - 48))) refl refl
    (λ n m. more-says text bs (v * 10 + (b - 48)) (suc at) w j (drop-next text at b bs e) m n)
  where
    go : (s t : Bool) → digit b ≡ s → ltb largest (v * 10 + (b - 48)) ≡ t
        → (U32 (v * 10 + (b - 48)) → 1 ≤ v * 10 + (b - 48) → more_of (v * 10 + (b - 48)) (suc at) bs ≡ got w j → Grows text (v * 10 + (b - 48)) bs w j) → Grows text v (b ∷ bs) w j
    go false t d l ih = stop_says text (b ∷ bs) v at w j e u (sym (more_stop v at b bs d) ∙ q)
    go true true d l ih = not_bad (more_of v at (b ∷ bs)) w j (more-over v at b bs d (ltb-true _ _ l)) q
    go true false d l ih = let h = ltb-false _ _ l in on-says text bs v b w j p d (ih h (omega arith) (sym (more-on v at b bs d h) ∙ q))

numeral-one : (b : ℕ) → 48 ≤ b → b < 58 → numeral (b - 48) ≡ b ∷ []
unfolding numeral
numeral-one b p q = let f : 48 + (b - 48) ≡ b = omega arith in digits-small (b - 48) (b - 48) (omega arith) ∙ ap (λ x. x ∷ []) f

zero-says : (text bs : List ℕ) (at n j : ℕ) → drop (suc at) text ≡ bs → number_of at (48 ∷ bs) ≡ got n j → U32 n × (48 ∷ bs ≡ numeral n ++ drop j text)
zero-says text bs at n j e q = go (digit_first bs) refl
  where
    go : (t : Bool) → digit_first bs ≡ t → U32 n × (48 ∷ bs ≡ numeral n ++ drop j text)
    go true f = not_bad (number_of at (48 ∷ bs)) n j (zero-leads at bs f) q
    go false f =
        let g = sym (zero-alone at bs f) ∙ q in
        let a : 0 ≡ n = got-value g in
        (omega arith, ap₂ ◌++◌ (sym numeral-zero ∙ ap numeral a) (sym e ∙ ap (λ i. drop i text) (got-next g)))

first_says : (text bs : List ℕ) (at n j : ℕ) → drop at text ≡ bs → number_of at bs ≡ got n j → U32 n × (bs ≡ numeral n ++ drop j text)
unfolding Grows
first_says text [] at n j e q = not_bad (number_of at []) n j (number-end at) q
first_says text (b ∷ bs) at n j e q = go (digit b) (eqb b 48) refl refl
  where
    go : (s t : Bool) → digit b ≡ s → eqb b 48 ≡ t → U32 n × (b ∷ bs ≡ numeral n ++ drop j text)
    go false t d z = not_bad (number_of at (b ∷ bs)) n j (number_not at b bs d) q
    go true true d z =
        let f : b ≡ 48 = eqb-true b 48 z in
        subst (λ x. U32 n × (x ∷ bs ≡ numeral n ++ drop j text)) (sym f)
        (zero-says text bs at n j (drop-next text at b bs e) (subst (λ x. number_of at (x ∷ bs) ≡ got n j) f q))
    go true false d z =
        let f = eqb-false b 48 z in
        let r = digit-range b d in
        let h : 48 < b = omega arith in
        let g = more-says text bs (b - 48) (suc at) n j (drop-next text at b bs e) (omega arith) (omega arith) (sym (number_more at b bs d f) ∙ q) in
        (g.0, ap (λ l. l ++ bs) (sym (numeral-one b r.0 r.1)) ∙ g.1)

pub number-says : (text : List ℕ) (at n j : ℕ) → number text at ≡ got n j → Says numeral U32 text at n j
unfolding number
number-says text at n j q =
    let h = first_says text (drop at text) at n j refl q in
    record { right = h.0; held = h.1 }
