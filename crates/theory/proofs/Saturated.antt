-- The list that saturation computes holds exactly what the rules derive, in rising order.
-- Assumes nothing.
use Prim.Native.Nat.{ℕ, zero, suc, ◌≤◌, ◌<◌, ◌+◌, ◌*◌}
use mathlib.Core.Path.{◌≡◌, refl, sym, subst, ap}
use mathlib.Core.Logic.{◌⊎◌, inl, inr, ⊎_elim, ◌↔◌}
use mathlib.Core.Bool.{true}
use mathlib.Core.List.Memᴰ.{head as here}
use mathlib.Core.List.Memᴰ.{not-nil as no-mem}
use mathlib.Core.List.Memᴰ.{tail as there}
use mathlib.Core.List.{List, [], ◌∷◌, Memᴰ as Mem}
use mathlib.Core.List.Memᴰ.{append_cases}
use mathlib.Core.List.Memᴰ.{append_left}
use mathlib.Core.List.Memᴰ.{append_right}
use native.Mathlib.Omega.{arith}
use native.Mathlib.Nat.{mul-le-mul_right}
use lib.Dec.{eqb}
use lib.ListN.{length, get_or}
use borrow.Author.Tests.{eqb-true, eqb-false}
use Rattle.model.specs.Rules.{Rule}
use Rattle.model.specs.declared.Triple.{Triple}
use Rattle.model.specs.declared.Vocabulary.{Vocabulary}
use Rattle.model.specs.Lists.{collect, when}
use Rattle.model.specs.Triples.{sorted}
use Rattle.model.specs.Order.{Lt, by_subject, by_property, by_object, Rising}
use Rattle.model.specs.Rules.{rules, place, fits, gives, Derives, given, by_rule}
use Rattle.model.specs.Saturation.{conclusions, round, rounds, saturation}
use Rattle.model.specs.Cliques.{Graph}
use Rattle.theory.proofs.Tests.{cond_cases}
use Rattle.theory.proofs.Lists.{when-mem, mem-when, collect-mem, mem-collect}
use Rattle.theory.proofs.Order.{sorted-rising, sorted-mem, mem-sorted, rising-length, rising-equal, rising_unique}
use Rattle.theory.specs.Tables.{Below, AllBelow, In}

-- ── n * n * n triples have codes below n ──
key : ℕ → Triple → ℕ
key n t = (t.subject * n + t.property) * n + t.object

-- a number of two digits in base n is smaller if its first digit is
digits_lt : (n x y d e : ℕ) → x < y → d < n → x * n + d < y * n + e
digits_lt n x y d e h k = omega (arith, mul-le-mul_right n h)

key-lt : (n : ℕ) {a b : Triple} → Below n a → Lt a b → key n a < key n b
unfolding key
key-lt n {a} {b} p (by_subject h) =
    digits_lt n (a.subject * n + a.property) (b.subject * n + b.property) a.object b.object
    (digits_lt n a.subject b.subject a.property b.property h p.property) p.object
key-lt n {a} {b} p (by_property e h) =
    let same-subject : a.subject * n ≡ b.subject * n = ap (λ (z : ℕ). z * n) e in
    digits_lt n (a.subject * n + a.property) (b.subject * n + b.property) a.object b.object (omega arith) p.object
key-lt n {a} {b} p (by_object e e' h) =
    let same-front : (a.subject * n + a.property) * n ≡ (b.subject * n + b.property) * n = λ i. (e i * n + e' i) * n in
    omega arith

key_below : (n : ℕ) {a : Triple} → Below n a → key n a < n * n * n
unfolding key
key_below n {a} p =
    let l : a.subject * n + a.property < n * n + 0 = digits_lt n a.subject n a.property 0 p.subject p.property in
    let k : (a.subject * n + a.property) * n + a.object < n * n * n + 0 = digits_lt n (a.subject * n + a.property) (n * n) a.object 0 (omega arith) p.object in
    omega arith

rising-room : (n : ℕ) (x : Triple) (xs : List Triple) → Rising (x ∷ xs) → AllBelow n (x ∷ xs) → key n x + length (x ∷ xs) ≤ n * n * n
rising-room n x [] h b = omega (arith, key_below n (b x (here refl)))
rising-room n x (y ∷ ys) h b =
    omega (arith, key-lt n (b x (here refl)) (h.0 y (here refl)), rising-room n y ys h.1 (λ t m. b t (there m)))

pub rising-few : (n : ℕ) (xs : List Triple) → Rising xs → AllBelow n xs → length xs ≤ n * n * n
rising-few n [] h b = omega arith
rising-few n (x ∷ xs) h b = omega (arith, rising-room n x xs h b)

module _ (v : Vocabulary) where
  -- ── one round ──
  -- a triple that a rule gives from two triples of the list
  pub record Drawn (ts : List Triple) (t : Triple) : Type 0 where
    pub rule_of : Rule
    pub first : Triple
    pub second : Triple
    pub in_table : Mem rule_of rules
    pub first_in : Mem first ts
    pub second_in : Mem second ts
    pub fitting : fits v rule_of first second ≡ true
    pub gives_it : t ≡ gives v rule_of first second

  pub round-mem : (ts : List Triple) (t : Triple) → Mem t (round v ts) → Mem t ts ⊎ Drawn ts t
  unfolding round conclusions
  round-mem ts t m = ⊎_elim (λ k. inr (drawn k)) (λ k. inl k) (append_cases (collect (conclusions v ts) rules) (sorted-mem t _ m))
    where
      drawn : Mem t (collect (conclusions v ts) rules) → Drawn ts t
      drawn k =
          let r = collect-mem (conclusions v ts) rules k in
          let a = collect-mem (λ a. collect (λ b. when (fits v r.0 a b) (gives v r.0 a b)) ts) ts r.2 in
          let b = collect-mem (λ b. when (fits v r.0 a.0 b) (gives v r.0 a.0 b)) ts a.2 in
          let w = when-mem b.2 in
          record { rule_of = r.0; first = a.0; second = b.0; in_table = r.1; first_in = a.1; second_in = b.1; fitting = w.0; gives_it = w.1 }

  pub round_keeps : (ts : List Triple) (t : Triple) → Mem t ts → Mem t (round v ts)
  unfolding round
  round_keeps ts t m = mem-sorted t _ (append_right (collect (conclusions v ts) rules) m)

  pub round-has : (ts : List Triple) (r : Rule) (a b : Triple) → Mem r rules → Mem a ts → Mem b ts → fits v r a b ≡ true → Mem (gives v r a b) (round v ts)
  unfolding round conclusions
  round-has ts r a b k m n e =
      mem-sorted (gives v r a b) _
      (append_left ts
      (mem-collect (conclusions v ts) rules r k
      (mem-collect (λ a. collect (λ b. when (fits v r a b) (gives v r a b)) ts) ts a m
      (mem-collect (λ b. when (fits v r a b) (gives v r a b)) ts b n (mem-when e)))))

  pub round-rising : (ts : List Triple) → Rising (round v ts)
  unfolding round
  round-rising ts = sorted-rising _

  -- ── codes stay below n ──
  get_d_below : (n : ℕ) (xs : List ℕ) (d k : ℕ) → ((x : ℕ) → Mem x xs → x < n) → d < n → get_or xs k d < n
  get_d_below n [] d k h l = l
  get_d_below n (x ∷ xs) d zero h l = h x (here refl)
  get_d_below n (x ∷ xs) d (suc k) h l = get_d_below n xs d k (λ y m. h y (there m)) l

  module _ (n : ℕ) (room : v.instance < n) where
    place-below : (a b : Triple) (k : ℕ) → Below n a → Below n b → place v a b k < n
    unfolding place
    place-below a b k p q = get_d_below n _ v.instance k six room
      where
        less : {x y : ℕ} → y < n → x ≡ y → x < n
        less l e = omega arith

        six : (x : ℕ) → Mem x (a.subject ∷ a.property ∷ a.object ∷ b.subject ∷ b.property ∷ b.object ∷ []) → x < n
        six x (here e) = less p.subject e
        six x (there (here e)) = less p.property e
        six x (there (there (here e))) = less p.object e
        six x (there (there (there (here e)))) = less q.subject e
        six x (there (there (there (there (here e))))) = less q.property e
        six x (there (there (there (there (there (here e)))))) = less q.object e
        six x (there (there (there (there (there (there m)))))) = absurd (no-mem m)

    pub gives-below : (r : Rule) (a b : Triple) → Below n a → Below n b → Below n (gives v r a b)
    unfolding gives
    gives-below r a b p q =
        record { subject = place-below a b r.subject p q; property = place-below a b r.property p q; object = place-below a b r.object p q }

    pub derives_below : {G : Graph} → ((t : Triple) → G t → Below n t) → {t : Triple} → Derives v G t → Below n t
    derives_below h (given {t} x) = h t x
    derives_below h (by_rule r a b k e g x y) = subst (Below n) (sym g) (gives-below r a b (derives_below h x) (derives_below h y))

    round-below : (ts : List Triple) → AllBelow n ts → AllBelow n (round v ts)
    round-below ts h t m =
        ⊎_elim (λ k. h t k)
        (λ (g : Drawn ts t). subst (Below n) (sym g.gives_it) (gives-below g.rule_of g.first g.second (h g.first g.first_in) (h g.second g.second_in)))
        (round-mem ts t m)

  -- ── derivations ──
  pub derives_cut : {G H : Graph} → ((t : Triple) → G t → Derives v H t) → {t : Triple} → Derives v G t → Derives v H t
  derives_cut f (given {t} x) = f t x
  derives_cut f (by_rule r a b k e g x y) = by_rule r a b k e g (derives_cut f x) (derives_cut f y)

  pub derives_map : {G H : Graph} → ((t : Triple) → G t → H t) → {t : Triple} → Derives v G t → Derives v H t
  derives_map f x = derives_cut (λ t y. given (f t y)) x

  pub round-derived : (ts : List Triple) (t : Triple) → Mem t (round v ts) → Derives v (In ts) t
  round-derived ts t m =
      ⊎_elim (λ k. given k)
      (λ (g : Drawn ts t). by_rule g.rule_of g.first g.second g.in_table g.fitting g.gives_it (given g.first_in) (given g.second_in))
      (round-mem ts t m)

  -- a list to which a round adds nothing is closed under the rules
  pub closed-has : (out : List Triple) → ((t : Triple) → Mem t (round v out) → Mem t out) → {t : Triple} → Derives v (In out) t → Mem t out
  closed-has out e (given m) = m
  closed-has out e (by_rule r a b k f g x y) =
      e _ (subst (λ (z : Triple). Mem z (round v out)) (sym g) (round-has out r a b k (closed-has out e x) (closed-has out e y) f))

  -- ── rounds ──
  -- the last list is rising, holds the first, holds only what is derived from it, and a further round adds nothing
  record Done (ts out : List Triple) : Type 0 where
    rising : Rising out
    keeps : (t : Triple) → Mem t ts → Mem t out
    derived : (t : Triple) → Mem t out → Derives v (In ts) t
    closed : round v out ≡ out

  -- a round that adds nothing leaves the list as it is
  round_same : (ts : List Triple) → Rising ts → length (round v ts) ≤ length ts → round v ts ≡ ts
  round_same ts h l = sym (rising-equal ts (round v ts) h (round-rising ts) (round_keeps ts) l)

  stopped : (ts : List Triple) → Rising ts → length (round v ts) ≤ length ts → Done ts ts
  stopped ts h l = record { rising = h; keeps = λ t m. m; derived = λ t m. given m; closed = round_same ts h l }

  module _ (n : ℕ) (room : v.instance < n) where
    rounds-done : (d : ℕ) (ts : List Triple) → Rising ts → AllBelow n ts → n * n * n ≤ length ts + d → Done ts (rounds v d ts)
    unfolding rounds
    rounds-done zero ts h b l = stopped ts h (omega (arith, rising-few n (round v ts) (round-rising ts) (round-below n room ts b)))
    rounds-done (suc d) ts h b l =
        cond_cases (Done ts) (eqb (length (round v ts)) (length ts)) (λ e. stopped ts h (omega (arith, eqb-true (length (round v ts)) (length ts) e)))
        (λ e.
        let ne : length (round v ts) ≡ length ts → ⊥ = eqb-false (length (round v ts)) (length ts) e in
        let longer = rising-length ts (round v ts) h (round_keeps ts) in
        onward (rounds-done d (round v ts) (round-rising ts) (round-below n room ts b) (omega arith)))
      where
        onward : Done (round v ts) (rounds v d (round v ts)) → Done ts (rounds v d (round v ts))
        onward z =
            record {
              rising = z.rising;
              keeps = λ t m. z.keeps t (round_keeps ts t m);
              derived = λ t m. derives_cut (round-derived ts) (z.derived t m);
              closed = z.closed;
            }

    saturation-done : (ts : List Triple) → AllBelow n ts → Done (sorted ts) (saturation v n ts)
    unfolding saturation
    saturation-done ts b = rounds-done (n * n * n) (sorted ts) (sorted-rising ts) (λ t m. b t (sorted-mem t ts m)) (omega arith)

    pub saturation-rising : (ts : List Triple) → AllBelow n ts → Rising (saturation v n ts)
    saturation-rising ts b = (saturation-done ts b).rising

    -- the computed list holds a triple exactly if the rules derive it
    pub saturation-exact : (ts : List Triple) → AllBelow n ts → (t : Triple) → Mem t (saturation v n ts) ↔ Derives v (In ts) t
    saturation-exact ts b t =
        let z = saturation-done ts b in (
          λ m. derives_map (λ u x. sorted-mem u ts x) (z.derived t m),
          λ x. closed-has (saturation v n ts) (λ u m. subst (Mem u) z.closed m) (derives_map (λ u y. z.keeps u (mem-sorted u ts y)) x),
        )

    pub saturation-below : (ts : List Triple) → AllBelow n ts → AllBelow n (saturation v n ts)
    saturation-below ts b t m = derives_below n room b ((saturation-exact ts b t).0 m)

    -- whatever rising list holds exactly what is derived is the saturation
    pub saturation_unique : (ts out : List Triple) → AllBelow n ts → Rising out → ((t : Triple) → Mem t out ↔ Derives v (In ts) t) → out ≡ saturation v n ts
    saturation_unique ts out b h f =
        rising_unique out (saturation v n ts) h (saturation-rising ts b)
        (λ t. let s = saturation-exact ts b t in (λ m. s.1 ((f t).0 m), λ m. (f t).1 (s.0 m)))
