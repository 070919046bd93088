-- Marking the roles of triples, and that it makes the own roster.
-- Assumes nothing.
use Prim.Native.Nat.{ℕ, suc, ◌+◌, ◌-◌, ◌/◌, ◌≤◌, ◌<◌}
use mathlib.Core.Path.{◌≡◌, refl, sym, ◌∙◌, ap}
use mathlib.Core.Logic.{⊎_elim}
use mathlib.Core.Bool.{Bool, true, false, cond, ◌||◌, or_assoc}
use mathlib.Core.List.Memᴰ.{head as here}
use mathlib.Core.List.Memᴰ.{tail as there}
use mathlib.Core.List.{List, [], ◌∷◌, Memᴰ as Mem}
use native.Mathlib.Omega.{arith}
use native.Mathlib.Numerals.{add-one}
use native.Mathlib.Nat.{zero-add}
use lib.Dec.{eqb}
use lib.ListN.{length, get_or, set, length-set, replicate, length-replicate, get_or-replicate}
use lib.Seq.{get_or-set_same, get_or-set_other, ext_get_or}
use borrow.Author.Tests.{eqb-true, eqb-false}
use Rattle.model.specs.declared.Triple.{Triple}
use Rattle.model.specs.declared.Vocabulary.{Vocabulary}
use Rattle.model.specs.Lists.{any, among, tabulate, zeros}
use Rattle.model.specs.Triples.{triples}
use Rattle.model.specs.Roster.{class_roles, property_roles, class_in, property_in, own_roster}
use Rattle.theory.proofs.Tests.{bool_cases}
use Rattle.theory.proofs.Lists.{tabulate-at, length-tabulate}
use Rattle.theory.specs.Tables.{Below, AllBelow}
use Rattle.theory.proofs.OwnRoster.{Role, as_subject, as_object, as_property, class_role, property_role}
use Rattle.lists.specs.Flat.{at}
use Rattle.lists.proofs.Places.{triples-table}
use Rattle.roster.specs.Marks.{with_class, with_property, class_marked, property_marked, all_marked, roles_marked, table_marked}

-- ── marks ──
pub class-stored : (l : List ℕ) (c i m : ℕ) → i ≡ c → m ≡ with_class (get_or l i 0) → set l i m ≡ class_marked l c
unfolding class_marked
class-stored l c i m e h = λ k. set l (e k) ((h ∙ ap (λ (j : ℕ). with_class (get_or l j 0)) e) k)

pub property-stored : (l : List ℕ) (c i m : ℕ) → i ≡ c → m ≡ with_property (get_or l i 0) → set l i m ≡ property_marked l c
unfolding property_marked
property-stored l c i m e h = λ k. set l (e k) ((h ∙ ap (λ (j : ℕ). with_property (get_or l j 0)) e) k)

class-length : (l : List ℕ) (c : ℕ) → length (class_marked l c) ≡ length l
unfolding class_marked
class-length l c = length-set l c _

property-length : (l : List ℕ) (c : ℕ) → length (property_marked l c) ≡ length l
unfolding property_marked
property-length l c = length-set l c _

all-length : (f : List ℕ → ℕ → List ℕ) → ((l : List ℕ) (c : ℕ) → length (f l c) ≡ length l) → (cs l : List ℕ) → length (all_marked f l cs) ≡ length l
unfolding all_marked
all-length f h [] l = refl
all-length f h (c ∷ cs) l = h (all_marked f l cs) c ∙ all-length f h cs l

-- ── the roster stands for two predicates ──
abbrev bits : Bool → Bool → ℕ
bits a b = cond a 1 0 + cond b 2 0

record Stands (n : ℕ) (l : List ℕ) (P Q : ℕ → Bool) : Type 0 where
  size : length l ≡ n
  entry : (c : ℕ) → c < n → get_or l c 0 ≡ bits (P c) (Q c)

bits-class : (a b : Bool) → with_class (bits a b) ≡ bits true b
unfolding with_class
bits-class true true = refl
bits-class true false = refl
bits-class false true = refl
bits-class false false = refl

bits-property : (a b : Bool) → with_property (bits a b) ≡ bits a true
unfolding with_property
bits-property true true = refl
bits-property true false = refl
bits-property false true = refl
bits-property false false = refl

class-stands : (n : ℕ) (l : List ℕ) (P Q : ℕ → Bool) (d : ℕ) → d < n → Stands n l P Q → Stands n (class_marked l d) (λ c. eqb c d || P c) Q
unfolding class_marked
class-stands n l P Q d h s =
    record {
      size = length-set l d _ ∙ s.size;
      entry = λ c k. ⊎_elim
          (λ (e : eqb c d ≡ true).
          let q = eqb-true c d e in
          ap (λ (i : ℕ). get_or (set l d (with_class (get_or l d 0))) i 0) q ∙ get_or-set_same l d _ 0 (omega (arith, s.size)) ∙ ap with_class (s.entry d h) ∙ bits-class (P d) (Q d)
          ∙ (λ i. bits (sym e i || P c) (Q (sym q i))))
          (λ (e : eqb c d ≡ false). get_or-set_other l d c _ 0 (eqb-false c d e) ∙ s.entry c k ∙ (λ i. bits (sym e i || P c) (Q c)))
          (bool_cases (eqb c d));
    }

property-stands : (n : ℕ) (l : List ℕ) (P Q : ℕ → Bool) (d : ℕ) → d < n → Stands n l P Q → Stands n (property_marked l d) P (λ c. eqb c d || Q c)
unfolding property_marked
property-stands n l P Q d h s =
    record {
      size = length-set l d _ ∙ s.size;
      entry = λ c k. ⊎_elim
          (λ (e : eqb c d ≡ true).
          let q = eqb-true c d e in
          ap (λ (i : ℕ). get_or (set l d (with_property (get_or l d 0))) i 0) q ∙ get_or-set_same l d _ 0 (omega (arith, s.size)) ∙ ap with_property (s.entry d h) ∙ bits-property (P d) (Q d)
          ∙ (λ i. bits (P (sym q i)) (sym e i || Q c)))
          (λ (e : eqb c d ≡ false). get_or-set_other l d c _ 0 (eqb-false c d e) ∙ s.entry c k ∙ (λ i. bits (P c) (sym e i || Q c)))
          (bool_cases (eqb c d));
    }

-- equal predicates
stands_same : (n : ℕ) (l : List ℕ) (P Q P' Q' : ℕ → Bool) → ((c : ℕ) → P c ≡ P' c) → ((c : ℕ) → Q c ≡ Q' c) → Stands n l P Q → Stands n l P' Q'
stands_same n l P Q P' Q' p q s = record { size = s.size; entry = λ c h. s.entry c h ∙ (λ i. bits (p c i) (q c i)) }

classes_stand : (n : ℕ) (cs l : List ℕ) (P Q : ℕ → Bool) → ((c : ℕ) → Mem c cs → c < n) → Stands n l P Q → Stands n (all_marked class_marked l cs) (λ c. among c cs || P c) Q
unfolding all_marked among any
classes_stand n [] l P Q h s = s
classes_stand n (d ∷ cs) l P Q h s =
    stands_same n (class_marked (all_marked class_marked l cs) d) (λ c. eqb c d || (among c cs || P c)) Q (λ c. among c (d ∷ cs) || P c) Q (λ c. sym (or_assoc (eqb c d) (among c cs) (P c))) (λ c. refl)
    (class-stands n (all_marked class_marked l cs) (λ c. among c cs || P c) Q d (h d (here refl)) (classes_stand n cs l P Q (λ c m. h c (there m)) s))

properties_stand : (n : ℕ) (cs l : List ℕ) (P Q : ℕ → Bool) → ((c : ℕ) → Mem c cs → c < n) → Stands n l P Q → Stands n (all_marked property_marked l cs) P (λ c. among c cs || Q c)
unfolding all_marked among any
properties_stand n [] l P Q h s = s
properties_stand n (d ∷ cs) l P Q h s =
    stands_same n (property_marked (all_marked property_marked l cs) d) P (λ c. eqb c d || (among c cs || Q c)) P (λ c. among c (d ∷ cs) || Q c) (λ c. refl) (λ c. sym (or_assoc (eqb c d) (among c cs) (Q c)))
    (property-stands n (all_marked property_marked l cs) P (λ c. among c cs || Q c) d (h d (here refl)) (properties_stand n cs l P Q (λ c m. h c (there m)) s))

-- (b or (a or p)) is ((a or b) or p)
or_swap : (a b p : Bool) → (b || (a || p)) ≡ ((a || b) || p)
or_swap true true p = refl
or_swap true false p = refl
or_swap false true p = refl
or_swap false false p = refl

or_none_lem : (a : Bool) → (a || false) ≡ a
or_none_lem true = refl
or_none_lem false = refl

module _ (v : Vocabulary) where
  -- ── all triples, one after the other ──
  -- what is left to mark from place i on ends where marking all from the start ends
  abbrev pub Left : List ℕ → List ℕ → ℕ → ℕ → List ℕ → Type 0
  Left table roster n i now = table_marked v now (tabulate (at table) i (n - i)) ≡ table_marked v roster (triples table)

  pub left-start : (table roster : List ℕ) → Left table roster (length table / 3) 0 roster
  left-start table roster = ap (table_marked v roster) ((λ k. tabulate (at table) 0 (sub-zero (length table / 3) k)) ∙ sym (triples-table table))
    where
      sub-zero : (n : ℕ) → n - 0 ≡ n
      sub-zero n = omega arith

  pub left_step : (table roster : List ℕ) (n i : ℕ) (now next : List ℕ) (t : Triple) → i < n → t ≡ at table i → next ≡ roles_marked v now t
      → Left table roster n i now → Left table roster n (i + 1) next
  unfolding table_marked tabulate
  left_step table roster n i now next t h e q l =
      let m : n - i ≡ suc (n - (i + 1)) = omega arith in
      let s : i + 1 ≡ suc i = add-one i in
      (λ k. table_marked v ((q ∙ ap (roles_marked v now) e) k) (tabulate (at table) (s k) (n - (i + 1))))
      ∙ (λ k. table_marked v now (tabulate (at table) i (sym m k))) ∙ l

  pub left_end : (table roster : List ℕ) (n i : ℕ) (now : List ℕ) → n ≤ i → Left table roster n i now → now ≡ table_marked v roster (triples table)
  unfolding table_marked tabulate
  left_end table roster n i now h l = (λ k. table_marked v now (tabulate (at table) i (none k))) ∙ l
    where
      none : 0 ≡ n - i
      none = omega arith

  pub roles_length : (l : List ℕ) (t : Triple) → length (roles_marked v l t) ≡ length l
  unfolding roles_marked
  roles_length l t = all-length property_marked property-length (property_roles v t) _ ∙ all-length class_marked class-length (class_roles v t) l

  role_inside : (n c : ℕ) (t : Triple) → Below n t → Role v t c → c < n
  role_inside n c t b (as_subject e) = omega (arith, b.subject)
  role_inside n c t b (as_object e) = omega (arith, b.object)
  role_inside n c t b (as_property h e) = omega (arith, b.property)

  roles_stand : (n : ℕ) (t : Triple) (l : List ℕ) (P Q : ℕ → Bool) → Below n t → Stands n l P Q
      → Stands n (roles_marked v l t) (λ c. among c (class_roles v t) || P c) (λ c. among c (property_roles v t) || Q c)
  unfolding roles_marked
  roles_stand n t l P Q b s =
      properties_stand n (property_roles v t) (all_marked class_marked l (class_roles v t)) (λ c. among c (class_roles v t) || P c) Q
      (λ c m. role_inside n c t b (property_role v t c m)) (classes_stand n (class_roles v t) l P Q (λ c m. role_inside n c t b (class_role v t c m)) s)

  table-stands : (n : ℕ) (ts : List Triple) (l : List ℕ) (P Q : ℕ → Bool) → AllBelow n ts → Stands n l P Q → Stands n (table_marked v l ts) (λ c. class_in v ts c || P c) (λ c. property_in v ts c || Q c)
  unfolding table_marked class_in property_in any
  table-stands n [] l P Q b s = s
  table-stands n (t ∷ ts) l P Q b s =
      stands_same n (table_marked v (roles_marked v l t) ts) (λ c. class_in v ts c || (among c (class_roles v t) || P c)) (λ c. property_in v ts c || (among c (property_roles v t) || Q c))
      (λ c. class_in v (t ∷ ts) c || P c) (λ c. property_in v (t ∷ ts) c || Q c)
      (λ c. or_swap (among c (class_roles v t)) (class_in v ts c) (P c)) (λ c. or_swap (among c (property_roles v t)) (property_in v ts c) (Q c))
      (table-stands n ts (roles_marked v l t) (λ c. among c (class_roles v t) || P c) (λ c. among c (property_roles v t) || Q c) (λ u m. b u (there m)) (roles_stand n t l P Q (b t (here refl)) s))

  -- marking all roles in a roster of zeros makes the own roster
  pub marked-own : (n : ℕ) (ts : List Triple) → AllBelow n ts → table_marked v (zeros n) ts ≡ own_roster v n ts
  unfolding own_roster zeros
  marked-own n ts b =
      let z : Stands n (replicate n 0) (λ c. false) (λ c. false) = record { size = length-replicate n 0; entry = λ c h. get_or-replicate n c 0 0 h } in
      let s = table-stands n ts (replicate n 0) (λ c. false) (λ c. false) b z in
      ext_get_or 0 (table_marked v (replicate n 0) ts) (tabulate (λ c. bits (class_in v ts c) (property_in v ts c)) 0 n) (s.size ∙ sym (length-tabulate _ 0 n))
      (λ c h.
      let k : c < n = omega (arith, s.size) in
      s.entry c k ∙ (λ i. bits (or_none_lem (class_in v ts c) i) (or_none_lem (property_in v ts c) i))
      ∙ sym (tabulate-at (λ c. bits (class_in v ts c) (property_in v ts c)) 0 0 n c k ∙ ap (λ (d : ℕ). bits (class_in v ts d) (property_in v ts d)) (zero-add c)))
