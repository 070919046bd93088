-- What acceptance says, and that the saturation and the summary of an accepted table are accepted with the same roster.
-- Assumes nothing.
use Prim.Native.Nat.{ℕ, zero, suc, ◌≤◌, ◌<◌, ◌*◌, ◌%◌}
use mathlib.Core.Path.{◌≡◌, refl, sym, subst, ap}
use mathlib.Core.Bool.{true, false, not}
use mathlib.Core.List.Memᴰ.{head as here}
use mathlib.Core.List.Memᴰ.{not-nil as no-mem}
use mathlib.Core.List.Memᴰ.{tail as there}
use mathlib.Core.List.{List, Memᴰ as Mem}
use native.Mathlib.Omega.{arith}
use lib.Dec.{eqb, leb, ltb}
use lib.ListN.{length}
use borrow.Author.Tests.{leb-false, ltb-true, ltb-false, le-ltb, eq-eqb, not-false}
use Rattle.model.specs.declared.Triple.{Triple}
use Rattle.model.specs.declared.Vocabulary.{Vocabulary}
use Rattle.model.specs.Codes.{codes, wrong_words, absent, most_triples, kind, reserved}
use Rattle.model.specs.Triples.{triples, flat}
use Rattle.model.specs.Roster.{class_row, property_row, covers, wrong_codes}
use Rattle.model.specs.Saturation.{saturation}
use Rattle.model.specs.Partition.{label}
use Rattle.model.specs.declared.Side.{Side}
use Rattle.model.specs.declared.Side.TheVariants.{Source as source, Target as target}
use Rattle.model.specs.Cliques.{Node, Has, end}
use Rattle.model.specs.Classes.{map_of}
use Rattle.model.specs.Summary.{moved, condensed, summary}
use Rattle.model.specs.Outcomes.{wrong_size, wrong_length}
use Rattle.model.specs.Calls.{table_checks, Accepted}
use Rattle.theory.proofs.Tests.{or-false, or_neither}
use Rattle.theory.proofs.Checks.{passes-first, first_passes, no_checks}
use Rattle.theory.proofs.Lists.{any_none}
use Rattle.model.specs.Lists.{any}
use Rattle.theory.proofs.Flat.{triples-flat, length-flat, length-triples}
use Rattle.theory.specs.Tables.{Below, AllBelow, In, Right}
use Rattle.theory.proofs.Covered.{Marked, Codes, Covered, Class, Property, kind_top, property-at, class-marked, property-marked, one_of, two_of, all_codes, codes_all, all-covered, covered-all}
use Rattle.theory.proofs.Saturated.{saturation-exact, saturation-below}
use Rattle.theory.proofs.Weak.{data_kind}
use Rattle.theory.proofs.Images.{Covers, derives_covered}
use Rattle.theory.proofs.Mapped.{node-below, map-reps, map-node}
use Rattle.theory.proofs.Summaries.{condensed-exact}

pub few_triples : (table : List ℕ) → wrong_length (length table) ≡ false → length (triples table) ≤ most_triples
unfolding wrong_length
few_triples table h =
    let x = or-false (not (eqb (length table % 3) 0)) _ h in
    omega (arith, ltb-false (3 * most_triples) (length table) x.1, length-triples table)

-- 01's sizes
pub size-bounds : (n : ℕ) → wrong_size n ≡ false → (5 ≤ n) × (n ≤ 65536)
unfolding wrong_size
size-bounds n h = let x = or-false (ltb n 5) _ h in (ltb-false n 5 x.0, ltb-false 65536 n x.1)

-- the words are below N
pub words-below : (v : Vocabulary) (n : ℕ) → wrong_words v n ≡ false → (c : ℕ) → Mem c (codes v) → c < n
unfolding wrong_words
words-below v n h c m = leb-false n c (any_none (λ c. leb n c) (codes v) (or-false (any (λ c. leb n c) (codes v)) _ h).0 c m)

pub type-below : {v : Vocabulary} {roster : List ℕ} {ts : List Triple} → Right v roster ts → v.instance < length roster
type-below {v} {roster} R = words-below v (length roster) R.words v.instance (here refl)

pub accepted-right : (v : Vocabulary) (table roster : List ℕ) → Accepted v table roster → Right v roster (triples table)
unfolding table_checks
accepted-right v table roster h =
    let a = passes-first _ _ h in
    let w = passes-first _ _ a.1 in
    let b = passes-first _ _ w.1 in
    let c = passes-first _ _ b.1 in
    let d = passes-first _ _ c.1 in
    record { size = (or-false (wrong_size (length roster)) _ a.0).0; words = w.0; marks = b.0; codes = c.0; cover = not-false _ d.0 }

-- a flat list of so many triples is a table's length, unless there are too many
flat-length : (ts : List Triple) → length ts ≤ most_triples → wrong_length (length (flat ts)) ≡ false
unfolding wrong_length
flat-length ts h =
    let e = length-flat ts in
    let r : length (flat ts) % 3 ≡ 0 = omega arith in
    or_neither (not (eqb (length (flat ts) % 3) 0)) _ (ap not (eq-eqb _ _ r)) (le-ltb (3 * most_triples) (length (flat ts)) (omega arith))

pub right-accepted : (v : Vocabulary) (roster : List ℕ) (ts : List Triple) → Right v roster ts → length ts ≤ most_triples → Accepted v (flat ts) roster
unfolding table_checks
right-accepted v roster ts R l =
    first_passes _ _ (or_neither (wrong_size (length roster)) _ R.size (or_neither (wrong_length (length (flat ts))) _ (flat-length ts l) refl))
    (first_passes _ _ R.words
    (first_passes _ _ R.marks
    (first_passes _ _ (subst (λ (us : List Triple). wrong_codes v (length roster) us ≡ false) (sym (triples-flat ts)) R.codes)
    (first_passes _ _ (ap not (subst (λ (us : List Triple). covers v roster us ≡ true) (sym (triples-flat ts)) R.cover)) no_checks))))

module _ (v : Vocabulary) (roster : List ℕ) (ts : List Triple) (R : Right v roster ts) where
  pub room : length roster ≤ absent
  room = omega (arith, size-bounds (length roster) R.size)

  pub in_codes : (t : Triple) → Mem t ts → Codes v (length roster) t
  in_codes = all_codes v (length roster) ts R.codes

  pub below : AllBelow (length roster) ts
  below t m = (in_codes t m).below

  pub covered : Covers v roster (In ts)
  covered t m = all-covered v roster (length roster) ts R.codes R.cover t m

  -- the property of a data triple is marked
  pub has-marked : {e : Side} {n p : ℕ} → Has v roster (In ts) e n p → Marked roster p
  has-marked h =
      let q = h.by.property in
      let k : kind v q ≡ 5 = omega (arith, kind_top v q, data_kind v h.by h.data_triple) in
      subst (Marked roster) h.property (property-marked roster q (property-at roster v h.by 5 k (covered h.by h.held) q (here refl)))

  -- ── the saturation ──
  pub saturation-right : Right v roster (saturation v (length roster) ts)
  saturation-right =
      let exact = saturation-exact v (length roster) (type-below R) ts below in
      record {
        size = R.size;
        words = R.words;
        marks = R.marks;
        codes = codes_all v (length roster) (saturation v (length roster) ts)
            (λ t m.
            let k = derives_covered v roster (In ts) covered ((exact t).0 m) in
            record { below = saturation-below v (length roster) (type-below R) ts below t m; subject_free = k.subject_free; object_free = k.object_free });
        cover = covered-all v roster (saturation v (length roster) ts) (λ t m. derives_covered v roster (In ts) covered ((exact t).0 m));
      }

  -- ── nodes ──
  node-free : (c : ℕ) → Node (In ts) c → 5 ≤ kind v c
  node-free c x = at x.side x.is_end
    where
      at : (e : Side) → end e x.by ≡ c → 5 ≤ kind v c
      at source q = subst (λ (z : ℕ). 5 ≤ kind v z) q (in_codes x.by x.held).subject_free
      at target q = subst (λ (z : ℕ). 5 ≤ kind v z) q (in_codes x.by x.held).object_free

  pub word-no-node : (c : ℕ) → reserved v c ≡ true → Node (In ts) c → ⊥
  unfolding reserved
  word-no-node c e x = omega (arith, node-free c x, ltb-true (kind v c) 5 e)

  -- ── the images under a map that leaves marked nodes alone and leads from nodes to nodes ──
  module _ (m : List ℕ) (own : (n : ℕ) → Node (In ts) n → Marked roster n → label m n ≡ n) (kept : (c : ℕ) → Node (In ts) c → Node (In ts) (label m c)) where
    abbrev f : ℕ → ℕ
    f = label m

    -- a marked end represents itself, so that it keeps its mark
    class-kept : (c : ℕ) → Node (In ts) c → Class roster c → Class roster (f c)
    class-kept c x h = subst (Class roster) (sym (own c x (class-marked roster c h))) h

    property-kept : (c : ℕ) → Node (In ts) c → Property roster c → Property roster (f c)
    property-kept c x h = subst (Property roster) (sym (own c x (property-marked roster c h))) h

    image-covered : (u : Triple) → Mem u ts → Covered roster v (moved f u)
    image-covered u m =
        let s : Node (In ts) u.subject = record { by = u; held = m; side = source; is_end = refl } in
        let o : Node (In ts) u.object = record { by = u; held = m; side = target; is_end = refl } in
        let k = covered u m in
        record {
          subject_free = node-free (f u.subject) (kept u.subject s);
          object_free = node-free (f u.object) (kept u.object o);
          classes = classes s o (kind v u.property) k.classes;
          properties = properties s o (kind v u.property) k.properties;
        }
      where
        classes : Node (In ts) u.subject → Node (In ts) u.object → (k : ℕ) → ((c : ℕ) → Mem c (class_row u k) → Class roster c) → (c : ℕ) → Mem c (class_row (moved f u) k) → Class roster c
        classes s o zero h c n = one_of (λ e. subst (Class roster) (sym e) (class-kept _ o (h _ (here refl)))) n
        classes s o (suc zero) h c n =
            two_of (λ e. subst (Class roster) (sym e) (class-kept _ s (h _ (here refl)))) (λ e. subst (Class roster) (sym e) (class-kept _ o (h _ (there (here refl))))) n
        classes s o (suc (suc zero)) h c n = absurd (no-mem n)
        classes s o (suc (suc (suc zero))) h c n = one_of (λ e. subst (Class roster) (sym e) (class-kept _ o (h _ (here refl)))) n
        classes s o (suc (suc (suc (suc zero)))) h c n = one_of (λ e. subst (Class roster) (sym e) (class-kept _ o (h _ (here refl)))) n
        classes s o (suc (suc (suc (suc (suc k))))) h c n = absurd (no-mem n)

        properties : Node (In ts) u.subject → Node (In ts) u.object → (k : ℕ) → ((c : ℕ) → Mem c (property_row u k) → Property roster c)
            → (c : ℕ) → Mem c (property_row (moved f u) k) → Property roster c
        properties s o zero h c n = absurd (no-mem n)
        properties s o (suc zero) h c n = absurd (no-mem n)
        properties s o (suc (suc zero)) h c n =
            two_of (λ e. subst (Property roster) (sym e) (property-kept _ s (h _ (here refl)))) (λ e. subst (Property roster) (sym e) (property-kept _ o (h _ (there (here refl))))) n
        properties s o (suc (suc (suc zero))) h c n = one_of (λ e. subst (Property roster) (sym e) (property-kept _ s (h _ (here refl)))) n
        properties s o (suc (suc (suc (suc zero)))) h c n = one_of (λ e. subst (Property roster) (sym e) (property-kept _ s (h _ (here refl)))) n
        properties s o (suc (suc (suc (suc (suc k))))) h c n = h c n

    condensed-covered : (t : Triple) → Mem t (condensed m ts) → Covered roster v t
    condensed-covered t k = let w = (condensed-exact m ts t).0 k in subst (Covered roster v) (sym w.2) (image-covered w.0 w.1)

    condensed-below : AllBelow (length roster) (condensed m ts)
    condensed-below t k =
        let w = (condensed-exact m ts t).0 k in
        let u = w.0 in
        let s = node-below (length roster) ts below (f u.subject) (kept u.subject (record { by = u; held = w.1; side = source; is_end = refl })) in
        let o = node-below (length roster) ts below (f u.object) (kept u.object (record { by = u; held = w.1; side = target; is_end = refl })) in
        subst (Below (length roster)) (sym w.2) (record { subject = s; property = (below u w.1).property; object = o })

    pub condensed-right : Right v roster (condensed m ts)
    condensed-right =
        record {
          size = R.size;
          words = R.words;
          marks = R.marks;
          codes = codes_all v (length roster) (condensed m ts)
              (λ t k. let c = condensed-covered t k in record { below = condensed-below t k; subject_free = c.subject_free; object_free = c.object_free });
          cover = covered-all v roster (condensed m ts) condensed-covered;
        }

  -- ── the summary ──
  pub summary-right : Right v roster (summary v roster ts)
  summary-right = condensed-right (map_of v roster ts) (map-reps v roster ts below room).of_marked (map-node v roster ts below room)
