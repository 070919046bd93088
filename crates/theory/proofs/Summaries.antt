-- The computed summary holds exactly the images, and what graphs with the same triples share.
-- Assumes nothing.
use Prim.Native.Nat.{ℕ, ◌≤◌}
use mathlib.Core.Path.{◌≡◌, refl, sym, subst, ◌∙◌}
use mathlib.Core.Logic.{⊎_elim, ◌↔◌}
use mathlib.Core.List.{List, map, Memᴰ as Mem}
use native.Mathlib.Omega.{arith}
use lib.ListN.{length, length-map}
use lib.Seq.{ext_get_or}
use native.Mathlib.Nat.{le_antisymm}
use Rattle.model.specs.declared.Triple.{Triple}
use Rattle.model.specs.declared.Vocabulary.{Vocabulary}
use Rattle.model.specs.Codes.{absent}
use Rattle.model.specs.Triples.{triple}
use Rattle.model.specs.Order.{Rising}
use Rattle.model.specs.Rules.{Derives}
use Rattle.model.specs.Partition.{label}
use Rattle.model.specs.declared.Side.TheVariants.{Source as source, Target as target}
use Rattle.model.specs.Cliques.{Graph, Node}
use Rattle.model.specs.Classes.{DataNode, RepresentsBy, map_of}
use Rattle.model.specs.Summary.{moved, Image, condensed, summary}
use Rattle.theory.proofs.Lists.{map-mem, mem-map}
use Rattle.theory.proofs.Order.{sorted-rising, sorted-mem, mem-sorted, sorted-length, rising_unique}
use Rattle.theory.specs.Tables.{AllBelow, In, Weak}
use Rattle.theory.proofs.Covered.{Marked, Plain, by-mark}
use Rattle.theory.proofs.Saturated.{derives_map}
use Rattle.theory.proofs.Weak.{node-map, data_node_map, data_map, weak_map, Reps}
use Rattle.theory.proofs.Mapped.{node_or, map-reps, map-absent, length_map_of}

-- ── graphs that hold the same triples ──
abbrev pub Same : Graph → Graph → Type 0
Same G H = (t : Triple) → G t ↔ H t

pub same_sym : {G H : Graph} → Same G H → Same H G
same_sym f t = ((f t).1, (f t).0)

pub same_trans : {G H K : Graph} → Same G H → Same H K → Same G K
same_trans f g t = (λ x. (g t).0 ((f t).0 x), λ x. (f t).1 ((g t).1 x))

pub same_derives : (v : Vocabulary) {G H : Graph} → Same G H → Same (Derives v G) (Derives v H)
same_derives v f t = (derives_map v (λ u x. (f u).0 x), derives_map v (λ u x. (f u).1 x))

pub same-image : (f : ℕ → ℕ) {G H : Graph} → Same G H → Same (Image f G) (Image f H)
same-image f s t = (λ w. (w.0, (s w.0).0 w.1, w.2), λ w. (w.0, (s w.0).1 w.1, w.2))

pub same-node : {G H : Graph} → Same G H → {n : ℕ} → Node G n → Node H n
same-node f x = node-map (λ t y. (f t).0 y) x

-- maps that agree on the nodes give the same images
pub image-agree : {G : Graph} (f g : ℕ → ℕ) → ((n : ℕ) → Node G n → f n ≡ g n) → (t : Triple) → Image f G t → Image g G t
image-agree f g h t w =
    let u = w.0 in
    let s = h u.subject (record { by = u; held = w.1; side = source; is_end = refl }) in
    let o = h u.object (record { by = u; held = w.1; side = target; is_end = refl }) in
    (u, w.1, w.2 ∙ (λ i. triple (s i) u.property (o i)))

-- ── images under a map, whatever the map is ──
pub condensed-rising : (m : List ℕ) (ts : List Triple) → Rising (condensed m ts)
unfolding condensed
condensed-rising m ts = sorted-rising _

-- the computed images are exactly the images
pub condensed-exact : (m : List ℕ) (ts : List Triple) (t : Triple) → Mem t (condensed m ts) ↔ Image (label m) (In ts) t
unfolding condensed
condensed-exact m ts t = (λ k. map-mem (moved (label m)) ts (sorted-mem t _ k), λ w. mem-sorted t _ (mem-map (moved (label m)) ts w.0 w.1 w.2))

-- no more than the triples
pub condensed-length : (m : List ℕ) (ts : List Triple) → length (condensed m ts) ≤ length ts
unfolding condensed
condensed-length m ts = let f = moved (label m) in omega (arith, sorted-length (map f ts), length-map ts f)

-- whatever rising list holds exactly the images are these
pub condensed_unique : (m : List ℕ) (ts out : List Triple) → Rising out → ((t : Triple) → Mem t out ↔ Image (label m) (In ts) t) → out ≡ condensed m ts
condensed_unique m ts out r f = rising_unique out (condensed m ts) r (condensed-rising m ts) (same_trans f (same_sym (condensed-exact m ts)))

module _ (v : Vocabulary) (roster : List ℕ) where
  pub same_weak : {G H : Graph} → Same G H → {n m : ℕ} → Weak v roster G n m → Weak v roster H n m
  same_weak f w = weak_map v roster (λ t x. (f t).0 x) (λ n x h. data_map v (λ t y. (f t).1 y) h) w

  -- ── representatives by any equivalence ──
  pub same-reps : {E F : ℕ → ℕ → Type 0} {G H : Graph} → Same G H → ((n m : ℕ) → E n m ↔ F n m) → {r : ℕ → ℕ} → RepresentsBy v roster E G r → RepresentsBy v roster F H r
  same-reps f e R =
      record {
        of_marked = λ n x t. R.of_marked n (same-node (same_sym f) x) t;
        of_plain = λ n x. (e n _).0 (R.of_plain n (data_node_map v roster (λ t y. (f t).1 y) x));
        least = λ n m x w. R.least n m (data_node_map v roster (λ t y. (f t).1 y) x) ((e n m).1 w);
      }

  pub reps_unique : {E : ℕ → ℕ → Type 0} {G : Graph} {f g : ℕ → ℕ} → RepresentsBy v roster E G f → RepresentsBy v roster E G g → (n : ℕ) → Node G n → f n ≡ g n
  reps_unique {E} {G} {f} {g} F H n x =
      ⊎_elim (λ (t : Marked roster n). F.of_marked n x t ∙ sym (H.of_marked n x t))
      (λ (a : Plain roster n).
      let d : DataNode v roster G n = record { node = x; plain = a } in
      le_antisymm (F.least n (g n) d (H.of_plain n d)) (H.least n (f n) d (F.of_plain n d))) (by-mark roster n)

  -- two lists of one length that give the representatives, and absent for no node, are one
  pub labels_unique : {E : ℕ → ℕ → Type 0} (ts : List Triple) (m k : List ℕ) → length m ≡ length k → RepresentsBy v roster E (In ts) (label m) → RepresentsBy v roster E (In ts) (label k)
      → ((c : ℕ) → (Node (In ts) c → ⊥) → label m c ≡ absent) → ((c : ℕ) → (Node (In ts) c → ⊥) → label k c ≡ absent) → m ≡ k
  labels_unique ts m k l R S f g =
      ext_get_or absent m k l
      (λ c h. ⊎_elim (λ (x : Node (In ts) c). reps_unique R S c x) (λ (x : Node (In ts) c → ⊥). f c x ∙ sym (g c x)) (node_or ts c))

  -- whatever list of N gives the representatives, and absent for no node, is the map
  pub map_unique : (ts : List Triple) → AllBelow (length roster) ts → length roster ≤ absent → (m : List ℕ) → length m ≡ length roster
      → Reps v roster (In ts) (label m) → ((c : ℕ) → (Node (In ts) c → ⊥) → label m c ≡ absent) → m ≡ map_of v roster ts
  map_unique ts b room m l R f = labels_unique ts m (map_of v roster ts) (l ∙ sym (length_map_of v roster ts)) R (map-reps v roster ts b room) f (map-absent v roster ts b room)

  -- lists with the same members have one map and one summary
  pub same_map_of : (xs ys : List Triple) → AllBelow (length roster) xs → AllBelow (length roster) ys → length roster ≤ absent → Same (In xs) (In ys) → map_of v roster xs ≡ map_of v roster ys
  same_map_of xs ys b k room s =
      map_unique ys k room (map_of v roster xs) (length_map_of v roster xs) (same-reps s (λ n m. (same_weak s, same_weak (same_sym s))) (map-reps v roster xs b room))
      (λ c f. map-absent v roster xs b room c (λ x. f (same-node s x)))

  pub same_summary_of : (xs ys : List Triple) → AllBelow (length roster) xs → AllBelow (length roster) ys → length roster ≤ absent → Same (In xs) (In ys) → summary v roster xs ≡ summary v roster ys
  same_summary_of xs ys b k room s =
      condensed_unique (map_of v roster ys) ys (summary v roster xs) (condensed-rising _ xs)
      (same_trans (condensed-exact _ xs)
      (subst (λ (m : List ℕ). Same (Image (label (map_of v roster xs)) (In xs)) (Image (label m) (In ys))) (same_map_of xs ys b k room s) (same-image (label (map_of v roster xs)) s)))
