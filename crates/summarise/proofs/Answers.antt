-- What summarise returns and leaves, by whatever map of the nodes.
-- Assumes nothing.
use Prim.Native.Nat.{ℕ, ◌*◌, ◌/◌, ◌<◌, ◌≤◌}
use mathlib.Core.Path.{◌≡◌, sym, ◌∙◌, ap, subst}
use mathlib.Core.Logic.{◌⊎◌, inl, inr, ⊎_elim, ◌↔◌}
use mathlib.Core.Bool.{Bool, true, false, not, ◌||◌}
use mathlib.Core.List.{List, [], ◌∷◌, map, Memᴰ as Mem}
use native.Mathlib.Omega.{arith}
use lib.Dec.{eqb, ltb}
use lib.ListN.{length}
use Rattle.std.specs.declared.result.Result.{Result}
use Rattle.std.specs.declared.result.Result.TheVariants.{Ok, Err}
use Rattle.model.specs.declared.Triple.{Triple}
use Rattle.model.specs.declared.Refusal.{Refusal}
use Rattle.model.specs.declared.Refusal.TheVariants.{Slots}
use Rattle.model.specs.declared.Vocabulary.{Vocabulary}
use Rattle.model.specs.Lists.{tabulate, zeros}
use Rattle.model.specs.Triples.{triples, slots, sorted, listed}
use Rattle.model.specs.Partition.{label}
use Rattle.model.specs.Summary.{moved, condensed}
use Rattle.model.specs.Outcomes.{Outcome, refused, accepted, refusal_number, check, checked, Passes, left, wrong_work, outcome_by, outcome_of}
use Rattle.model.specs.Calls.{table_checks, summarise_outcome_by, summarise_leaves_by}
use Rattle.theory.proofs.Checks.{no_checks}
use Rattle.theory.proofs.Lists.{length-tabulate, tabulate-mem, mem-tabulate, map-mem, mem-map}
use Rattle.theory.proofs.Order.{sorted-members, sorted-length}
use Rattle.theory.specs.Tables.{Right, AllBelow}
use Rattle.theory.proofs.Accepted.{below}
use Rattle.theory.proofs.Tests.{or-false, bool_cases}
use borrow.Author.Tests.{eqb-true, ltb-true, ltb-false, not-false}
use Rattle.table_checks.proofs.Laws.{passed, passed-right, passed-lengths, passed-more, refused-more, refused-left, too_few, enough, left-zeros, left_after}
use Rattle.lists.specs.Flat.{at, Cleared}
use Rattle.lists.proofs.Places.{triples-table}
use Rattle.lists.proofs.Search.{cleared-all}
use Rattle.builder.specs.declared.Builder.{Builder}
use Rattle.builder.specs.declared.Full.{Full}
use Rattle.builder.specs.Builder.{first, CollectedFrom, Finished}
use Rattle.summarise.specs.Condensed.{condensed_outcome, Imaged, Condensed, SummariseCallBy}

-- ── triples that pass the checks ──
-- the images by place are the images of the list
images-mapped : (f : Triple → Triple) (table : List ℕ) (count : ℕ) (u : Triple) → Mem u (tabulate (λ i. f (at table i)) 0 count) ↔ Mem u (map f (first table count))
images-mapped f table count u = (there, back)
  where
    there : Mem u (tabulate (λ i. f (at table i)) 0 count) → Mem u (map f (first table count))
    there m = let z = tabulate-mem (λ i. f (at table i)) 0 count m in mem-map f (first table count) (at table z.0) (mem-tabulate (at table) 0 count z.0 z.1 z.2) z.3

    back : Mem u (map f (first table count)) → Mem u (tabulate (λ i. f (at table i)) 0 count)
    back m =
        let z = map-mem f (first table count) m in
        let w = tabulate-mem (at table) 0 count z.1 in
        subst (λ (x : Triple). Mem x (tabulate (λ i. f (at table i)) 0 count)) (sym (z.2 ∙ ap f w.3)) (mem-tabulate (λ i. f (at table i)) 0 count w.0 w.1 w.2)

-- ── the images under a finished map ──
module _ (table : List ℕ) (count : ℕ) (m result l : List ℕ) where
  abbrev ts : List Triple
  ts = first table count

  images_are : sorted (tabulate (λ i. moved (label m) (at table i)) 0 count) ≡ condensed m ts
  unfolding condensed
  images_are = sorted-members _ _ (images-mapped (moved (label m)) table count)

  pub imaged_full : (y : Full) → CollectedFrom (λ i. moved (label m) (at table i)) count result l (Err y) → (n k : List ℕ) → Cleared l n 0 (length l) → Cleared m k 0 (length m) → Imaged m ts result (Err Slots) n k
  unfolding outcome_by refusal_number slots
  imaged_full x C n k z y =
      let long : length result / 3 < length (condensed m ts) = subst (λ (x : List Triple). length result / 3 < length x) images_are C.over in
      let q = too_few [] (length result / 3) (length (condensed m ts)) no_checks long in
      record {
        answer = sym q;
        in_result = cleared-all l n (length l) z (omega arith) ∙ ap zeros C.size ∙ sym (left-zeros _ _ _ q);
        in_map = cleared-all m k (length m) y (omega arith) ∙ sym (left-zeros _ _ _ q);
      }

  module _ (b : Builder) (C : CollectedFrom (λ i. moved (label m) (at table i)) count result l (Ok b)) (n : List ℕ) (r : ℕ) (F : Finished l n b.filled r) where
    collected_are : sorted (first l b.filled) ≡ condensed m ts
    collected_are = sorted-members _ _ C.members ∙ images_are

    count-is : r ≡ length (condensed m ts)
    count-is = F.count ∙ ap {B = ℕ} (λ (x : List Triple). length x) collected_are

    pub imaged_count : Imaged m ts result (Ok r) n m
    unfolding outcome_by slots
    imaged_count =
        let few = sorted-length (first l b.filled) in
        let full = length-tabulate (at l) 0 b.filled in
        let fits : length (condensed m ts) ≤ length result / 3 = omega (arith, count-is, F.count, few, full, C.built.room, C.size) in
        let q = enough [] (length result / 3) (length (condensed m ts)) no_checks fits in
        record {
          answer = ap (λ (k : ℕ). accepted k) count-is ∙ sym q;
          in_result = F.list ∙ (λ i. listed (C.size i) (collected_are i)) ∙ sym (left_after _ _ _ _ q);
          in_map = sym (left_after _ _ _ _ q);
        }

-- ── the map made, then the images ──
-- check 5 by itself refuses with 5 or accepts
slots-only : (m : List ℕ) (ts : List Triple) (result : List ℕ) → (condensed_outcome m ts result ≡ refused 5) ⊎ (condensed_outcome m ts result ≡ accepted (length (condensed m ts)))
unfolding slots
slots-only m ts result =
    ⊎_elim
    (λ (e : ltb (length result / 3) (length (condensed m ts)) ≡ true). inl (too_few [] (length result / 3) (length (condensed m ts)) no_checks (ltb-true _ _ e)))
    (λ (e : ltb (length result / 3) (length (condensed m ts)) ≡ false). inr (enough [] (length result / 3) (length (condensed m ts)) no_checks (ltb-false _ _ e)))
    (bool_cases (ltb (length result / 3) (length (condensed m ts))))

-- m is a map of N, and the list lent for it is m now
module _ (roster m map₁ : List ℕ) (size : length m ≡ length roster) (e : map₁ ≡ m) where
  -- the codes of the triples are its entries
  pub all-below : (words : Vocabulary) (table : List ℕ) (count : ℕ) → Right words roster (first table count) → AllBelow (length map₁) (first table count)
  all-below words table count R =
      let n : length map₁ ≡ length roster = ap {B = ℕ} (λ (x : List ℕ). length x) e ∙ size in
      subst (λ (k : ℕ). AllBelow k (first table count)) (sym n) (below words roster (first table count) R)

  pub condensed-by : (ts : List Triple) (result map₀ work work₁ : List ℕ) → length map₀ ≡ length roster → work₁ ≡ zeros (length work)
      → (r : Result ℕ Refusal) (result' map' : List ℕ) → Imaged map₁ ts result r result' map' → Condensed m ts result map₀ work r result' map' work₁
  condensed-by ts result map₀ work work₁ size₀ w r result' map' I =
      let J = subst (λ (x : List ℕ). Imaged x ts result r result' map') e I in
      let n : length m ≡ length map₀ = size ∙ sym size₀ in
      ⊎_elim
      (λ (q : condensed_outcome m ts result ≡ refused 5).
      record {
        answer = J.answer;
        in_result = J.in_result;
        in_map = J.in_map ∙ left-zeros _ _ _ q ∙ ap zeros n ∙ sym (left-zeros _ _ _ q);
        in_work = w ∙ sym (left-zeros _ _ _ q);
      })
      (λ (q : condensed_outcome m ts result ≡ accepted (length (condensed m ts))).
      record {
        answer = J.answer;
        in_result = J.in_result;
        in_map = J.in_map ∙ left_after _ _ _ _ q ∙ sym (left_after _ _ _ _ q);
        in_work = w ∙ sym (left_after _ _ _ _ q);
      })
      (slots-only m ts result)

-- ── the whole call ──
module _ (words : Vocabulary) (table roster result map₀ work : List ℕ) (lengths : Bool) (e : lengths ≡ (not (eqb (length map₀) (length roster)) || wrong_work (length roster) (length work))) where
  -- the lengths as the definition tests them
  abbrev wrong : Bool
  wrong = not (eqb (length map₀) (length roster)) || wrong_work (length roster) (length work)

  -- the verdict of the checks
  abbrev Is : Result (Unit {0}) Refusal → Type 0
  Is v = outcome_of v ≡ checked (table_checks words lengths table roster) tt

  pub call_refused : (m : List ℕ) (v : Result (Unit {0}) Refusal) (r : Refusal) → Is v → v ≡ Err r → SummariseCallBy words m table roster result map₀ work (Err r) result map₀ work
  unfolding outcome_by summarise_outcome_by summarise_leaves_by
  call_refused m v r h k =
      let z : outcome_of (Err r) ≡ checked (table_checks words lengths table roster) tt = subst Is k h in
      let Z = subst (λ (b : Bool). outcome_of (Err r) ≡ checked (table_checks words b table roster) tt) e z in
      let q = refused-more words wrong table roster r Z _ _ in
      let kept = refused-left words wrong table roster r Z _ q in
      record {
        answer = sym q;
        leaves = λ i. record { result = sym (kept result (listed (length result) (condensed m (triples table)))) i; map = sym (kept map₀ m) i; work = sym (kept work (zeros (length work))) i };
      }

  module _ (v : Result (Unit {0}) Refusal) (h : Is v) (k : v ≡ (Ok tt)) where
    passes : Passes (table_checks words lengths table roster)
    passes = passed words lengths table roster (subst Is k h)

    at_places : triples table ≡ first table (length table / 3)
    at_places = triples-table table

    call_right : Right words roster (first table (length table / 3))
    call_right = subst (Right words roster) at_places (passed-right words lengths table roster passes)

    both : (not (eqb (length map₀) (length roster)) ≡ false) × (wrong_work (length roster) (length work) ≡ false)
    both = or-false (not (eqb (length map₀) (length roster))) _ (sym e ∙ passed-lengths words lengths table roster passes)

    map_size : length map₀ ≡ length roster
    map_size = eqb-true _ _ (not-false _ both.0)

    work_size : length work ≡ 2 * length roster
    unfolding wrong_work
    work_size = eqb-true _ _ (not-false _ both.1)

    -- what summarising asks for
    pub call_ready : (3 * (length table / 3) ≤ length table) × Right words roster (first table (length table / 3)) × (length map₀ ≡ length roster) × (length work ≡ 2 * length roster)
    call_ready = (omega arith, call_right, map_size, work_size)

    -- f gives the map of triples
    pub call_condensed : (f : List Triple → List ℕ) (r : Result ℕ Refusal) (result' map' work' : List ℕ)
        → Condensed (f (first table (length table / 3))) (first table (length table / 3)) result map₀ work r result' map' work'
        → SummariseCallBy words (f (triples table)) table roster result map₀ work r result' map' work'
    unfolding summarise_outcome_by summarise_leaves_by slots
    call_condensed f r result' map' work' D =
        let C = subst (λ (ts : List Triple). Condensed (f ts) ts result map₀ work r result' map' work') (sym at_places) D in
        let P = subst (λ (b : Bool). Passes (table_checks words b table roster)) e passes in
        let m = f (triples table) in
        let n = length (condensed m (triples table)) in
        let q = passed-more (table_checks words wrong table roster) (check 5 (ltb (length result / 3) n) ∷ []) (accepted n) P in
        record {
          answer = C.answer ∙ sym q;
          leaves = λ i.
              record {
                result = (C.in_result ∙ ap (λ (o : Outcome ℕ). left o result (listed (length result) (condensed m (triples table)))) (sym q)) i;
                map = (C.in_map ∙ ap (λ (o : Outcome ℕ). left o map₀ m) (sym q)) i;
                work = (C.in_work ∙ ap (λ (o : Outcome ℕ). left o work (zeros (length work))) (sym q)) i;
              };
        }
