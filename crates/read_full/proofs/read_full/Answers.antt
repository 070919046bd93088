-- A read puts its bytes behind those that were read before, and leaves those as they were.
use Rattle.std.proofs.Common.{◌≡◌, ℕ, ◌+◌, ◌-◌, ◌≤◌, List, ◌++◌, rules, length, take, drop, sym, ap, ◌∙◌, subst, le_refl, drop_at, length-take-le}
use Rattle.std.proofs.lemmas.Slice.{take-put_mid_below}
use Rattle.std.specs.Io.KnownBytes.{Consumes}
use Rattle.std.proofs.KnownBytes.{Consumes-trans}
use borrow.Rule.Slice.PartMut.{put_mid, post_of}
use lib.Seq.{take-add, take-append-le}
use Rattle.read_full.proofs.read_full.Goals as goal

take-split : (a n : ℕ) (old new : List ℕ) → take a new ≡ take a old → take a old ++ take n (drop a new) ≡ take (a + n) new
take-split a n old new front = ap (λ l. l ++ take n (drop a new)) (sym front) ∙ sym (take-add a n new)

drop-put_mid : (a k n : ℕ) (xs ys : List ℕ) → a ≤ length xs → n ≤ length ys → take n (drop a (put_mid a k xs ys)) ≡ take n ys
drop-put_mid a k n xs ys within fits =
    let after = post_of a k xs in
    ap (take n) (drop_at (take a xs) (ys ++ after) a (length-take-le a xs within)) ∙ take-append-le n ys after fits

pub loop-done-preserved : goal.loop-done-preserved
loop-done-preserved g c =
    let from = c.loop-done.done in
    let room = length c.loop-done.text - from in
    let count = c.in_ok-count.count in
    let now = put_mid from room c.loop-done.text c.read.new.buf in
    let part = drop-put_mid from room count c.loop-done.text c.read.new.buf c.loop-done.invariant.within c.in_ok-count.ensures.bound.0 in
    let joined = take-split from count c.loop-done.text now (take-put_mid_below _ _ _ _ _ (le_refl _) c.loop-done.invariant.within) in
    record {
      same = search rules;
      within = search rules;
      bytes = subst (Consumes _ _) (ap (λ l. take from c.loop-done.text ++ l) (sym part) ∙ joined)
          (Consumes-trans _ _ _ _ _ c.loop-done.invariant.bytes c.in_ok-count.ensures.bytes.0);
    }
