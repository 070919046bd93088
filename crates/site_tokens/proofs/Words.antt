-- The reader of given bytes, at a place of the text.
-- Assumes nothing.
use Prim.Native.Nat.{ℕ, ◌+◌, ◌-◌, min}
use mathlib.Core.Path.{◌≡◌, refl, sym, ◌∙◌, ap}
use mathlib.Core.Bool.{Bool, true, false, ◌&&◌}
use mathlib.Core.List.{List, [], ◌∷◌}
use native.Mathlib.Omega.{arith}
use lib.Dec.{eqb, leb}
use lib.ListN.{length, take, drop, drop_of_length-le, length-drop}
use lib.Seq.{take-length}
use borrow.Author.Tests.{leb-true, leb-false}
use Rattle.std.specs.List.{starts_with}
use Rattle.site_form.specs.Reading.{bad, got, begins, word}

-- the bytes that the library's `starts_with` looks for
begins-is : (w s : List ℕ) → starts_with eqb s w ≡ begins w s
unfolding begins
begins-is [] s = refl
begins-is (x ∷ w) [] = refl
begins-is (x ∷ w) (y ∷ s) = ap (λ (b : Bool). eqb x y && b) (begins-is w s)

module _ (text w : List ℕ) (at from : ℕ) (f : from ≡ min at (length text)) where
  -- the rest of the text from the place on, or nothing
  rest-is : take (length text - from) (drop from text) ≡ drop at text
  rest-is =
      let n : length (drop from text) ≡ length text - from = length-drop from text in
      sym (ap (λ (k : ℕ). take k (drop from text)) n) ∙ take-length (drop from text) ∙ go (leb at (length text)) refl
    where
      go : (b : Bool) → leb at (length text) ≡ b → drop from text ≡ drop at text
      go true e = let h = leb-true _ _ e in let k : from ≡ at = omega arith in ap (λ (i : ℕ). drop i text) k
      go false e =
          let h = leb-false _ _ e in
          drop_of_length-le text (omega arith) ∙ sym (drop_of_length-le text (omega arith))

  module _ (r : Bool) (e : r ≡ starts_with eqb (take (length text - from) (drop from text)) w) where
    stands : {t : Bool} → r ≡ t → begins w (drop at text) ≡ t
    stands g = sym (begins-is w (drop at text)) ∙ sym (ap (λ (s : List ℕ). starts_with eqb s w) rest-is) ∙ sym e ∙ g

    pub word-is : r ≡ true → word w text at ≡ got tt (at + length w)
    unfolding word
    word-is g = rw (stands g)

    pub word-not : r ≡ false → word w text at ≡ bad
    unfolding word
    word-not g = rw (stands g)
