-- Who loads 0 to 4 sees the reserved codes of 01.
-- Assumes nothing.
use Prim.Native.Nat.{ℕ, zero, suc, ◌<◌, ◌≤◌, min}
use mathlib.Core.Path.{◌≡◌, refl, sym, ◌∙◌, ap}
use mathlib.Core.Logic.{⊎_elim}
use mathlib.Core.Bool.{Bool, true, false, true≢false}
use mathlib.Core.List.{List, ◌∷◌}
use native.Mathlib.Omega.{arith}
use lib.Dec.{ltb}
use borrow.Author.Tests.{ltb-true, ltb-false, ne_eqb, lt-leb}
use Rattle.model.specs.Codes.{rdfs, kind, reserved, repeated, wrong_words}
use Rattle.model.specs.Lists.{any}
use Rattle.model.specs.Outcomes.{Outcome, Check, check, decided, wrong_size}
use Rattle.site_form.specs.Writing.{same_words, line_of}
use Rattle.theory.proofs.Accepted.{size-bounds}
use Rattle.theory.proofs.Tests.{bool_cases}
use Rattle.demands.specs.Demands.{LoadsRdfs}

kind-reserved : (c : ℕ) → c < 5 → kind rdfs c ≡ c
unfolding kind
kind-reserved zero h = refl
kind-reserved (suc zero) h = refl
kind-reserved (suc (suc zero)) h = refl
kind-reserved (suc (suc (suc zero))) h = refl
kind-reserved (suc (suc (suc (suc zero)))) h = refl
kind-reserved (suc (suc (suc (suc (suc c))))) h = absurd (omega arith)

kind_data : (c : ℕ) → 5 ≤ c → kind rdfs c ≡ 5
unfolding kind
kind_data c h =
    rw (ne_eqb c 0 (omega arith), ne_eqb c 1 (omega arith), ne_eqb c 2 (omega arith), ne_eqb c 3 (omega arith), ne_eqb c 4 (omega arith))

kind_low : (c : ℕ) → kind rdfs c ≡ min c 5
kind_low c =
    ⊎_elim
    (λ e. let h = ltb-true c 5 e in kind-reserved c h ∙ omega arith)
    (λ e. let h = ltb-false c 5 e in kind_data c h ∙ omega arith)
    (bool_cases (ltb c 5))

reserved_low : (c : ℕ) → reserved rdfs c ≡ ltb c 5
unfolding reserved
reserved_low c =
    ⊎_elim (λ e. ap (λ (k : ℕ). ltb k 5) (kind-reserved c (ltb-true c 5 e))) (λ e. ap (λ (k : ℕ). ltb k 5) (kind_data c (ltb-false c 5 e)) ∙ sym e) (bool_cases (ltb c 5))

never_refused : (n : ℕ) → wrong_size n ≡ false → wrong_words rdfs n ≡ false
unfolding wrong_words repeated any
never_refused n h =
    let b = size-bounds n h in
    rw (lt-leb n 0 (omega arith), lt-leb n 1 (omega arith), lt-leb n 2 (omega arith), lt-leb n 3 (omega arith), lt-leb n 4 (omega arith))

decides_nothing : {A : Type 0} (n : ℕ) (lengths : Bool) → (wrong_size n ≡ true → lengths ≡ true) → (cs : List Check) (rest : Outcome A)
    → decided (check 1 lengths ∷ check 10 (wrong_words rdfs n) ∷ cs) rest ≡ decided (check 1 lengths ∷ cs) rest
unfolding decided
decides_nothing n true f cs rest = refl
decides_nothing n false f cs rest =
    let right : wrong_size n ≡ false = ⊎_elim (λ e. absurd (true≢false (sym (f e)))) (λ e. e) (bool_cases (wrong_size n)) in
    rw (never_refused n right)

pub loads-rdfs : LoadsRdfs
unfolding line_of same_words
loads-rdfs = record { never_refused = never_refused; decides_nothing = decides_nothing; five = refl; reserved_low = reserved_low; kind_low = kind_low; loads = refl; no_line = refl }
