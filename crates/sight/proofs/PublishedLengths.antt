-- A curve passes the test by whole products exactly where it has document 001's least length. Assumes nothing.
use mathlib.Core.Path.{◌≡◌, refl, sym, ◌∙◌, ap, subst}
use mathlib.Core.Bool.{Bool, true, false, cond}
use Prim.Native.Nat.{ℕ, suc, ◌+◌, ◌*◌, ◌≤◌, ◌<◌}
use native.Mathlib.Nat.{mul-le-mul_right, le_of_mul-le-mul_right}
use native.Mathlib.Omega.{arith}
use lib.Dec.{T, leb, leb→le, le→leb}
use lib.IntN.{ℤ, pos, negsuc, neg_ℤ, ◌-ℤ◌, ◌*ℤ◌, +ℤ_invr}
use lib.Signed.{le_z}
use borrow.Author.Tests.{le-leb, lt-leb, leb-true, lt-ltb}
use Rattle.numbers.specs.Fractions.{Fraction, nat, whole, ◌⊕◌, ◌⊖◌, ◌⊗◌, ◌⊘◌, ◌↑◌, over, ratio, ◌≼◌}
use Rattle.numbers.proofs.Products.{products}
use Rattle.numbers.proofs.Differences.{stays_below}
use Rattle.numbers.proofs.Integers.{difference_times}
use Rattle.numbers.proofs.Signs.{turned_difference}
use Rattle.sight.specs.Sight.{long_enough, sight_serves, crest_tenths, sag_tenths}
use Rattle.sight.specs.Formulas.{first_case, second_case, on_crest, in_sag, metres, percent, Published}

-- A factor above zero goes out of both sides.
same_factor : (a b m : ℕ) → 0 < m → (a ≤ b → a * m ≤ b * m) × (a * m ≤ b * m → a ≤ b)
same_factor a b m h = (λ l. mul-le-mul_right m l, λ l. le_of_mul-le-mul_right l h)

-- The cross products of the formulas are those of the test, with the denominator of K in each.
module _ (D L c k t u : ℕ) (tenth : suc t * 10 ≡ k * u) where
  first_left : 1 * D * D * u * c * 1000 ≡ D * D * c * (u * 1000)
  first_left = simp products (omega arith)

  first_right : L * (1 * suc t * 10000) ≡ L * k * (u * 1000)
  first_right = ap (λ (n : ℕ). L * n) (thousands ∙ ap (λ (n : ℕ). n * 1000) tenth) ∙ simp products (omega arith)
    where
      thousands : 1 * suc t * 10000 ≡ suc t * 10 * 1000
      thousands = omega arith

  second_left : 2 * D * (u * 1 * c) * 1000 ≡ 2000 * D * c * u
  second_left = simp products (omega arith)

  second_right : suc t * 10000 * 1 * 1000 + L * (1 * (u * 1 * c)) ≡ (L * c + k * 1000000) * u
  second_right =
      ap (λ (n : ℕ). n + L * (1 * (u * 1 * c))) (millions ∙ ap (λ (n : ℕ). n * 1000000) tenth) ∙ simp products (omega arith)
    where
      millions : suc t * 10000 * 1 * 1000 ≡ suc t * 10 * 1000000
      millions = omega arith

module _ (D L change tenths t : ℕ) (K : Fraction) (top : K.top ≡ pos (suc t)) (tenth : suc t * 10 ≡ tenths * K.under) where
  -- ---- the first case

  -- The formula with K's top as it is.
  first_is : first_case D (percent change) K ≡ over (nat D ↑ 2) (pos (suc t)) K.under ⊗ percent change
  unfolding first_case ratio
  first_is = ap (λ (z : ℤ). over (nat D ↑ 2) z K.under ⊗ percent change) top

  factor : (D * D * change ≤ L * tenths → D * D * change * (K.under * 1000) ≤ L * tenths * (K.under * 1000))
      × (D * D * change * (K.under * 1000) ≤ L * tenths * (K.under * 1000) → D * D * change ≤ L * tenths)
  factor = same_factor (D * D * change) (L * tenths) (K.under * 1000) (omega (arith, K.above))

  first_holds : D * D * change ≤ L * tenths → first_case D (percent change) K ≼ metres L
  unfolding whole ◌⊗◌ ◌⊘◌ ◌↑◌ over
  first_holds l =
      rw first_is
      (record {
        cross = record {
          le =
              le→leb (1 * D * D * K.under * change * 1000) (L * (1 * suc t * 10000))
              (omega (arith, factor.0 l, first_left D L change tenths t K.under tenth, first_right D L change tenths t K.under tenth));
        };
      })

  first_tells : first_case D (percent change) K ≼ metres L → D * D * change ≤ L * tenths
  unfolding whole ◌⊗◌ ◌⊘◌ ◌↑◌ over
  first_tells c =
      let e = rw first_is at c in
      let l = leb→le (1 * D * D * K.under * change * 1000) (L * (1 * suc t * 10000)) e.cross.le in
      factor.1 (omega (arith, l, first_left D L change tenths t K.under tenth, first_right D L change tenths t K.under tenth))

  first_test : 1000 * D ≤ L → long_enough D L change tenths ≡ leb (D * D * change) (L * tenths)
  unfolding long_enough
  first_test h = rw (le-leb (1000 * D) L h)

  first_case_lem : 1000 * D ≤ L
      → (long_enough D L change tenths ≡ true → first_case D (percent change) K ≼ metres L)
      × (first_case D (percent change) K ≼ metres L → long_enough D L change tenths ≡ true)
  first_case_lem h = (
    λ e. first_holds (leb-true (D * D * change) (L * tenths) (sym (first_test h) ∙ e)),
    λ c. first_test h ∙ le-leb (D * D * change) (L * tenths) (first_tells c),
  )

  -- ---- the second case

  second_factor : (2000 * D * change ≤ L * change + tenths * 1000000 → 2000 * D * change * K.under ≤ (L * change + tenths * 1000000) * K.under)
      × (2000 * D * change * K.under ≤ (L * change + tenths * 1000000) * K.under → 2000 * D * change ≤ L * change + tenths * 1000000)
  second_factor = same_factor (2000 * D * change) (L * change + tenths * 1000000) K.under K.above

  second_test : L < 1000 * D → long_enough D L change tenths ≡ leb (2000 * D * change) (L * change + tenths * 1000000)
  unfolding long_enough
  second_test h = rw (lt-leb (1000 * D) L h)

module _ (D L change tenths t : ℕ) (K : Fraction) (top : K.top ≡ pos (suc t)) (tenth : suc t * 10 ≡ tenths * K.under) where
  -- The cross products of the second formula, as a test on natural numbers.
  second_cross : le_z ((pos (2 * D * (K.under * 1 * suc change)) -ℤ pos (suc t * 10000 * 1)) *ℤ pos 1000) (pos (L * (1 * (K.under * 1 * suc change))))
      ≡ leb (2 * D * (K.under * 1 * suc change) * 1000) (suc t * 10000 * 1 * 1000 + L * (1 * (K.under * 1 * suc change)))
  second_cross =
      ap (λ (z : ℤ). le_z z (pos (L * (1 * (K.under * 1 * suc change)))))
      (difference_times (pos (2 * D * (K.under * 1 * suc change))) (pos (suc t * 10000 * 1)) 1000)
      ∙ stays_below (2 * D * (K.under * 1 * suc change) * 1000) (suc t * 10000 * 1 * 1000) (L * (1 * (K.under * 1 * suc change)))

  second_holds : 2000 * D * suc change ≤ L * suc change + tenths * 1000000 → second_case D (percent (suc change)) K ≼ metres L
  unfolding second_case whole ◌⊗◌ ◌⊘◌ ◌⊖◌ over ratio
  second_holds l =
      record {
        cross = rw top (record {
          le =
              subst T (sym second_cross)
              (le→leb (2 * D * (K.under * 1 * suc change) * 1000) (suc t * 10000 * 1 * 1000 + L * (1 * (K.under * 1 * suc change)))
              (omega (
                arith,
                (second_factor D L (suc change) tenths t K top tenth).0 l,
                second_left D L (suc change) tenths t K.under tenth,
                second_right D L (suc change) tenths t K.under tenth,
              )));
        });
      }

  second_tells : second_case D (percent (suc change)) K ≼ metres L → 2000 * D * suc change ≤ L * suc change + tenths * 1000000
  unfolding second_case whole ◌⊗◌ ◌⊘◌ ◌⊖◌ over ratio
  second_tells c =
      let e = rw top at c.cross in
      let l = leb→le (2 * D * (K.under * 1 * suc change) * 1000) (suc t * 10000 * 1 * 1000 + L * (1 * (K.under * 1 * suc change))) (subst T second_cross e.le) in
      (second_factor D L (suc change) tenths t K top tenth).1
      (omega (arith, l, second_left D L (suc change) tenths t K.under tenth, second_right D L (suc change) tenths t K.under tenth))

module _ (D L tenths t : ℕ) (K : Fraction) (top : K.top ≡ pos (suc t)) (tenth : suc t * 10 ≡ tenths * K.under) where
  second_case_lem : (change : ℕ) → L < 1000 * D
      → (long_enough D L (suc change) tenths ≡ true → second_case D (percent (suc change)) K ≼ metres L)
      × (second_case D (percent (suc change)) K ≼ metres L → long_enough D L (suc change) tenths ≡ true)
  second_case_lem change h = (
    λ e. second_holds D L change tenths t K top tenth
        (leb-true (2000 * D * suc change) (L * suc change + tenths * 1000000) (sym (second_test D L (suc change) tenths t K top tenth h) ∙ e)),
    λ c. second_test D L (suc change) tenths t K top tenth h
        ∙ le-leb (2000 * D * suc change) (L * suc change + tenths * 1000000) (second_tells D L change tenths t K top tenth c),
  )

  published : (change : ℕ) {test : Bool} → long_enough D L (suc change) tenths ≡ test → Published test D L (suc change) K
  published change e =
      subst (λ (b : Bool). Published b D L (suc change) K) e
      (record { first = first_case_lem D L (suc change) tenths t K top tenth; second = second_case_lem change })

module _ (D L n : ℕ) (i1 i2 : ℤ) where
  -- A crest, whose incoming grade is the greater one,
  pub crest_published : i1 -ℤ i2 ≡ pos (suc n) → Published (sight_serves D i1 i2 L) D L (suc n) on_crest
  unfolding whole sight_serves
  crest_published e = published D L crest_tenths 411 on_crest refl refl n (rw (e, lt-ltb 0 (suc n) (omega arith)))

  -- and a sag, whose outgoing grade is.
  pub sag_published : i2 -ℤ i1 ≡ pos (suc n) → Published (sight_serves D i1 i2 L) D L (suc n) (in_sag D)
  unfolding in_sag whole ◌⊕◌ ◌⊗◌ ◌⊘◌ sight_serves
  sag_published e =
      let d : i1 -ℤ i2 ≡ negsuc n = sym (turned_difference i2 i1) ∙ ap neg_ℤ e in
      published D L (sag_tenths D) (1219 + 35 * D) (in_sag D) (ap pos (omega arith)) (omega arith) n (rw d)

-- Without a change of grade each length serves.
pub level_serves : (D L : ℕ) (i : ℤ) → sight_serves D i i L ≡ true
unfolding sight_serves long_enough
level_serves D L i = rw (+ℤ_invr i) (go (leb (1000 * D) L))
  where
    go : (t : Bool) → cond t (leb (D * D * 0) (L * sag_tenths D)) (leb (2000 * D * 0) (L * 0 + sag_tenths D * 1000000)) ≡ true
    go true = le-leb (D * D * 0) (L * sag_tenths D) (omega arith)
    go false = le-leb (2000 * D * 0) (L * 0 + sag_tenths D * 1000000) (omega arith)
