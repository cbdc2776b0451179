-- A curve of twice k seen from its end: the outgoing grade through the vertex, and a square of the distance y to the end. Assumes nothing.
use mathlib.Core.Path.{◌≡◌, sym, ◌∙◌, ap}
use Prim.Native.Nat.{ℕ, ◌+◌, ◌*◌, ◌<◌}
use native.Mathlib.Nat.{mul_left_comm}
use native.Mathlib.Omega.{arith}
use lib.IntN.{ℤ, pos, neg_ℤ, ◌+ℤ◌, ◌-ℤ◌, ◌*ℤ◌, +ℤ_assoc, +ℤ_comm, +ℤ-neg_ℤ_cancel, -ℤ-+ℤ_cancel}
use Rattle.numbers.specs.Whole.{down}
use Rattle.numbers.proofs.Products.{products}
use Rattle.numbers.proofs.Floors.{down_plus}
use Rattle.numbers.proofs.Integers.{swap, difference_times, sum_product, product_sum, product_times}
use Rattle.grades.specs.Heights.{along_grade, height_in}
use Rattle.grades.proofs.TwoFloors.{curve_floors}

-- x² + (x + y)² = 2 x (x + y) + y², with 2 k for x + y
squares : (x y k : ℕ) → x + y ≡ 2 * k → x * x + k * (2 * (2 * k)) ≡ x * (2 * (2 * k)) + y * y
squares x y k e =
    ap (λ (n : ℕ). x * x + n) (mul_left_comm k 2 (2 * k) ∙ whole) ∙ expanded x y ∙ ap (λ (n : ℕ). x * (2 * n) + y * y) e
  where
    whole : 2 * (k * (2 * k)) ≡ (x + y) * (x + y)
    whole = rw e (simp products (omega arith))

    expanded : (x y : ℕ) → x * x + (x + y) * (x + y) ≡ x * (2 * (x + y)) + y * y
    expanded x y = simp products (omega arith)

module _ (h i o : ℤ) (k x y : ℕ) (above : 0 < k) (all : x + y ≡ 2 * k) where
  square : pos (x * x) ≡ (pos x -ℤ pos k) *ℤ pos (2 * (2 * k)) +ℤ pos (y * y)
  square =
      sym (+ℤ-neg_ℤ_cancel (pos (x * x)) (pos (k * (2 * (2 * k)))))
      ∙ ap (λ (n : ℕ). pos n -ℤ pos (k * (2 * (2 * k)))) (squares x y k all)
      ∙ swap (pos (x * (2 * (2 * k)))) (pos (y * y)) (neg_ℤ (pos (k * (2 * (2 * k)))))
      ∙ ap (λ (z : ℤ). z +ℤ pos (y * y)) (sym (difference_times (pos x) (pos k) (2 * (2 * k))))

  -- The outgoing grade through the vertex, by the incoming one.
  straight : along_grade (h +ℤ i *ℤ pos k) o (pos x -ℤ pos k) ≡ along_grade h i (pos x) +ℤ (o -ℤ i) *ℤ (pos x -ℤ pos k)
  straight =
      let z = pos x -ℤ pos k in
      let d = o -ℤ i in
      ap (λ (w : ℤ). h +ℤ i *ℤ pos k +ℤ w) (ap (λ (u : ℤ). u *ℤ z) (sym (-ℤ-+ℤ_cancel o i)) ∙ sum_product d i z ∙ +ℤ_comm (d *ℤ z) (i *ℤ z))
      ∙ sym (+ℤ_assoc (h +ℤ i *ℤ pos k) (i *ℤ z) (d *ℤ z))
      ∙ ap (λ (w : ℤ). w +ℤ d *ℤ z)
      (+ℤ_assoc h (i *ℤ pos k) (i *ℤ z)
      ∙ ap (λ (w : ℤ). h +ℤ w) (sym (product_sum i (pos k) z) ∙ ap (λ (w : ℤ). i *ℤ w) (+ℤ_comm (pos k) z ∙ -ℤ-+ℤ_cancel (pos x) (pos k))))

  pub from_end : height_in h i o (2 * k) x
      ≡ down (along_grade (h +ℤ i *ℤ pos k) o (pos x -ℤ pos k) +ℤ down ((o -ℤ i) *ℤ pos (y * y)) (2 * (2 * k))) 1000000
  from_end =
      let z = pos x -ℤ pos k in
      let d = o -ℤ i in
      curve_floors h i o (2 * k) x (omega arith)
      ∙ ap (λ (w : ℤ). down w 1000000)
      (ap (λ (w : ℤ). along_grade h i (pos x) +ℤ w)
      (ap (λ (w : ℤ). down w (2 * (2 * k)))
      (ap (λ (w : ℤ). d *ℤ w) square ∙ product_sum d (z *ℤ pos (2 * (2 * k))) (pos (y * y))
      ∙ ap (λ (w : ℤ). w +ℤ d *ℤ pos (y * y)) (sym (product_times d z (2 * (2 * k)))))
      ∙ down_plus (d *ℤ pos (y * y)) (2 * (2 * k)) (omega arith) (d *ℤ z))
      ∙ sym (+ℤ_assoc (along_grade h i (pos x)) (d *ℤ z) (down (d *ℤ pos (y * y)) (2 * (2 * k))))
      ∙ ap (λ (w : ℤ). w +ℤ down (d *ℤ pos (y * y)) (2 * (2 * k))) (sym straight))
