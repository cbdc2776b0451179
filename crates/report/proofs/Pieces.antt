-- Pieces of text, one after the other. Assumes nothing.
use mathlib.Core.Path.{◌≡◌, sym, ◌∙◌, ap, subst}
use mathlib.Core.List.{List, [], ◌++◌, append_assoc, append-nil}
use Prim.Native.Nat.{ℕ, ◌≤◌}
use native.Mathlib.Nat.{add-zero}
use native.Mathlib.Omega.{arith}
use lib.ListN.{length, take, drop, length-append, take-append-drop}
use lib.Seq.{drop-drop, length-take-le, take_at, drop_at}
use Rattle.report.specs.Numbers.{ascii}
use Rattle.report.specs.Text.{words}
use Rattle.report.specs.Pieces.{Wrote}

-- Nothing is put.
pub wrote_none : (b : List ℕ) (p : ℕ) → Wrote b b p p []
wrote_none b p = record { ends = sym (add-zero p); holds = sym (ap (λ (f : List ℕ). f ++ drop p b) (append-nil (take p b)) ∙ take-append-drop p b) }

-- Two pieces after one another are one.
pub wrote_both : {b₀ b₁ b₂ x y : List ℕ} {p q r : ℕ} → p ≤ length b₀ → Wrote b₀ b₁ p q x → Wrote b₁ b₂ q r y → Wrote b₀ b₂ p r (x ++ y)
wrote_both {b₀} {b₁} {b₂} {x} {y} {p} {q} {r} h k l =
    let size : length (take p b₀ ++ x) ≡ q = length-append (take p b₀) x ∙ omega (arith, length-take-le p b₀ h, k.ends) in
    let front : take q b₁ ≡ take p b₀ ++ x = ap (take q) k.holds ∙ take_at (take p b₀ ++ x) (drop q b₀) q size in
    let rest : drop q b₁ ≡ drop q b₀ = ap (drop q) k.holds ∙ drop_at (take p b₀ ++ x) (drop q b₀) q size in
    let back : drop r b₁ ≡ drop r b₀ =
    ap (λ (n : ℕ). drop n b₁) l.ends ∙ sym (drop-drop (length y) q b₁) ∙ ap (drop (length y)) rest ∙ drop-drop (length y) q b₀ ∙ ap (λ (n : ℕ). drop n b₀) (sym l.ends) in
    record {
      ends = omega (arith, k.ends, l.ends, length-append x y);
      holds = l.holds ∙ (λ j. front j ++ y ++ back j) ∙ ap (λ (f : List ℕ). f ++ drop r b₀) (append_assoc (take p b₀) x y);
    }

-- The same piece, said otherwise.
pub wrote_as : {b₀ b₁ x y : List ℕ} {p q : ℕ} → Wrote b₀ b₁ p q x → x ≡ y → Wrote b₀ b₁ p q y
wrote_as {b₀} {b₁} {x} {y} {p} {q} w e = subst (Wrote b₀ b₁ p q) e w

-- Three words, each with what stands behind it.
pub words_of : (a b c : List ℕ) → a ++ ascii " " ++ (b ++ ascii " ") ++ (c ++ ascii "\n") ≡ words a b c
unfolding words
words_of a b c =
    let first = a ++ ascii " " in
    sym (append_assoc (first ++ (b ++ ascii " ")) c (ascii "\n"))
    ∙ ap (λ (front : List ℕ). front ++ c ++ ascii "\n") (sym (append_assoc first b (ascii " ")))

-- They are put one after another.
pub wrote_words : (a b c : List ℕ) {b₀ b₁ b₂ b₃ : List ℕ} {p q r s : ℕ} → p ≤ length b₀ → Wrote b₀ b₁ p q (a ++ ascii " ") → Wrote b₁ b₂ q r (b ++ ascii " ") → Wrote b₂ b₃ r s (c ++ ascii "\n")
    → Wrote b₀ b₃ p s (words a b c)
wrote_words a b c h k l m = wrote_as (wrote_both h (wrote_both h k l) m) (words_of a b c)
