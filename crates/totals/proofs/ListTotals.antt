-- Totals over lists of elements: of two lists one after the other they are added, whatever the kinds; and since each element is a straight, a
-- spiral or an arc, the three together are what the whole list adds up to. Assumes nothing.
use mathlib.Core.Path.{◌≡◌, refl, sym, ◌∙◌, ap}
use mathlib.Core.Bool.{Bool, true, false, cond}
use mathlib.Core.List.{List, [], ◌∷◌, ◌++◌}
use lib.IntN.{ℤ, pos, ◌+ℤ◌, +ℤ_idl, +ℤ_assoc, +ℤ_comm}
use Rattle.stationing.specs.declared.ElementKind.{ElementKind}
use Rattle.stationing.specs.declared.ElementKind.TheVariants.{Straight, SpiralIn, Arc, SpiralOut}
use Rattle.stationing.specs.LineElements.{Element, total}
use Rattle.totals.specs.Totals.{is_straight, is_spiral, is_arc, of_kind, total_of}

-- What an element of a length adds to a total: its length, or nothing.
abbrev pub part : Bool → ℤ → ℤ
part held length = cond held length (pos 0)

-- One element more.
pub part_more : (kinds : ElementKind → Bool) (e : Element) (es : List Element)
    → total_of kinds (e ∷ es) ≡ part (kinds e.kind) e.length +ℤ total_of kinds es
unfolding of_kind total
part_more kinds e es = go (kinds e.kind)
  where
    go : (held : Bool) → total (cond held (e ∷ of_kind kinds es) (of_kind kinds es)) ≡ part held e.length +ℤ total_of kinds es
    go true = refl
    go false = sym (+ℤ_idl (total_of kinds es))

-- Two lists, one after the other.
pub total_append : (kinds : ElementKind → Bool) (es fs : List Element) → total_of kinds (es ++ fs) ≡ total_of kinds es +ℤ total_of kinds fs
unfolding of_kind total
total_append kinds [] fs = sym (+ℤ_idl (total_of kinds fs))
total_append kinds (e ∷ es) fs =
    let first = part (kinds e.kind) e.length in
    part_more kinds e (es ++ fs)
    ∙ ap (λ (z : ℤ). first +ℤ z) (total_append kinds es fs)
    ∙ sym (+ℤ_assoc first (total_of kinds es) (total_of kinds fs))
    ∙ ap (λ (z : ℤ). z +ℤ total_of kinds fs) (sym (part_more kinds e es))

-- A summand of the second of two goes to the front.
forward : (a l b : ℤ) → a +ℤ (l +ℤ b) ≡ l +ℤ (a +ℤ b)
forward a l b = sym (+ℤ_assoc a l b) ∙ ap (λ (z : ℤ). z +ℤ b) (+ℤ_comm a l) ∙ +ℤ_assoc l a b

-- A length counts in one of three totals, whatever its kind.
once : (kind : ElementKind) (l a b c : ℤ)
    → (part (is_straight kind) l +ℤ a) +ℤ (part (is_spiral kind) l +ℤ b) +ℤ (part (is_arc kind) l +ℤ c) ≡ l +ℤ (a +ℤ b +ℤ c)
once Straight l a b c = (λ j. l +ℤ a +ℤ +ℤ_idl b j +ℤ +ℤ_idl c j) ∙ ap (λ (z : ℤ). z +ℤ c) (+ℤ_assoc l a b) ∙ +ℤ_assoc l (a +ℤ b) c
once SpiralIn l a b c = (λ j. +ℤ_idl a j +ℤ (l +ℤ b) +ℤ +ℤ_idl c j) ∙ ap (λ (z : ℤ). z +ℤ c) (forward a l b) ∙ +ℤ_assoc l (a +ℤ b) c
once Arc l a b c = (λ j. +ℤ_idl a j +ℤ +ℤ_idl b j +ℤ (l +ℤ c)) ∙ forward (a +ℤ b) l c
once SpiralOut l a b c = (λ j. +ℤ_idl a j +ℤ (l +ℤ b) +ℤ +ℤ_idl c j) ∙ ap (λ (z : ℤ). z +ℤ c) (forward a l b) ∙ +ℤ_assoc l (a +ℤ b) c

pub by_kinds : (es : List Element) → total_of is_straight es +ℤ total_of is_spiral es +ℤ total_of is_arc es ≡ total es
unfolding of_kind total
by_kinds [] = refl
by_kinds (e ∷ es) =
    (λ j. part_more is_straight e es j +ℤ part_more is_spiral e es j +ℤ part_more is_arc e es j)
    ∙ once e.kind e.length (total_of is_straight es) (total_of is_spiral es) (total_of is_arc es)
    ∙ ap (λ (z : ℤ). e.length +ℤ z) (by_kinds es)
