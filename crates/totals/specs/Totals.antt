-- Document 02, N9: "the totals of straights, spirals and arcs, in µm, and their sum", over the list of a line's elements that N1 searches.
use Rattle.std.specs.Prelude.{Bool, true, false, cond, List, [], ◌∷◌, ℤ, pos, ◌+ℤ◌, Result}
use Rattle.refusals.specs.declared.Refusal.{Refusal}
use Rattle.refusals.specs.Replying.{Reply, reply_by, reply}
use Rattle.line.specs.declared.Line.{Line}
use Rattle.stationing.specs.declared.ElementKind.{ElementKind}
use Rattle.stationing.specs.declared.ElementKind.TheVariants.{Straight, SpiralIn, Arc, SpiralOut}
use Rattle.stationing.specs.LineElements.{Element, elements_of, total}
use Rattle.stationing.specs.Answer.{alignment_checks}
use Rattle.totals.specs.declared.Totals.{Totals}

-- "straights, spirals and arcs": which elements are which; a spiral is one in or one out
abbrev pub is_straight : ElementKind → Bool
is_straight Straight = true
is_straight SpiralIn = false
is_straight Arc = false
is_straight SpiralOut = false

abbrev pub is_spiral : ElementKind → Bool
is_spiral Straight = false
is_spiral SpiralIn = true
is_spiral Arc = false
is_spiral SpiralOut = true

abbrev pub is_arc : ElementKind → Bool
is_arc Straight = false
is_arc SpiralIn = false
is_arc Arc = true
is_arc SpiralOut = false

-- The elements of some kinds, in order.
unfoldable pub of_kind : (ElementKind → Bool) → List Element → List Element
of_kind kinds [] = []
of_kind kinds (e ∷ es) = cond (kinds e.kind) (e ∷ of_kind kinds es) (of_kind kinds es)

-- "The totals equal what the elements add up to": what those of some kinds do
abbrev pub total_of : (ElementKind → Bool) → List Element → ℤ
total_of kinds es = total (of_kind kinds es)

-- The four numbers.
pub record TotalValues : Type 0 where
  pub straights : ℤ
  pub spirals : ℤ
  pub arcs : ℤ
  pub sum : ℤ

-- "the totals of straights, spirals and arcs, .. and their sum"
unfoldable pub totals_of : List Element → TotalValues
totals_of es =
    let straights = total_of is_straight es in
    let spirals = total_of is_spiral es in
    let arcs = total_of is_arc es in
    record { straights = straights; spirals = spirals; arcs = arcs; sum = straights +ℤ spirals +ℤ arcs }

-- Those of a line.
unfoldable pub totals_by : Line → TotalValues
totals_by line = totals_of (elements_of line)

-- ---- the call

-- Those of an answer's totals.
abbrev pub values_of : Totals → TotalValues
values_of t =
    record { straights = pos t.straights; spirals = pos t.spirals; arcs = pos t.arcs; sum = pos t.sum }

-- What each case of the call's answer says.
abbrev pub totals_reply_of : Result Totals Refusal → Reply TotalValues
totals_reply_of r = reply_by values_of r

-- What the call answers: "refusals 3 to 15 as the calculator's"
unfoldable pub totals_reply : Line → Reply TotalValues
totals_reply line = reply (alignment_checks line) (totals_by line)
