-- The elements of a line in order (document 02, N1: "the line (0 to n), or spiral in, arc or spiral out (curve 1 to n)"), with their lengths and
-- where each begins, by the length from the line's start, in µm. Entry i of a line holds curve i + 1.
use Rattle.std.specs.Prelude.{List, [], ◌∷◌, ◌++◌, ℕ, zero, suc, ◌*◌, ℤ, pos, ◌+ℤ◌}
use Rattle.line.specs.declared.Line.{Line}
use Rattle.stationing.specs.declared.ElementKind.{ElementKind}
use Rattle.stationing.specs.declared.ElementKind.TheVariants.{Straight, SpiralIn, Arc, SpiralOut}
use Rattle.stationing.specs.Stations.{spiral_at, arc_at, straight_at, former_st, points_at, end_of}

-- An element: a straight has the index of its distance (0 to n), the others the number of their curve (1 to n).
pub record Element : Type 0 where
  pub kind : ElementKind
  pub number : ℕ
  pub length : ℤ

-- The straight of distance i, and the three elements of the curve at entry i.
abbrev pub straight_element : Line → ℕ → Element
straight_element line i = record { kind = Straight; number = i; length = straight_at line i }

abbrev pub spiral_in_element : Line → ℕ → Element
spiral_in_element line i = record { kind = SpiralIn; number = suc i; length = spiral_at line i }

abbrev pub arc_element : Line → ℕ → Element
arc_element line i = record { kind = Arc; number = suc i; length = arc_at line i }

abbrev pub spiral_out_element : Line → ℕ → Element
spiral_out_element line i = record { kind = SpiralOut; number = suc i; length = spiral_at line i }

-- Those from distance i on, where `curves` follow it: straight, spiral in, arc, spiral out, straight, .., and the last straight.
unfoldable pub elements_from : Line → (i curves : ℕ) → List Element
elements_from line i zero = straight_element line i ∷ []
elements_from line i (suc curves) =
    straight_element line i
    ∷ spiral_in_element line i
    ∷ arc_element line i
    ∷ spiral_out_element line i
    ∷ elements_from line (suc i) curves

-- Those of the whole line.
unfoldable pub elements_of : Line → List Element
elements_of line = elements_from line 0 line.count

-- What elements add up to.
unfoldable pub total : List Element → ℤ
total [] = pos 0
total (e ∷ es) = e.length +ℤ total es

-- The length of a line, from its start to its end.
unfoldable pub line_length : Line → ℤ
line_length line = total (elements_of line)

-- An element, and the length from the line's start to where it begins.
pub record Placed : Type 0 where
  pub element : Element
  pub begin : ℤ

-- Where it ends.
abbrev pub finish : Placed → ℤ
finish p = p.begin +ℤ p.element.length

-- Elements one after the other, the first at `begin`.
unfoldable pub placed_from : ℤ → List Element → List Placed
placed_from begin [] = []
placed_from begin (e ∷ es) = record { element = e; begin = begin } ∷ placed_from (begin +ℤ e.length) es

-- Those of the whole line.
unfoldable pub placed_elements : Line → List Placed
placed_elements line = placed_from (pos 0) (elements_of line)

-- ---- by the stations of the row

-- The station of the line's start, in µm.
abbrev pub start_station : Line → ℤ
start_station line = pos (1000 * line.start)

-- An element, and the stations where it begins and ends.
pub record Span : Type 0 where
  pub element : Element
  pub begin : ℤ
  pub end : ℤ

abbrev pub span_of : Line → Placed → Span
span_of line p = record { element = p.element; begin = start_station line +ℤ p.begin; end = start_station line +ℤ finish p }

-- The straight of distance i, from the ST before it on.
abbrev pub straight_span : Line → ℕ → ℤ → Span
straight_span line i end = record { element = straight_element line i; begin = former_st line i; end = end }

-- The elements of the first i curves, each curve behind its straight: from TS to SC, from SC to CS, from CS to ST.
unfoldable pub curve_spans : Line → ℕ → List Span
curve_spans line zero = []
curve_spans line (suc i) =
    let at = points_at line i in
    curve_spans line i
    ++ (straight_span line i at.TS
    ∷ record { element = spiral_in_element line i; begin = at.TS; end = at.SC }
    ∷ record { element = arc_element line i; begin = at.SC; end = at.CS }
    ∷ record { element = spiral_out_element line i; begin = at.CS; end = at.ST }
    ∷ [])

-- Those of the whole line: the last straight reaches the end.
unfoldable pub spans_of : Line → List Span
spans_of line = curve_spans line line.count ++ (straight_span line line.count (end_of line) ∷ [])
