-- Document 02, N1: "the element under a station". Stations, lengths and offsets are in µm; lengths along the line are counted from its start.
use Rattle.std.specs.Prelude.{Bool, true, false, cond, ◌&&◌, List, [], ◌∷◌, ℕ, ◌-◌, ℤ, pos, nat_abs, neg_ℤ, ◌-ℤ◌, Result}
use Rattle.std.specs.Int.Signed.{le_z, lt_z}
use Rattle.refusals.specs.declared.Refusal.{Refusal}
use Rattle.refusals.specs.Order.{Checks, check, ◌⨾◌}
use Rattle.refusals.specs.Replying.{Reply, reply_by, reply}
use Rattle.line.specs.declared.Curve.{Curve}
use Rattle.line.specs.declared.Line.{Line}
use Rattle.line.specs.Checks.{curve_at}
use Rattle.elements.specs.SpiralPoint.{Offsets, offset_x, offset_y}
use Rattle.stationing.specs.declared.ElementKind.{ElementKind}
use Rattle.stationing.specs.declared.ElementKind.TheVariants.{Straight, SpiralIn, Arc, SpiralOut}
use Rattle.stationing.specs.Answer.{alignment_checks}
use Rattle.stationing.specs.LineElements.{straight_element, line_length, Placed, finish, placed_elements, start_station}
use Rattle.pegs.specs.declared.Peg.{Peg}

-- The length from the line's start to a station.
unfoldable pub along_line : Line → ℕ → ℤ
along_line line station = pos station -ℤ start_station line

-- "A station shared by two elements belongs to the one that begins there", "and an empty spiral holds none": an element holds the lengths from
-- its beginning, which is one of them, to its end, which is none.
unfoldable pub holds : ℤ → Placed → Bool
holds along p = le_z p.begin along && lt_z along (finish p)

-- The last line, of distance n: it ends where the whole line does.
unfoldable pub last_straight : Line → Placed
last_straight line =
    let last = straight_element line line.count in
    record { element = last; begin = line_length line -ℤ last.length }

-- The first of some elements that holds a length; where none does, `last`.
unfoldable pub holding : ℤ → List Placed → Placed → Placed
holding along [] last = last
holding along (p ∷ ps) last = cond (holds along p) p (holding along ps last)

-- The element under a length; "the end to the last line"
unfoldable pub element_under : Line → ℤ → Placed
element_under line along = holding along (placed_elements line) (last_straight line)

-- "with the length from its beginning; on the spiral out the length runs back from ST"
abbrev pub length_from : ElementKind → (begin end along : ℤ) → ℤ
length_from Straight begin end along = along -ℤ begin
length_from SpiralIn begin end along = along -ℤ begin
length_from Arc begin end along = along -ℤ begin
length_from SpiralOut begin end along = end -ℤ along

-- "A left curve's y is negated."
abbrev pub sided : Bool → ℤ → ℤ
sided false y = y
sided true y = neg_ℤ y

-- The offsets at the length l of a curve's spiral.
abbrev pub curve_offsets : Curve → ℕ → Offsets
curve_offsets curve l =
    record { x = offset_x curve.radius curve.spiral l; y = sided curve.left (offset_y curve.radius curve.spiral l) }

-- "On a spiral of length l, also give offsets (elsewhere 0)"
abbrev pub no_offsets : Offsets
no_offsets = record { x = pos 0; y = pos 0 }

abbrev pub offsets_on : ElementKind → Curve → ℤ → Offsets
offsets_on Straight curve l = no_offsets
offsets_on SpiralIn curve l = curve_offsets curve (nat_abs l)
offsets_on Arc curve l = no_offsets
offsets_on SpiralOut curve l = curve_offsets curve (nat_abs l)

-- "the line (0 to n), or spiral in, arc or spiral out (curve 1 to n), with the length .. also .. offsets"
pub record PegValues : Type 0 where
  pub kind : ElementKind
  pub number : ℕ
  pub length : ℤ
  pub offsets : Offsets

-- The peg at a length along an element.
abbrev pub peg_on : Line → ℤ → Placed → PegValues
peg_on line along p =
    let length = length_from p.element.kind p.begin (finish p) along in
    record {
      kind = p.element.kind;
      number = p.element.number;
      length = length;
      offsets = offsets_on p.element.kind (curve_at line (p.element.number - 1)) length;
    }

-- The peg at a length along the line.
unfoldable pub peg_by : Line → ℤ → PegValues
peg_by line along = peg_on line along (element_under line along)

-- ---- the call

-- 17: "a station outside the line"
unfoldable pub station_check : Line → ℤ → Checks
station_check line along = check (le_z (pos 0) along && le_z along (line_length line)) 17 0

-- "It refuses with 17 .., after the calculator's checks 3 to 15."
unfoldable pub peg_checks : Line → ℕ → Checks
peg_checks line station = alignment_checks line ⨾ station_check line (along_line line station)

-- Those of an answer's peg.
abbrev pub values_of : Peg → PegValues
values_of p =
    record { kind = p.kind; number = p.number; length = pos p.length; offsets = record { x = pos p.x; y = p.y } }

-- What each case of the call's answer says.
abbrev pub peg_reply_of : Result Peg Refusal → Reply PegValues
peg_reply_of r = reply_by values_of r

-- What the call answers.
unfoldable pub peg_reply : Line → ℕ → Reply PegValues
peg_reply line station = reply (peg_checks line station) (peg_by line (along_line line station))
