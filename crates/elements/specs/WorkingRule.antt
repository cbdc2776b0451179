-- Document 01's "Working rule" for one curve, sentence by sentence, with the rounding of document 02's N4 and the terms of its N7. Angles and
-- ratios are whole numbers at scale 10⁹; the deflection A is in seconds of arc, the radius R and the spiral length L in mm; the elements are in
-- µm. Differences may be negative.
use Rattle.std.specs.Prelude.{cond, ℕ, zero, suc, ◌+◌, ◌-◌, ◌*◌, ◌/◌, ◌%◌, eqb, ℤ, pos, ◌+ℤ◌, ◌-ℤ◌, ◌*ℤ◌}
use Rattle.numbers.specs.Whole.{◌÷◌}

-- "Scale 10⁹."
abbrev pub scale : ℕ
scale = 1000000000

-- The rounding of the last division of an element or a peg's offset (document 02, N4): "to the nearest µm, halves up". Every other quotient is
-- "rounded down".
unfoldable pub rounded : ℤ → ℕ → ℤ
rounded z m = (pos 2 *ℤ z +ℤ pos m) ÷ pos (2 * m)

-- "Full angle: A × 3,141,592,654 / 648,000."
unfoldable pub full_angle : ℕ → ℕ
full_angle A = A * 3141592654 / 648000

-- "Half angle: the same over 1,296,000."
unfoldable pub half_angle : ℕ → ℕ
half_angle A = A * 3141592654 / 1296000

-- "Spiral angle t: L × 500,000,000 / R."
unfoldable pub spiral_angle : ℕ → ℕ → ℕ
spiral_angle R L = L * 500000000 / R

-- Term j of a series: the first, "then each next is the former × z / (10⁹ × ..)", the divisor of term j.
unfoldable pub term : (ℕ → ℕ) → ℕ → ℕ → ℕ → ℕ
term divisor first z zero = first
term divisor first z (suc j) = term divisor first z j * z / (scale * divisor (suc j))

-- The first term and those of j = 1 to n, "signs alternating, first plus": those of odd j are taken away.
unfoldable pub alternating : (ℕ → ℕ) → ℕ → ℤ
alternating terms zero = pos (terms 0)
alternating terms (suc j) =
    cond (eqb (suc j % 2) 1) (alternating terms j -ℤ pos (terms (suc j))) (alternating terms j +ℤ pos (terms (suc j)))

-- "2j × (2j + 1)", and for the cosine "(2j − 1) × 2j"
abbrev pub sine_divisor : ℕ → ℕ
sine_divisor j = 2 * j * (2 * j + 1)

abbrev pub cosine_divisor : ℕ → ℕ
cosine_divisor j = (2 * j - 1) * (2 * j)

-- "Sine of q: z = q × q / 10⁹. Terms: q, then .., j = 1 to 6"
unfoldable pub sine_of : ℕ → ℤ
sine_of q = alternating (term sine_divisor q (q * q / scale)) 6

-- "Cosine: terms 10⁹, then .., j = 1 to 6, likewise."
unfoldable pub cosine_of : ℕ → ℤ
cosine_of q = alternating (term cosine_divisor scale (q * q / scale)) 6

-- "t2 = t × t / 10⁹, t3 = t2 × t / 10⁹, t4 = t2 × t2 / 10⁹."
unfoldable pub t2 : ℕ → ℕ
t2 t = t * t / scale

unfoldable pub t3 : ℕ → ℕ
t3 t = t2 t * t / scale

unfoldable pub t4 : ℕ → ℕ
t4 t = t2 t * t2 t / scale

-- "with t6 = t4 × t2 / 10⁹ and t5 = t4 × t / 10⁹" (document 02, N7)
unfoldable pub t6 : ℕ → ℕ
t6 t = t4 t * t2 t / scale

unfoldable pub t5 : ℕ → ℕ
t5 t = t4 t * t / scale

-- "x = 10⁹ − t2/10 + t4/216.", N7: "x loses t6/9360": the end of the spiral of length one, along its tangent
unfoldable pub unit_x : ℕ → ℤ
unit_x t = pos scale -ℤ pos (t2 t / 10) +ℤ pos (t4 t / 216) -ℤ pos (t6 t / 9360)

-- "y = t/3 − t3/42.", N7: "y gains t5/1320": and square to its tangent
unfoldable pub unit_y : ℕ → ℤ
unit_y t = pos (t / 3) -ℤ pos (t3 t / 42) +ℤ pos (t5 t / 1320)

-- "X = L × x / 10⁶": a length in mm times a ratio, in µm
abbrev pub scaled_length : ℕ → ℤ → ℤ
scaled_length L ratio = rounded (pos L *ℤ ratio) 1000000

-- The end of the spiral along the tangent,
unfoldable pub spiral_x : ℕ → ℕ → ℤ
spiral_x R L = scaled_length L (unit_x (spiral_angle R L))

-- "Y = L × y / 10⁶": and square to the tangent
unfoldable pub spiral_y : ℕ → ℕ → ℤ
spiral_y R L = scaled_length L (unit_y (spiral_angle R L))

-- "k = X − R × sine(t) / 10⁶.": the abscissa of the arc's centre
unfoldable pub centre_of : ℕ → ℕ → ℤ
centre_of R L = spiral_x R L -ℤ scaled_length R (sine_of (spiral_angle R L))

-- "p = Y − R × (10⁹ − cosine(t)) / 10⁶.": the shift of the arc
unfoldable pub shift_of : ℕ → ℕ → ℤ
shift_of R L = spiral_y R L -ℤ scaled_length R (pos scale -ℤ cosine_of (spiral_angle R L))

-- "D = R × full angle / 10⁶ − 1,000 × L.": the length of the arc
unfoldable pub arc_of : ℕ → ℕ → ℕ → ℤ
arc_of A R L = rounded (pos (R * full_angle A)) 1000000 -ℤ pos (1000 * L)

-- "tan = sine × 10⁹ / cosine, of the half angle."
unfoldable pub tan_of : ℕ → ℤ
tan_of A = sine_of (half_angle A) *ℤ pos scale ÷ cosine_of (half_angle A)

-- "TT = k + (1,000 × R + p) × tan / 10⁹.": the tangent, from TS to the PI
unfoldable pub tangent_of : ℕ → ℕ → ℕ → ℤ
tangent_of A R L = centre_of R L +ℤ rounded ((pos (1000 * R) +ℤ shift_of R L) *ℤ tan_of A) scale
