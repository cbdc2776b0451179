-- Document 01's cases 1 (elements), 6, 7, 8 and 11, a ramp, points of spirals and turns, from the definitions. Assumes nothing.
use mathlib.Core.Path.{◌≡◌, refl}
use Prim.Native.Nat.{ℕ}
use native.Mathlib.Nat.{mul-zero, zero-div}
use lib.IntN.{pos, negsuc}
use Rattle.line.specs.Checks.{curve_checks}
use Rattle.elements.specs.WorkingRule.{rounded, full_angle, half_angle, spiral_angle, term, alternating, sine_of, cosine_of, t2, t3, t4, t5, t6, unit_x, unit_y, spiral_x, spiral_y, centre_of, shift_of, arc_of, tan_of, tangent_of}
use Rattle.refusals.specs.Replying.{Reply, answered, declined, reply}
use Rattle.elements.specs.Answer.{Values, values_by, arc_check, element_checks, element_reply}
use Rattle.elements.specs.SpiralPoint.{part_to, angle_to, offset_x, offset_y, Offsets, offsets_by, inside_check, point_checks, point_reply}
use Rattle.elements.specs.TurnAngle.{turn_angle}

-- The elements that are answered, in document 01's order.
abbrev elements : (X Y k p D TT : ℕ) → Reply Values
elements X Y k p D TT = answered (record { X = pos X; Y = pos Y; k = pos k; p = pos p; D = pos D; TT = pos TT })

-- The offsets of a point of a spiral.
abbrev offsets : (x y : ℕ) → Reply Offsets
offsets x y = answered (record { x = pos x; y = pos y })

pub record Examples : Type 0 where
  pub case_1 : element_reply 177764 350000 40000 ≡ elements 39986941 761727 19997824 190454 261638467 180989280
  pub case_6 : element_reply 23574 350000 40000 ≡ elements 39986941 761727 19997824 190454 1492 40031265
  pub case_7 : arc_of 23573 350000 40000 ≡ negsuc 204
  pub case_7_refused : element_reply 23573 350000 40000 ≡ declined 14 0
  pub case_8 : element_reply 1 350000 0 ≡ elements 0 0 0 0 1697 848
  pub case_8_short : arc_of 1 200000 0 ≡ pos 970
  pub case_8_refused : element_reply 1 200000 0 ≡ declined 14 0
  pub greatest : element_reply 432000 5000000 0 ≡ elements 0 0 0 0 10471975510 8660254040
  pub widest_spiral : element_reply 432000 500000 500000 ≡ elements 487643841 81857075 247931072 20648355 547197551 1149720476
  pub arc_of_1000 : element_reply 1 206168 0 ≡ elements 0 0 0 0 1000 500
  pub arc_of_999 : element_reply 1 206167 0 ≡ declined 14 0
  -- ---- quotients that are exactly a half: X, Y, the sine's part and the arc; X, the sine's and the cosine's parts and the arc; the arc and TT
  pub half_y : element_reply 431987 4375000 500000 ≡ elements 499836760 9521589 249972792 2380675 8662702833 7831266776
  pub half_cosine : element_reply 431996 4550000 150000 ≡ elements 149995925 824160 74999321 206042 9379409481 7956010884
  pub half_tt : element_reply 100000 500000 0 ≡ elements 0 0 0 0 242406841 123634594
  -- ---- quotients just below a half: X, the cosine's part and the arc; Y, the sine's part and TT
  pub below_half_x : element_reply 204466 4622096 296860 ≡ elements 296829387 3177468 148424899 794399 4284927352 2647809653
  pub below_half_y : element_reply 200915 4680251 486484 ≡ elements 486352613 8426222 243220103 2106755 4072377235 2722909570
  -- ---- curves where another rounding of a quotient tells, down or up for the nearest, up or the nearest for down, or a power made of others: t4 of
  -- t3 × t, t5 of t3 × t2, t6 of t5 × t or t3 × t3
  pub each_quotient_1 : element_reply 390074 864886 495081 ≡ elements 491040790 46957010 246866110 11773679 1140532693 1461354362
  pub each_quotient_2 : element_reply 294910 574588 454156 ≡ elements 447113906 59163579 225900915 14873780 367369253 737585157
  pub each_quotient_3 : element_reply 361976 822825 498957 ≡ elements 494389632 50097353 248715975 12565569 945026138 1254036070
  pub each_quotient_4 : element_reply 378045 644498 454014 ≡ elements 448413714 52834224 226071471 13267294 727230880 1083481531
  pub each_quotient_5 : element_reply 400036 515841 481562 ≡ elements 471175142 73768842 239042852 18586649 518875127 1018403232
  pub each_quotient_6 : element_reply 400000 580505 465076 ≡ elements 457668469 61391728 231299736 15436306 660671064 1100203421
  pub each_quotient_7 : element_reply 400000 512756 499931 ≡ elements 488180118 79869209 247998372 20137982 494433495 1024976809
  pub each_quotient_8 : element_reply 411032 1810086 342277 ≡ elements 341971159 10780221 171087519 2695917 3264752633 2971911478
  pub each_quotient_9 : element_reply 388650 663325 74646 ≡ elements 74622371 1399707 37319062 349966 1175209784 950091153
  -- ---- document 02, N7: the least angles at which the last term of y and of x is one, and short spirals at which it tells
  pub first_of_y : element_reply 400000 3747318 499882 ≡ elements 499659663 11110285 249903939 2778011 6767122134 5717677711
  pub first_of_x : element_reply 400000 1721995 499967 ≡ elements 498914368 24157152 249807993 6043838 2839419938 2769350268
  pub short_spiral_y : element_reply 400000 20000 2789 ≡ elements 2787644 64799 1394274 16203 35996094 30578612
  pub short_spiral_x : element_reply 400000 20000 5838 ≡ elements 5825576 283587 2916928 70951 32947094 32181091
  -- ---- a ramp whose spirals are as long as its radius, as elements of the definition; it has no arc
  pub ramp : values_by 200000 500000 500000
      ≡ record { X = pos 487643841; Y = pos 81857075; k = pos 247931072; p = pos 20648355; D = negsuc 15186318; TT = pos 522179793 }
  pub ramp_refused : element_reply 200000 500000 500000 ≡ declined 14 0
  -- ---- refusals
  pub deflection_refused : element_reply 0 19999 500001 ≡ declined 9 0
  pub radius_refused : element_reply 1 19999 500001 ≡ declined 10 0
  pub spiral_refused : element_reply 1 20000 20001 ≡ declined 11 0
  -- ---- points of spirals: their ends and middle; both offsets exactly a half; x, and y, just below; points where another rounding of a quotient
  -- tells; the least angles at which the last term of y and of x is one
  pub half_way_lem : point_reply 350000 40000 20000000 ≡ offsets 19999592 95237
  pub inner_end : point_reply 350000 40000 40000000 ≡ offsets 39986941 761727
  pub longest : point_reply 500000 500000 500000000 ≡ offsets 487643841 81857075
  pub half_offsets : point_reply 4375000 500000 500000000 ≡ offsets 499836760 9521589
  pub below_half_x_lem : point_reply 1531573 334311 163775641 ≡ offsets 163764405 1429839
  pub below_half_y_lem : point_reply 4426522 51686 9371139 ≡ offsets 9371139 599
  pub each_point_quotient_1 : point_reply 548897 494447 479135726 ≡ offsets 470635803 66690060
  pub each_point_quotient_2 : point_reply 524021 496328 494982008 ≡ offsets 484112959 76491240
  pub each_point_quotient_3 : point_reply 503784 499349 491343704 ≡ offsets 480150857 77305047
  pub first_point_of_y : point_reply 3445386 490822 474957148 ≡ offsets 474745897 10556310
  pub first_point_of_x : point_reply 1639585 498613 487195754 ≡ offsets 486170011 23540077
  pub no_spiral : point_reply 350000 0 0 ≡ offsets 0 0
  pub beyond_spiral : point_reply 350000 40000 40000001 ≡ declined 17 0
  pub beyond_no_spiral : point_reply 350000 0 1 ≡ declined 17 0
  pub point_radius_refused : point_reply 19999 500001 500001001 ≡ declined 10 0
  pub point_spiral_refused : point_reply 20000 20001 20001001 ≡ declined 11 0
  -- ---- turns
  pub sine_of_1 : sine_of (turn_angle 1) ≡ pos 4848
  pub cosine_of_1 : cosine_of (turn_angle 1) ≡ pos 1000000000
  pub sine_of_60 : sine_of (turn_angle 216000) ≡ pos 866025404
  pub cosine_of_60 : cosine_of (turn_angle 216000) ≡ pos 500000000
  pub sine_of_greatest : sine_of (turn_angle 216001) ≡ pos 866027828
  pub cosine_of_greatest : cosine_of (turn_angle 216001) ≡ pos 499995800
  pub sine_beyond : sine_of (turn_angle 216002) ≡ pos 866027828
  pub cosine_beyond : cosine_of (turn_angle 216002) ≡ pos 499995800

pub examples : Examples
unfolding curve_checks rounded full_angle half_angle spiral_angle term alternating sine_of cosine_of t2 t3 t4 t5 t6 unit_x unit_y spiral_x spiral_y centre_of shift_of arc_of tan_of tangent_of values_by arc_check element_checks element_reply reply part_to angle_to offset_x offset_y offsets_by inside_check point_checks point_reply turn_angle
examples =
    record {
      case_1 = refl;
      case_6 = refl;
      case_7 = refl;
      case_7_refused = refl;
      case_8 = refl;
      case_8_short = refl;
      case_8_refused = refl;
      greatest = refl;
      widest_spiral = refl;
      arc_of_1000 = refl;
      arc_of_999 = refl;
      half_y = refl;
      half_cosine = refl;
      half_tt = refl;
      below_half_x = refl;
      below_half_y = refl;
      each_quotient_1 = refl;
      each_quotient_2 = refl;
      each_quotient_3 = refl;
      each_quotient_4 = refl;
      each_quotient_5 = refl;
      each_quotient_6 = refl;
      each_quotient_7 = refl;
      each_quotient_8 = refl;
      each_quotient_9 = refl;
      first_of_y = refl;
      first_of_x = refl;
      short_spiral_y = refl;
      short_spiral_x = refl;
      ramp = refl;
      ramp_refused = refl;
      deflection_refused = refl;
      radius_refused = refl;
      spiral_refused = refl;
      half_way_lem = refl;
      inner_end = refl;
      longest = refl;
      half_offsets = refl;
      below_half_x_lem = refl;
      below_half_y_lem = refl;
      each_point_quotient_1 = refl;
      each_point_quotient_2 = refl;
      each_point_quotient_3 = refl;
      first_point_of_y = refl;
      first_point_of_x = refl;
      no_spiral = refl;
      beyond_spiral = refl;
      beyond_no_spiral = refl;
      point_radius_refused = refl;
      point_spiral_refused = refl;
      sine_of_1 = refl;
      cosine_of_1 = refl;
      sine_of_60 = refl;
      cosine_of_60 = refl;
      sine_of_greatest = refl;
      cosine_of_greatest = refl;
      sine_beyond = refl;
      cosine_beyond = refl;
    }

-- Case 11: "L 0: X, Y, k, p are all 0.", at every radius.
pub record WithoutSpirals (R : ℕ) : Type 0 where
  pub X : spiral_x R 0 ≡ pos 0
  pub Y : spiral_y R 0 ≡ pos 0
  pub k : centre_of R 0 ≡ pos 0
  pub p : shift_of R 0 ≡ pos 0

pub without_spirals : (R : ℕ) → WithoutSpirals R
unfolding rounded spiral_angle term alternating sine_of cosine_of t2 t3 t4 t5 t6 unit_x unit_y spiral_x spiral_y centre_of shift_of
without_spirals R =
    record {
      X = rw (zero-div R);
      Y = rw (zero-div R);
      k = rw (zero-div R, mul-zero R);
      p = rw (zero-div R, mul-zero R);
    }
