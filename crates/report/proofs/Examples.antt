-- Texts by computation: document 01's case 1 as printed there, other stations and refusals, lengths, and the caller's bytes. Assumes nothing.
use mathlib.Core.Path.{◌≡◌, refl}
use mathlib.Core.List.{[], ◌∷◌, ◌++◌}
use lib.ListN.{replicate}
use Rattle.refusals.specs.Order.{unchecked}
use Rattle.refusals.specs.Filling.{filled, unfilled, with_room, fill}
use Rattle.report.specs.Numbers.{ascii, digits_within, decimal, metres}
use Rattle.report.specs.Text.{words, heading, turn_name, point_name, point_curve, point_line, lines_of, station_list, refusal_line, row_line, table_text, named_line, length_list}

pub record Examples : Type 0 where
  pub case_1 : station_list (319010720 ∷ 359010720 ∷ 620649187 ∷ 660649187 ∷ 879659907 ∷ [])
      ≡ ascii "POINT CURVE STATION\nTS 1 319.010720\nSC 1 359.010720\nCS 1 620.649187\nST 1 660.649187\nEND 0 879.659907\n"
  pub no_curve_lem : station_list (500000000 ∷ []) ≡ ascii "POINT CURVE STATION\nEND 0 500.000000\n"
  pub far : station_list (4000500000000 ∷ []) ≡ ascii "POINT CURVE STATION\nEND 0 4000500.000000\n"
  pub second_curve : point_line (1 ∷ 2 ∷ 3 ∷ 4 ∷ 5 ∷ 6 ∷ 7 ∷ 8 ∷ 9 ∷ []) 6 ≡ ascii "CS 2 0.000007\n"
  pub third_curve : point_line (replicate 13 7) 8 ≡ ascii "TS 3 0.000007\n"
  pub last_curve : point_line (replicate 257 7) 255 ≡ ascii "ST 64 0.000007\n"
  pub first_station : metres 0 ≡ ascii "0.000000"
  pub short_straight : metres 1720 ≡ ascii "0.001720"
  pub greatest : metres 18446744073709551615 ≡ ascii "18446744073709.551615"
  pub refusal : refusal_line 15 0 ≡ ascii "REFUSED 15 0\n"
  pub one_digit_to_9 : refusal_line 9 10 ≡ ascii "REFUSED 9 10\n"
  pub last_place : refusal_line 8 64 ≡ ascii "REFUSED 8 64\n"
  -- ---- rows of two numbers
  pub two_rows : table_text (1000000000 ∷ 0 ∷ 999999900 ∷ 333333 ∷ []) ≡ ascii "0 1000000000 0\n1 999999900 333333\n"
  pub row_10 : row_line (replicate 22 7) 10 ≡ ascii "10 7 7\n"
  pub half_a_row : table_text (1 ∷ 2 ∷ 3 ∷ []) ≡ ascii "0 1 2\n"
  pub no_row : table_text [] ≡ []
  -- ---- lengths
  pub case_1_lengths : length_list 538021440 80000000 261638467 879659907 ≡ ascii "STRAIGHTS 538021440\nSPIRALS 80000000\nARCS 261638467\nSUM 879659907\n"
  pub one_straight : length_list 500000000 0 0 500000000 ≡ ascii "STRAIGHTS 500000000\nSPIRALS 0\nARCS 0\nSUM 500000000\n"
  -- ---- the caller's bytes
  pub too_small : (fill unchecked (refusal_line 15 0) (replicate 12 7)).reply ≡ unfilled 16 0
  pub as_lent : (fill unchecked (refusal_line 15 0) (replicate 12 7)).buffer ≡ replicate 12 7
  pub exact : (fill unchecked (refusal_line 15 0) (replicate 13 7)).reply ≡ filled 13
  pub row_exact : (fill unchecked (table_text (1 ∷ 2 ∷ [])) (replicate 6 7)).reply ≡ filled 6
  pub row_too_small : (fill unchecked (table_text (1 ∷ 2 ∷ [])) (replicate 5 7)).reply ≡ unfilled 16 0
  pub lengths_exact : (fill unchecked (length_list 1 2 3 6) (replicate 35 7)).reply ≡ filled 35
  pub lengths_too_small : (fill unchecked (length_list 1 2 3 6) (replicate 34 7)).reply ≡ unfilled 16 0
  pub remainder : (fill unchecked (refusal_line 1 0) (replicate 14 7)).buffer ≡ ascii "REFUSED 1 0\n" ++ (7 ∷ 7 ∷ [])

pub examples : Examples
unfolding ascii digits_within decimal metres words heading turn_name point_name point_curve point_line lines_of station_list refusal_line row_line table_text named_line length_list with_room fill
examples =
    record {
      case_1 = refl;
      no_curve_lem = refl;
      far = refl;
      second_curve = refl;
      third_curve = refl;
      last_curve = refl;
      first_station = refl;
      short_straight = refl;
      greatest = refl;
      refusal = refl;
      one_digit_to_9 = refl;
      last_place = refl;
      two_rows = refl;
      row_10 = refl;
      half_a_row = refl;
      no_row = refl;
      case_1_lengths = refl;
      one_straight = refl;
      too_small = refl;
      as_lent = refl;
      exact = refl;
      row_exact = refl;
      row_too_small = refl;
      lengths_exact = refl;
      lengths_too_small = refl;
      remainder = refl;
    }
