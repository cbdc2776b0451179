-- `height`: a height that is answered is stored; a refusal is handed on. Assumes nothing.
use mathlib.Core.Path.{sym, ap}
use mathlib.Core.List.{[], ◌∷◌}
use borrow.Author.Rules.{rules}
use lib.IntN.{ℤ}
use mir.Syntax.{w64}
use mir.Val.{SFits}
use mir.Facts.{to_z-of_z}
use Rattle.refusals.specs.Order.{unchecked}
use Rattle.refusals.proofs.FillWays.{refused_fill, refill}
use Rattle.refusals.proofs.Replied.{replied, unreplied}
use Rattle.profile.specs.HeightAt.{height_by}
use Rattle.profile_numbers.specs.Numbers.{profile_of, height_numbers, numbers_checks}
use Rattle.profile_numbers.proofs.Sizes.{size_refused, size_passed}
use Rattle.profile_numbers.proofs.call.height.Goals as goal

pub returns-in_err-read : goal.returns-in_err-read
returns-in_err-read c =
    let a = c.args in
    let numbers = a.profile.now in
    let e = size_refused numbers a.station (sym c.in_err-read.ensures.answer) in
    let met = refused_fill (numbers_checks numbers a.station) (height_numbers numbers a.station) a.height.now e in
    record { answer = search rules; memory = met.1 }

pub returns-in_err-found : goal.returns-in_err-found
returns-in_err-found c =
    let a = c.args in
    let numbers = a.profile.now in
    let checks = numbers_checks numbers a.station in
    let size = c.in_ok-read.ensures in
    let told = size_passed numbers a.station (sym size.answer) size.profile c.in_err-found.ensures.answer in
    let e = unreplied checks (height_by (profile_of numbers) a.station) told in
    let met = refused_fill checks (height_numbers numbers a.station) a.height.now e in
    record { answer = search rules; memory = met.1 }

pub returns : goal.returns
unfolding height_numbers
returns c =
    let a = c.args in
    let numbers = a.profile.now in
    let checks = numbers_checks numbers a.station in
    let size = c.in_ok-read.ensures in
    let told = size_passed numbers a.station (sym size.answer) size.profile c.in_ok-found.ensures.answer in
    let found = replied checks (height_by (profile_of numbers) a.station) told in
    let v = c.in_ok-found.found in
    let fits : SFits w64 v = search rules in
    let stored = simp to_z-of_z at c.fill_front.ensures in
    let met = refill unchecked checks (v ∷ []) (height_numbers numbers a.station) a.height.now (sym found.0) (ap (λ (z : ℤ). z ∷ []) found.1) (stored.answer, stored.memory) in
    record { answer = met.0; memory = met.1 }
