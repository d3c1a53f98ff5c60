-- The definitions at numbers: the earliest cells of five in eight slots, the strays of all loads of eight slots, the report's example of 21
-- cells in 64 slots, and the deviations of all sizes of a frame.
use Prim.Native.Nat.{◌*◌}
use mathlib.Core.Path.{◌≡◌, refl}
use mathlib.Core.List.{[], ◌∷◌, map}
use Rattle.rules.specs.Words.{up_from}
use Rattle.strays.specs.Stray.{earliest, largest, stray}
use Rattle.strays.specs.Deviation.{deviation, repeat_deviation}

five_in_eight : map (earliest 3 5) (up_from 0 9) ≡ 0 ∷ 1 ∷ 2 ∷ 3 ∷ 3 ∷ 4 ∷ 4 ∷ 5 ∷ 5 ∷ []
unfolding earliest
five_in_eight = refl

in_eight : map (stray 3) (up_from 0 9) ≡ 0 ∷ 7 ∷ 6 ∷ 9 ∷ 4 ∷ 9 ∷ 6 ∷ 7 ∷ 0 ∷ []
unfolding stray largest earliest
in_eight = refl

-- 4.22 cells, in parts of 1 / 64 of a cell
in_sixty_four : 2 * stray 6 21 ≡ 270
unfolding stray largest earliest
in_sixty_four = refl

deviations_are : map deviation (up_from 0 11) ≡ 0 ∷ 1 ∷ 3 ∷ 9 ∷ 23 ∷ 57 ∷ 135 ∷ 313 ∷ 711 ∷ 1593 ∷ 3527 ∷ []
unfolding deviation
deviations_are = refl

repeats_are : map repeat_deviation (up_from 0 11) ≡ 0 ∷ 1 ∷ 4 ∷ 12 ∷ 36 ∷ 92 ∷ 228 ∷ 540 ∷ 1252 ∷ 2844 ∷ 6372 ∷ []
unfolding repeat_deviation deviation
repeats_are = refl
