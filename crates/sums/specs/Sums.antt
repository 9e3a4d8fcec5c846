-- 01, 'Sums in stated order': every sum starts at +0.0, goes by ascending index, and rounds each term before adding it.
use Rattle.std.specs.Prelude.{ℕ, false, [], ◌∷◌, replicate, pos, Float}
use Rattle.std.specs.Float.{Format, fin, inf, binary32, binary64}
use Rattle.std.specs.Float.Ieee.{add, sub, mul, of_int}
use Rattle.sums.specs.Rows.{Row}

abbrev pub zero32 : Float
zero32 = fin false 0 (pos 0)

abbrev pub one32 : Float
one32 = fin false 1 (pos 0)

abbrev pub two32 : Float
two32 = fin false 1 (pos 1)

abbrev pub infinity : Float
infinity = inf false

-- a count as a 32-bit float
abbrev pub count32 : ℕ → Float
count32 n = of_int binary32 (pos n)

-- The sum so far with the terms of the pairs left added to it one by one, in the format. The shorter list ends it.
unfoldable pub sum_from : Format → (Float → Float → Float) → Float → Row → Row → Float
sum_from format term sum [] ys = sum
sum_from format term sum (x ∷ xs) [] = sum
sum_from format term sum (x ∷ xs) (y ∷ ys) = sum_from format term (add format sum (term x y)) xs ys

abbrev pub product : Float → Float → Float
product x y = mul binary32 x y

-- the difference times itself
abbrev pub square : Float → Float → Float
square x y = let gap = sub binary32 x y in mul binary32 gap gap

-- the difference taken in 32 bits, and then times itself in 64: to widen is to keep the value (01, 'K-means' step 4)
abbrev pub wide_square : Float → Float → Float
wide_square x y = let gap = sub binary32 x y in mul binary64 gap gap

-- each value times itself
unfoldable pub norm_of : Row → Float
norm_of xs = sum_from binary32 product zero32 xs xs

unfoldable pub dot_of : Row → Row → Float
dot_of xs ys = sum_from binary32 product zero32 xs ys

-- the squared distance
unfoldable pub apart_of : Row → Row → Float
apart_of xs ys = sum_from binary32 square zero32 xs ys

-- one row's share of the objective, in 64 bits (01, 'K-means' step 4)
unfoldable pub spread_of : Row → Row → Float
spread_of xs ys = sum_from binary64 wide_square zero32 xs ys

-- the sums so far with one row added, value by value
unfoldable pub add_row : Row → Row → Row
add_row [] xs = []
add_row (s ∷ sums) [] = s ∷ sums
add_row (s ∷ sums) (x ∷ xs) = add binary32 s x ∷ add_row sums xs

-- dim sums that nothing was added to
abbrev pub zero_row : ℕ → Row
zero_row dim = replicate dim zero32
