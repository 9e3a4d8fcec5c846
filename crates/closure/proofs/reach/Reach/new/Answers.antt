use mathlib.Core.Path.{refl}
use lib.Ieee.{of_bits}
use Rattle.closure.specs.Closure.{reach_of}
use Rattle.closure.proofs.reach.Reach.new.Goals as goal

pub returns : goal.returns
unfolding reach_of of_bits
returns c = refl
