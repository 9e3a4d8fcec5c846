-- The numbers that a record's first word tells its operation by.
use Rattle.std.specs.Prelude.{◌≡◌, ℕ, ◌<◌, Result, MatchResult}
use Rattle.replay.specs.declared.operation.Operation.{Operation}
use Rattle.replay.specs.declared.operation.Operation.TheVariants.{Label, KMeans, Grouping, Closure}
use Rattle.replay.specs.declared.operation.NoOperation.{NoOperation}

abbrev pub number_of : Operation → ℕ
number_of Label = 0
number_of KMeans = 1
number_of Grouping = 2
number_of Closure = 3

-- the operation of a number, or an error where it is none's
abbrev pub Decodes : ℕ → Result Operation NoOperation → Type 0
Decodes number r = MatchResult r (λ operation. number_of operation ≡ number) (λ e. (e.0 ≡ number) × (3 < number))
