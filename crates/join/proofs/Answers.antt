-- What a test tells. Assumes nothing.
use mathlib.Core.Path.{◌≡◌, sym, ◌∙◌}
use mathlib.Core.Bool.{Bool, true, false, not, false≢true}

-- a test that was turned round
pub untrue : {v x y : Bool} → v ≡ not x → v ≡ true → x ≡ y → false ≡ y
untrue {x = false} e t h = h
untrue {x = true} e t h = absurd (false≢true (sym e ∙ t))
